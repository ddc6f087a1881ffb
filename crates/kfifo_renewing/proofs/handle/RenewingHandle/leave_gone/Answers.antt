-- A generation that has gone is left, and the others stay.
use Rattle.std.proofs.Common.{refl, ap, ◌∙◌}
use Rattle.kfifo_renewing.specs.Renewing.{Generations, with_older, with_seen}
use Rattle.kfifo_renewing.proofs.Departures.{leaves-later, leaves-refl, leaves-trans}
use Rattle.kfifo_renewing.proofs.Following.{later-refl, later-trans}
use Rattle.kfifo_renewing.proofs.handle.RenewingHandle.leave_gone.Goals as goal

pub loop-index-init : goal.loop-index-init
loop-index-init g c =
    let now = c.args.self.now in
    record { same = refl; later = later-refl now; older = leaves-refl now.seen now.older }

pub loop-index-preserved-then-not-leave_if_gone : goal.loop-index-preserved-then-not-leave_if_gone
loop-index-preserved-then-not-leave_if_gone g c =
    let now = c.args.self.now in
    let i = c.loop-index.invariant in
    let mid = c.loop-index.self in
    let new = c.leave_if_gone.new.self in
    let left = c.leave_if_gone.ensures in
    record {
      same = left.same ∙ ap (λ (v : Generations g.row.T.Denot). with_older (with_seen v new.seen) new.older) i.same;
      later = later-trans now mid new i.later left.later;
      older = leaves-trans new.seen now.older mid.older new.older
          (leaves-later mid.seen new.seen now.older mid.older left.later.seen i.older) left.older;
    }

pub loop-index-preserved : goal.loop-index-preserved
loop-index-preserved g c =
    let now = c.args.self.now in
    let i = c.loop-index.invariant in
    let mid = c.loop-index.self in
    let new = c.leave_if_gone.new.self in
    let left = c.leave_if_gone.ensures in
    record {
      same = left.same ∙ ap (λ (v : Generations g.row.T.Denot). with_older (with_seen v new.seen) new.older) i.same;
      later = later-trans now mid new i.later left.later;
      older = leaves-trans new.seen now.older mid.older new.older
          (leaves-later mid.seen new.seen now.older mid.older left.later.seen i.older) left.older;
    }
