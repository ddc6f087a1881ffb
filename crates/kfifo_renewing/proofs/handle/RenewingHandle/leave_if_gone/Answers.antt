-- A look at the place changes nothing but what was seen.
use Rattle.std.proofs.Common.{◌≡◌, MatchBool, ap, subst, sym}
use Rattle.kfifo_renewing.specs.Joining.{LeavesAt}
use Rattle.kfifo_renewing.specs.Renewing.{Generations, LeavesGone}
use Rattle.kfifo_renewing.proofs.Departures.{leaves-refl}
use Rattle.kfifo_renewing.proofs.Following.{later-trans}
use Rattle.kfifo_renewing.proofs.Joining.{gone-if}
use Rattle.kfifo_renewing.proofs.handle.RenewingHandle.leave_if_gone.Goals as goal

pub returns-then-is_shown-clause-older : goal.returns-then-is_shown-clause-older
returns-then-is_shown-clause-older g c =
    let new = c.is_shown.new.self in
    subst (λ hs. LeavesGone new.seen c.args.self.now.older hs)
    (sym (ap (λ (h : Generations g.row.T.Denot). h.older) c.is_shown.ensures.same))
    (leaves-refl new.seen c.args.self.now.older)

pub returns-clause-later : goal.returns-clause-later
returns-clause-later g c =
    later-trans c.args.self.now c.is_shown.new.self c.leave.new.self c.is_shown.ensures.later c.leave.ensures.later

pub returns-clause-older : goal.returns-clause-older
returns-clause-older g c =
    let new = c.leave.new.self in
    (gone-if c.leave.result new.seen c.args.index c.args.self.now.older new.older
    (subst (λ hs. MatchBool c.leave.result (LeavesAt new.seen c.args.index hs new.older) (new.older ≡ hs))
    (ap (λ (h : Generations g.row.T.Denot). h.older) c.is_shown.ensures.same) c.leave.ensures.left)).0

pub returns-clause-fewer : goal.returns-clause-fewer
returns-clause-fewer g c =
    let new = c.leave.new.self in
    (gone-if c.leave.result new.seen c.args.index c.args.self.now.older new.older
    (subst (λ hs. MatchBool c.leave.result (LeavesAt new.seen c.args.index hs new.older) (new.older ≡ hs))
    (ap (λ (h : Generations g.row.T.Denot). h.older) c.is_shown.ensures.same) c.leave.ensures.left)).1
