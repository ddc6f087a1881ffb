-- A handle leaves what is gone, and then joins what is new.
use Rattle.std.proofs.Common.{ap, ◌∙◌, subst, true, ◌≡◌}
use Rattle.kfifo_pool.specs.Pooled.{Pooled}
use Rattle.kfifo_renewing.specs.Joining.{PartView}
use Rattle.kfifo_renewing.specs.Renewing.{Generations, IsLater, LeavesGone, with_newest, with_older, with_seen}
use Rattle.kfifo_renewing.proofs.Following.{both-before, follows-less, follows-seen, follows-trans}
use Rattle.kfifo_renewing.proofs.handle.RenewingHandle.follow.Goals as goal

pub loop-init : goal.loop-init
loop-init g c =
    let T = g.row.T.Denot in
    let old = c.args.self.now in
    let mid = c.leave_gone.new.self in
    let before = ap (λ (h : Generations T). with_newest h c.stop_giving.new.self.handle) c.self.view_is
    ∙ ap (λ (h : Pooled T). with_newest old h) (ap (λ (p : PartView T). p.handle) c.stop_giving.ensures
    ∙ ap (λ (h : Generations T). h.newest) c.self.view_is) in
    let later : IsLater old mid = subst (λ (h : Generations T). IsLater h mid) before c.leave_gone.ensures.later in
    let same : mid ≡ with_older (with_seen old mid.seen) mid.older =
    subst (λ (h : Generations T). mid ≡ with_older (with_seen h mid.seen) mid.older) before c.leave_gone.ensures.same in
    let first = follows-less old mid later (subst (λ (h : Generations T). LeavesGone mid.seen h.older mid.older) before
    c.leave_gone.ensures.older)
    (ap (λ (h : Generations T). h.newest) same) (ap (λ (h : Generations T). h.number) same) in
    follows-trans old mid c.clear_below.new.self first
    (follows-seen mid c.clear_below.new.self c.clear_below.new.self.seen c.clear_below.ensures.same
    c.clear_below.ensures.later)

pub loop-preserved : goal.loop-preserved
loop-preserved g c =
    follows-trans c.args.self.now c.loop.self c.try_to_follow.new.self c.loop.invariant c.try_to_follow.ensures.follows

pub returns-then-try_to_follow : goal.returns-then-try_to_follow
returns-then-try_to_follow g c = record {
  follows = follows-trans c.args.self.now c.loop.self c.try_to_follow.new.self c.loop.invariant
      c.try_to_follow.ensures.follows;
  newest = both-before c.args.self.now c.loop.self c.try_to_follow.new.self c.loop.invariant.later.seen true
      c.if-try_to_follow.ensures.newest;
  all = c.if-try_to_follow.ensures.all;
}

pub returns : goal.returns
returns g c =
    let new = c.try_to_follow-2.new.self in record {
      follows = follows-trans c.args.self.now c.loop.self new c.loop.invariant c.try_to_follow-2.ensures.follows;
      newest = both-before c.args.self.now c.loop.self new c.loop.invariant.later.seen c.try_to_follow-2.result
          c.try_to_follow-2.ensures.newest;
      all = c.try_to_follow-2.ensures.all;
    }
