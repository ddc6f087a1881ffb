-- What the handle joins is what it found between its own generation and this one.
use Rattle.std.proofs.Common.{◌<◌, ap, refl, ◌∙◌, subst, sym}
use mathlib.Core.List.{IsPrefix}
use Rattle.kfifo_renewing.specs.History.{WasNewest}
use Rattle.kfifo_renewing.specs.Renewing.{Follows, Generations}
use Rattle.kfifo_renewing.proofs.Histories.{was-later}
use Rattle.kfifo_renewing.proofs.Joining.{part-later}
use Rattle.kfifo_renewing.proofs.Following.{follows-refl}
use Rattle.kfifo_renewing.proofs.handle.RenewingHandle.join_up_to.Goals as goal

pub returns-in_default : goal.returns-in_default
returns-in_default g c = follows-refl c.args.self.now

pub returns-then-not-enter_below : goal.returns-then-not-enter_below
returns-then-not-enter_below g c =
    subst (λ (v : Generations g.row.T.Denot). Follows c.args.self.now v)
    (sym (c.self-2.view_is ∙ c.take_spare-between.ensures.same))
    (follows-refl c.args.self.now)

pub leave_unused-requires : goal.leave_unused-requires
leave_unused-requires g c i d inside = (c.enter_below.ensures.unused i d inside).1.0

pub join-requires-clause-part : goal.join-requires-clause-part
join-requires-clause-part g c =
    let entered = c.in-Some.ensures in (
      entered.part.1 ∙ sym entered.part.0,
      part-later c.enter_numbered.new.history.log c.enter_below.new.history.log c.in-Some.newest
          c.enter_below.ensures.later.1 entered.part.2,
    )

pub join-requires-clause-was : goal.join-requires-clause-was
join-requires-clause-was g c =
    let seen = c.take_spare-between.new.self.seen in
    subst (WasNewest seen) (sym c.in-Some.ensures.part.0)
    (subst (λ l. WasNewest l c.args.last)
    (sym (ap (λ (v : Generations g.row.T.Denot). v.seen) c.take_spare-between.ensures.same)) c.requires)

pub join-requires-clause-all : goal.join-requires-clause-all
join-requires-clause-all g c n above below was =
    let T = g.row.T.Denot in
    let same = c.take_spare-between.ensures.same in
    let first = c.take_spare-between.new.self.seen in
    let entered = c.enter_numbered.new.history.log in
    let more : IsPrefix first entered = subst (λ l. IsPrefix l entered)
    (ap (λ h. h.log) c.again-history.ensures ∙ ap (λ (v : Generations T). v.seen) c.self.view_is
    ∙ sym (ap (λ (v : Generations T). v.seen) same))
    c.enter_numbered.ensures.later.1 in
    c.if-not-enter_below.ensures.all refl n
    above (subst (λ k. n < k) c.in-Some.ensures.part.0 below)
    (was-later first entered n more was)

pub enter_numbered-requires-clause-newest : goal.enter_numbered-requires-clause-newest
enter_numbered-requires-clause-newest g c =
    subst (λ l. WasNewest l c.args.last) (sym (ap (λ h. h.log) c.again-history.ensures
    ∙ ap (λ (v : Generations g.row.T.Denot). v.seen) c.self.view_is)) c.requires

pub enter_below-requires-clause-newest : goal.enter_below-requires-clause-newest
enter_below-requires-clause-newest g c =
    let first = c.again-history.result.log in
    was-later first c.enter_numbered.new.history.log c.args.last c.enter_numbered.ensures.later.1
    (subst (λ l. WasNewest l c.args.last) (sym (ap (λ h. h.log) c.again-history.ensures
    ∙ ap (λ (v : Generations g.row.T.Denot). v.seen) c.self.view_is)) c.requires)
