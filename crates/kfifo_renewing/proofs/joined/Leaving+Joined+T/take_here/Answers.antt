-- The pass is the same after the call.
use Rattle.std.proofs.Common.{ap, ◌∙◌, subst}
use Rattle.kfifo_pool.specs.Pooled.{Pooled}
use Rattle.kfifo_renewing.specs.declared.joined.Joined.{Joined}
use Rattle.kfifo_renewing.specs.declared.leaving.Leaving.TheInside.{Inside}
use Rattle.kfifo_renewing.specs.Joining.{PartView}
use Rattle.kfifo_renewing.specs.Renewing.{TakesThere}
use Rattle.kfifo_renewing.proofs.joined.Leaving+Joined+T.take_here.Goals as goal

pub invariant_of-self-inside : goal.invariant_of-self-inside
invariant_of-self-inside g c =
    let i = c.self-inside.invariant in
    let same = c.take.ensures.same in (same.0 ∙ i.0, same.1 ∙ i.1)

pub returns-clause-takes : goal.returns-clause-takes
returns-clause-takes g c =
    let T = g.row.T.Denot in
    let here = ap (λ (i : Inside (Joined T)). i.part.handle) c.self-inside.view_is
    ∙ ap (λ (p : PartView T). p.handle) c.self.view_is in
    subst (λ (h : Pooled T). TakesThere g.K.Kind.takes c.take.result h c.take.new.handle) here c.take.ensures.takes
