-- The pass is the same after the call.
use Rattle.std.proofs.Common.{ap, ◌∙◌, subst}
use Rattle.kfifo_pool.specs.Pooled.{Pooled}
use Rattle.kfifo_renewing.specs.declared.joined.Joined.{Joined}
use Rattle.kfifo_renewing.specs.declared.leaving.Leaving.TheInside.{Inside}
use Rattle.kfifo_renewing.specs.Joining.{PartView}
use Rattle.kfifo_renewing.specs.Renewing.{SealsThere}
use Rattle.kfifo_renewing.proofs.joined.Leaving+Joined+T.take_or_seal_here.Goals as goal

pub invariant_of-self-inside : goal.invariant_of-self-inside
invariant_of-self-inside g c =
    let i = c.self-inside.invariant in
    let same = c.take_or_seal.ensures.same in (same.0 ∙ i.0, same.1 ∙ i.1)

pub returns-clause-seals : goal.returns-clause-seals
returns-clause-seals g c =
    let T = g.row.T.Denot in
    let here = ap (λ (i : Inside (Joined T)). i.part.handle) c.self-inside.view_is
    ∙ ap (λ (p : PartView T). p.handle) c.self.view_is in
    subst (λ (h : Pooled T). SealsThere g.K.Kind.seals c.take_or_seal.result h c.take_or_seal.new.handle) here
    c.take_or_seal.ensures.seals
