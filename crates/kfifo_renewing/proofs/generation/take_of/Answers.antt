-- Each other handle is still there.
use Rattle.std.proofs.Common.{arith, ap, inl, inr, sym, ◌∙◌, ⊎_elim, subst}
use Rattle.std.specs.List.{Contains}
use Rattle.kfifo_renewing.proofs.Joining.{get-at}
use Rattle.kfifo_renewing.proofs.Parts.{contains-without}
use Rattle.kfifo_renewing.proofs.generation.take_of.Goals as goal

pub returns-then-thread-clause-others : goal.returns-then-thread-clause-others
returns-then-thread-clause-others g c h of =
    let before = c.loop-index.handles.items in
    let i = c.loop-index.index in
    ⊎_elim
    (λ stays. inl (subst (λ l. Contains l h) (sym c.remove.ensures.by_index.2) stays))
    (λ at. inr (sym (get-at before i c.remove.result c.remove.result
    (omega (arith, c.loop-index-test.true, c.len.ensures))
    c.remove.ensures.value) ∙ at))
    (contains-without before i h (subst (λ l. Contains l h) (sym (ap (λ v. v.items) c.loop-index.invariant.same)) of))
