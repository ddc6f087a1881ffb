-- Those behind the one that is left come forward. One that is not left comes back to where it was.
use Rattle.std.proofs.Common.{◌≡◌, All, List, Some, arith, drop, slice_get, ap, ◌∙◌, subst, sym}
use Rattle.std.specs.List.{insert}
use Rattle.std.specs.Prelude.{if◌then◌else◌}
use Rattle.kfifo_renewing.specs.Joining.{HasNoCell, OlderView, PartView, held_in}
use Rattle.kfifo_renewing.specs.Renewing.{HasLeft}
use Rattle.kfifo_renewing.proofs.Joining.{get-of, insert-back}
use Rattle.kfifo_renewing.proofs.NoCells.{all-from-without}
use Rattle.kfifo_renewing.proofs.older.Older.leave.Goals as goal

pub invariant_of-self : goal.invariant_of-self
invariant_of-self g c =
    subst (λ l. All HasNoCell (drop c.self.inside.with_cells l)) (sym c.remove-part.ensures.by_index.2)
    (all-from-without HasNoCell c.self.inside.parts.items c.self.inside.with_cells c.args.index c.self.invariant)

pub returns-in_default-clause-left : goal.returns-in_default-clause-left
returns-in_default-clause-left g c won p at =
    let T = g.row.T.Denot in
    let items = c.self.inside.parts.items in
    let there : slice_get items c.args.index ≡ Some p = subst (λ l. slice_get l c.args.index ≡ Some p)
    (sym (ap (λ (o : OlderView T). o.items) c.self.view_is)) at in
    subst (λ (x : PartView T). HasLeft c.depart.new.history.log (held_in x))
    (c.remove-part.ensures.value ∙ get-of items c.args.index p c.remove-part.result there) c.in_default.ensures.left

pub returns-clause-items : goal.returns-clause-items
returns-clause-items g c =
    let T = g.row.T.Denot in
    let items = c.self.inside.parts.items in
    let rest = c.remove-part.new.self.items in
    let i = c.args.index in
    let view = ap (λ (o : OlderView T). o.items) c.self.view_is in
    let p : PartView T = c.requires.may.0 in
    let at : slice_get items i ≡ Some p = subst (λ l. slice_get l i ≡ Some p) (sym view) c.requires.may.1 in
    let back : c.in-Some.back ≡ p =
    c.in-Some.ensures.left ∙ c.remove-part.ensures.value ∙ get-of items i p c.remove-part.result at in
    c.insert.ensures.items
    ∙ ap (λ b. if b then insert rest i c.in-Some.back else rest) (c.insert.ensures.succeeds
    (omega (arith, c.remove-part.ensures.len, c.remove-part.ensures.capacity, c.self.inside.parts.ok.1)))
    ∙ (λ k. insert (c.remove-part.ensures.items k) i (back k)) ∙ insert-back items i p at ∙ view

pub invariant_of-self-2 : goal.invariant_of-self-2
invariant_of-self-2 g c =
    let T = g.row.T.Denot in
    subst (λ (l : List (PartView T)). All HasNoCell (drop c.self.inside.with_cells l))
    (sym (returns-clause-items g c ∙ sym (ap (λ (o : OlderView T). o.items) c.self.view_is))) c.self.invariant
