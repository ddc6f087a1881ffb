use Rattle.std.proofs.Common.{ℕ, ◌≡◌, ◌≢◌, ◌<◌, length, get_or, arith, true, false, sym, ◌∙◌, subst}
use Rattle.std.proofs.lemmas.List.{get_or_default}
use Rattle.kfifo_model.specs.Lists.{IsIn}
use Rattle.kfifo_model.proofs.Checking.{at_bounds}
use Rattle.kfifo_model.proofs.Places.{pairs_from_places, found_twice, in_from_place, in_place}
use Rattle.kfifo_model.proofs.orders.marks_of.Goals as goal

pub returns-then-index : goal.returns-then-index
returns-then-index c =
    let n = get_or c.args.order.now c.loop-n.n-index 0 in
    let bound = at_bounds c.args.calls.now c.args.order.now c.loop-n.n-index c.requires c.loop-n-test.true in
    let size = c.loop-n.invariant.sized in
    let inside : n < length c.loop-n.marks.items = omega (arith, bound, size) in
    let marked = get_or_default c.loop-n.marks.items n false c.index.result.now inside
    ∙ (sym c.index.ensures ∙ c.if-index.true) in
    let p = c.loop-n.invariant.only n marked in
    found_twice c.args.order.now c.loop-n.n-index p.0 p.1 c.loop-n-test.true p.2

pub returns : goal.returns
returns c = (
  pairs_from_places (λ x y. x ≢ y) c.args.order.now (λ i j h k. c.loop-n.invariant.apart i j h (omega arith)),
  λ n. (
    λ t. (let p = c.loop-n.invariant.only n t in let lt : p.0 < length c.args.order.now = omega arith in let P : ℕ
        → Type 0 = λ w. IsIn w c.args.order.now in subst P p.2 (in_from_place c.args.order.now p.0 lt)),
    λ i. (let p = in_place n c.args.order.now i in let lt : p.0 < c.loop-n.n-index = omega arith in let P : ℕ
        → Type 0 = λ w. get_or c.loop-n.marks.items w false ≡ true in subst P p.2 (c.loop-n.invariant.has p.0 lt)),
  ),
)
