use Rattle.std.proofs.Common.{◌≡◌, ◌≢◌, get_or, arith, true, sym, ◌∙◌}
use Rattle.std.specs.BTreeSet.{contains}
use Rattle.std.specs.Ordering.{nat_cmp}
use Rattle.std.proofs.lemmas.Bool.{true_from_ne_false, not_from_false, false≢true}
use Rattle.kfifo_model.proofs.Places.{pairs_from_places, found_twice}
use Rattle.kfifo_model.proofs.orders.has_repeats.Goals as goal

pub returns-then-not-branch : goal.returns-then-not-branch
returns-then-not-branch c =
    let here = c.loop-n.n-index in
    let has : contains nat_cmp c.loop-n.seen (get_or c.args.order.now c.loop-n.n-index 0) ≡ true =
    true_from_ne_false (contains nat_cmp c.loop-n.seen (get_or c.args.order.now c.loop-n.n-index 0))
    (λ e. false≢true (sym c.if-not-branch.true ∙ c.in_ok-insert.ensures.added ∙ not_from_false _ e)) in
    let p = c.loop-n.invariant.only (get_or c.args.order.now c.loop-n.n-index 0) has in
    found_twice c.args.order.now c.loop-n.n-index p.0 p.1 c.loop-n-test.true p.2

pub returns : goal.returns
returns c = pairs_from_places (λ x y. x ≢ y) c.args.order.now (λ i j h k. c.loop-n.invariant.apart i j h (omega arith))
