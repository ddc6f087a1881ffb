use Rattle.kfifo_dispatch.specs.Jobs.{AreTotals}
use Rattle.kfifo_dispatch.proofs.finishing.sums_of.Given as goal

abbrev pub invariant-loop-done : goal.invariant-loop-done
invariant-loop-done g l =
    (goal.iterator-loop-done g).can_next l.done-iterator × (goal.iterator-loop-done g).is_finite l.done-iterator
    × AreTotals l.fn.tasks l.sums.items
