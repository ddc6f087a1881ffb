use Rattle.std.proofs.Common.{◌-◌, length}
use Rattle.kfifo_verdict.proofs.EmptyWhileLeft.{IsLeftBelow}
use Rattle.kfifo_verdict.proofs.left.has_items_left.Given as goal

abbrev pub invariant-loop-empty : goal.invariant-loop-empty
invariant-loop-empty l = IsLeftBelow l.calls l.empty l.n

abbrev pub decreases-loop-empty : goal.decreases-loop-empty
decreases-loop-empty l = length l.calls - l.n
