use Rattle.std.proofs.Common.{◌≡◌}
use Rattle.kfifo_verdict.specs.Remainder.{left_below}
use Rattle.kfifo_verdict.proofs.remainder.left_of_single.Given as goal

abbrev pub invariant-loop-n : goal.invariant-loop-n
invariant-loop-n l = l.left ≡ left_below l.calls l.n
