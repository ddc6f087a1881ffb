use Rattle.std.proofs.Common.{◌≡◌}
use Rattle.kfifo_verdict.specs.Remainder.{AreDonePuts, left_below}
use Rattle.kfifo_verdict.proofs.remainder.left_of.Given as goal

abbrev pub invariant-loop-n : goal.invariant-loop-n
invariant-loop-n l = AreDonePuts l.calls l.n l.puts × (l.left ≡ left_below l.calls l.n)
