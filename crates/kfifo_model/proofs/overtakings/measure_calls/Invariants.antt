use Rattle.std.proofs.Common.{◌≡◌}
use Rattle.kfifo_model.specs.Measures.{measured}
use Rattle.kfifo_model.proofs.overtakings.measure_calls.Given as goal

abbrev pub invariant-loop-n : goal.invariant-loop-n
invariant-loop-n l = l.found.items ≡ measured l.calls l.n
