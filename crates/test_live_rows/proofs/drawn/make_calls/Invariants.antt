use Rattle.kfifo_live.specs.Pass.{IsSamePass}
use Rattle.test_live_rows.proofs.drawn.make_calls.Given as goal

abbrev pub invariant-loop-item : goal.invariant-loop-item
invariant-loop-item l = IsSamePass l.fn.pass l.pass
