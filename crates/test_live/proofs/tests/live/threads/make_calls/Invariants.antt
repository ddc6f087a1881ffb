use Rattle.kfifo_live.specs.Pass.{IsSamePass}
use Rattle.test_live.proofs.tests.live.threads.make_calls.Given as goal

abbrev pub invariant-loop-number : goal.invariant-loop-number
invariant-loop-number l = IsSamePass l.fn.pass l.pass
