use Rattle.kfifo_live.specs.Pass.{IsSamePass}
use Rattle.test_live.proofs.tests.live.threads.insist.Given as goal

abbrev pub invariant-loop-try : goal.invariant-loop-try
invariant-loop-try l = IsSamePass l.fn.pass l.pass
