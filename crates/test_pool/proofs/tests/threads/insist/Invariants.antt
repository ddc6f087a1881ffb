use Rattle.kfifo_live.specs.Pass.{IsSamePass}
use Rattle.test_pool.proofs.tests.threads.insist.Given as goal

abbrev pub invariant-loop-try : goal.invariant-loop-try
invariant-loop-try l = IsSamePass l.fn.handle.held.pass.pass l.handle.held.pass.pass
