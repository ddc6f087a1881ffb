use Rattle.kfifo_live.specs.Pass.{IsSamePass}
use Rattle.test_pool.proofs.tests.threads.produce.Given as goal

abbrev pub invariant-loop-place : goal.invariant-loop-place
invariant-loop-place l = IsSamePass l.fn.handle.held.pass.pass l.handle.held.pass.pass
