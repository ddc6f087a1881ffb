use Rattle.kfifo_live.specs.Pass.{IsSamePass}
use Rattle.test_pool.proofs.tests.cells.pass_on.Given as goal

abbrev pub invariant-loop : goal.invariant-loop
invariant-loop l = IsSamePass l.fn.handle.held.pass.pass l.handle.held.pass.pass
