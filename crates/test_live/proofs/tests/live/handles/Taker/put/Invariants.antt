use Rattle.kfifo_live.specs.Pass.{IsSamePass}
use Rattle.test_live.proofs.tests.live.handles.Taker.put.Given as goal

abbrev pub invariant-loop-try : goal.invariant-loop-try
invariant-loop-try l = IsSamePass l.fn.self.handle.pass l.self.handle.pass
