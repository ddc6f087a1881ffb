use Rattle.kfifo_live.specs.Pass.{IsPassOf}
use Rattle.test_live.proofs.tests.live.handles.put_and_take.Given as goal

abbrev pub invariant-loop-item : goal.invariant-loop-item
invariant-loop-item l = IsPassOf l.fn.queue l.taker.handle.pass
