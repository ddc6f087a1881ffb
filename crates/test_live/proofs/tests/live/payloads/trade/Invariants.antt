use Rattle.kfifo_live.specs.Pass.{IsSamePass}
use Rattle.test_live.proofs.tests.live.payloads.trade.Given as goal

abbrev pub invariant-loop-call : goal.invariant-loop-call
invariant-loop-call l = IsSamePass l.fn.pass.pass l.pass.pass
