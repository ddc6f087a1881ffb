use Rattle.kfifo_verdict.specs.Steps.{AreKeyed}
use Rattle.kfifo_verdict.proofs.steps.keyed.Given as goal

abbrev pub invariant-loop-n : goal.invariant-loop-n
invariant-loop-n l = AreKeyed l.key l.calls l.side l.n l.steps.items
