use Rattle.kfifo_verdict.specs.Plain.{AreNumbered}
use Rattle.kfifo_verdict.proofs.turns.numbered.Given as goal

abbrev pub invariant-loop-n : goal.invariant-loop-n
invariant-loop-n l = AreNumbered l.turns l.n l.numbered.items
