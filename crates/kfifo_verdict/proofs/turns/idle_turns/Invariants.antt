use Rattle.kfifo_verdict.specs.Plain.{AreIdle}
use Rattle.kfifo_verdict.proofs.turns.idle_turns.Given as goal

abbrev pub invariant-loop-n : goal.invariant-loop-n
invariant-loop-n l = AreIdle l.calls l.presences l.rank l.n l.turns.items
