use Rattle.kfifo_verdict.specs.Plain.{ArePlaces}
use Rattle.kfifo_verdict.proofs.turns.places.Given as goal

abbrev pub invariant-loop-p : goal.invariant-loop-p
invariant-loop-p l = ArePlaces l.calls l.presences l.p l.places.items
