use Rattle.kfifo_verdict.specs.Finding.{ArePresences}
use Rattle.kfifo_verdict.proofs.presences.presences.Given as goal

abbrev pub invariant-loop-p : goal.invariant-loop-p
invariant-loop-p l = ArePresences l.calls l.p l.found.items
