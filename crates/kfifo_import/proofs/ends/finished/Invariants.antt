use Rattle.kfifo_import.specs.Stamping.{AreEndsTo}
use Rattle.kfifo_import.proofs.ends.finished.Given as goal

abbrev pub invariant-loop-number : goal.invariant-loop-number
invariant-loop-number l = AreEndsTo l.calls l.ends.items l.number
