use Rattle.kfifo_verdict.specs.Finding.{IsBucketed}
use Rattle.kfifo_verdict.proofs.finding.stays_from.Given as goal

abbrev pub invariant-loop-p : goal.invariant-loop-p
invariant-loop-p l = IsBucketed l.calls l.presences l.p l.stays.items
