use Rattle.kfifo_verdict.proofs.Staying.{IsLongest}
use Rattle.kfifo_verdict.proofs.finding.longest_stays.Given as goal

abbrev pub invariant-loop-n : goal.invariant-loop-n
invariant-loop-n l = IsLongest l.calls l.presences l.longest.items l.best l.n
