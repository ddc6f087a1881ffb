use Rattle.kfifo_verdict.specs.Finding.{lasts_at, AreFirst}
use Rattle.kfifo_verdict.proofs.finding.first_older.Given as goal

abbrev pub invariant-loop-p : goal.invariant-loop-p
invariant-loop-p l = AreFirst (lasts_at l.presences l.put l.after) l.k l.p l.puts.items
