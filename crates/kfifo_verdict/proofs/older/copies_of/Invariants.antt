use Rattle.kfifo_verdict.specs.Older.{AreCopies}
use Rattle.kfifo_verdict.proofs.older.copies_of.Given as goal

abbrev pub invariant-loop-p : goal.invariant-loop-p
invariant-loop-p l = AreCopies l.calls l.p l.copies.items
