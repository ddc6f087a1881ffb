use Rattle.kfifo_verdict.specs.Left.{AreEnds}
use Rattle.kfifo_verdict.proofs.left.ends_of.Given as goal

abbrev pub invariant-loop-i : goal.invariant-loop-i
invariant-loop-i l = AreEnds l.calls l.puts l.i l.far.items
