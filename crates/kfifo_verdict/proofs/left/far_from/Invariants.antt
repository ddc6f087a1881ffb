use Rattle.kfifo_verdict.proofs.EmptyWhileLeft.{IsMostBelow}
use Rattle.kfifo_verdict.proofs.left.far_from.Given as goal

abbrev pub invariant-loop-n : goal.invariant-loop-n
invariant-loop-n l = IsMostBelow l.calls l.ends.items l.far.items l.most l.n
