use Rattle.kfifo_verdict.specs.Evidence.{HasItemsLeft}
use Rattle.kfifo_verdict.specs.Judging.{NeverBefore}
use Rattle.kfifo_verdict.proofs.left.items_left.Given as goal

abbrev pub invariant-loop-n : goal.invariant-loop-n
invariant-loop-n l = NeverBefore (HasItemsLeft l.calls) l.n
