use Rattle.kfifo_verdict.specs.Evidence.{IsTakenTwice}
use Rattle.kfifo_verdict.specs.Judging.{NeverBefore}
use Rattle.kfifo_verdict.proofs.finding.taken_twice.Given as goal

abbrev pub invariant-loop-n : goal.invariant-loop-n
invariant-loop-n l = NeverBefore (IsTakenTwice l.calls) l.n
