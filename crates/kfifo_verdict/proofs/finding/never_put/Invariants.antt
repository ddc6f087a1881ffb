use Rattle.kfifo_verdict.specs.Evidence.{IsNeverPut}
use Rattle.kfifo_verdict.specs.Judging.{NeverBefore}
use Rattle.kfifo_verdict.proofs.finding.never_put.Given as goal

abbrev pub invariant-loop-n : goal.invariant-loop-n
invariant-loop-n l = NeverBefore (IsNeverPut l.calls) l.n
