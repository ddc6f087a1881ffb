use Rattle.kfifo_verdict.specs.Evidence.{IsTakenTooSoon}
use Rattle.kfifo_verdict.specs.Judging.{NeverBefore}
use Rattle.kfifo_verdict.proofs.soon.taken_too_soon.Given as goal

abbrev pub invariant-loop-n : goal.invariant-loop-n
invariant-loop-n l = NeverBefore (IsTakenTooSoon l.calls) l.n
