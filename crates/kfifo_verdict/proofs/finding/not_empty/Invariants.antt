use Rattle.kfifo_verdict.specs.Judging.{FoundNotEmpty, NeverBefore}
use Rattle.kfifo_verdict.proofs.Covering.{HasGapsBelow}
use Rattle.kfifo_verdict.proofs.finding.not_empty.Given as goal

abbrev pub invariant-loop-n : goal.invariant-loop-n
invariant-loop-n l = NeverBefore (FoundNotEmpty l.calls) l.n × HasGapsBelow l.calls l.n
