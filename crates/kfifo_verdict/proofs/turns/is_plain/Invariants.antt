use Rattle.kfifo_verdict.specs.Plain.{IsPlainBelow}
use Rattle.kfifo_verdict.proofs.turns.is_plain.Given as goal

abbrev pub invariant-loop-n : goal.invariant-loop-n
invariant-loop-n l = IsPlainBelow l.calls l.n
