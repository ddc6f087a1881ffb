use Rattle.std.proofs.Common.{ℕ, ◌<◌}
use Rattle.kfifo_model.specs.Measures.{IsDoneEnqueue}
use Rattle.kfifo_model.proofs.overtakings.has_done.Given as goal

abbrev pub invariant-loop-call : goal.invariant-loop-call
invariant-loop-call l = (n : ℕ) → n < l.call-index → IsDoneEnqueue l.calls n → ⊥
