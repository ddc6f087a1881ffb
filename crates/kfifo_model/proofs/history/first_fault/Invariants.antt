use Rattle.std.proofs.Common.{ℕ, ◌<◌}
use Rattle.kfifo_model.specs.Validity.{IsGood}
use Rattle.kfifo_model.proofs.Watching.{AreSoFar}
use Rattle.kfifo_model.proofs.history.first_fault.Given as goal

abbrev pub invariant-loop-n : goal.invariant-loop-n
invariant-loop-n l = record { good : (j : ℕ) → j < l.n → IsGood l.calls j; seen : AreSoFar l.calls l.n l.so_far }
