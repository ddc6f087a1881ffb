use Rattle.std.proofs.Common.{ℕ, ◌<◌}
use Rattle.kfifo_model.specs.Histories.{IsFinished}
use Rattle.kfifo_model.specs.Searching.{IsDone}
use Rattle.kfifo_model.proofs.search.is_complete.Given as goal

abbrev pub invariant-loop-n : goal.invariant-loop-n
invariant-loop-n l = (m : ℕ) → m < l.n → IsFinished l.calls m → IsDone l.done m
