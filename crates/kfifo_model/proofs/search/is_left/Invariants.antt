use Rattle.std.proofs.Common.{ℕ, ◌≡◌, ◌<◌}
use Rattle.kfifo_model.specs.Histories.{does}
use Rattle.kfifo_model.specs.Index.{side_effect}
use Rattle.kfifo_model.specs.Searching.{IsDone}
use Rattle.kfifo_model.proofs.search.is_left.Given as goal

abbrev pub invariant-loop-n : goal.invariant-loop-n
invariant-loop-n l = (m : ℕ) → m < l.n → (IsDone l.done m → ⊥) → does l.calls m ≡ side_effect l.side l.item → ⊥
