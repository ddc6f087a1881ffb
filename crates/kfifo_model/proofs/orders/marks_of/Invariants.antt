use Rattle.std.proofs.Common.{ℕ, ◌≡◌, ◌<◌, get_or, length, true, false}
use Rattle.kfifo_model.proofs.orders.marks_of.Given as goal

abbrev pub invariant-loop-n : goal.invariant-loop-n
invariant-loop-n l = record {
  sized : length l.marks.items ≡ length l.calls;
  apart : (i j : ℕ) → i < j → j < l.n-index → get_or l.order i 0 ≡ get_or l.order j 0 → ⊥;
  has : (j : ℕ) → j < l.n-index → get_or l.marks.items (get_or l.order j 0) false ≡ true;
  only : (c : ℕ) → get_or l.marks.items c false ≡ true → (j : ℕ) × (j < l.n-index) × (get_or l.order j 0 ≡ c);
}
