use Rattle.std.proofs.Common.{ℕ, ◌≡◌, ◌<◌, get_or, true}
use Rattle.std.specs.BTreeSet.{contains}
use Rattle.std.specs.Ordering.{nat_cmp}
use Rattle.kfifo_model.proofs.orders.has_repeats.Given as goal

abbrev pub invariant-loop-n : goal.invariant-loop-n
invariant-loop-n l = record {
  apart : (i j : ℕ) → i < j → j < l.n-index → get_or l.order i 0 ≡ get_or l.order j 0 → ⊥;
  has : (j : ℕ) → j < l.n-index → contains nat_cmp l.seen (get_or l.order j 0) ≡ true;
  only : (c : ℕ) → contains nat_cmp l.seen c ≡ true → (j : ℕ) × (j < l.n-index) × (get_or l.order j 0 ≡ c);
}
