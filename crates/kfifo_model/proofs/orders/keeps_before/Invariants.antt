use Rattle.std.proofs.Common.{ℕ, ◌≡◌, ◌<◌, ◌≤◌, ◌⊎◌, get_or}
use Rattle.kfifo_model.specs.Histories.{call, Precedes}
use Rattle.kfifo_model.proofs.orders.keeps_before.Given as goal

abbrev pub invariant-loop-n : goal.invariant-loop-n
invariant-loop-n l = record {
  kept : (i j : ℕ) → i < j → j < l.n-index → Precedes l.calls (get_or l.order j 0) (get_or l.order i 0) → ⊥;
  most : (j : ℕ) → j < l.n-index → (call l.calls (get_or l.order j 0)).first ≤ l.latest;
  some : (l.latest ≡ 0) ⊎ ((j : ℕ) × (j < l.n-index) × ((call l.calls (get_or l.order j 0)).first ≡ l.latest));
}
