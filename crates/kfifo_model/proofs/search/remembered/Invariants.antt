use Rattle.std.proofs.Common.{ℕ, ◌≡◌, ◌<◌, length, get_or}
use Rattle.kfifo_model.specs.Searching.{IsAsGood}
use Rattle.kfifo_model.proofs.search.remembered.Given as goal

abbrev pub invariant-loop-i : goal.invariant-loop-i
invariant-loop-i l = record {
  sized : length l.kept.items ≡ l.i;
  good : (j : ℕ) → j < l.i → IsAsGood l.calls l.done (get_or l.items.items j 0) (get_or l.kept.items j 0);
}
