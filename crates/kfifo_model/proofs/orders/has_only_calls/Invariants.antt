use Rattle.std.proofs.Common.{ℕ, ◌<◌, get_or}
use Rattle.kfifo_model.specs.Histories.{call, CanStand}
use Rattle.kfifo_model.proofs.orders.has_only_calls.Given as goal

abbrev pub invariant-loop-n : goal.invariant-loop-n
invariant-loop-n l = (j : ℕ) → j < l.n-index
    → CanStand (call l.calls (get_or l.order j 0)).end (call l.calls (get_or l.order j 0)).op
