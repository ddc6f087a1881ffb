use Rattle.std.proofs.Common.{ℕ, ◌≡◌, ◌<◌, get_or, true, false}
use Rattle.kfifo_model.specs.Histories.{IsFinished}
use Rattle.kfifo_model.proofs.orders.has_each_finished.Given as goal

abbrev pub invariant-loop-n : goal.invariant-loop-n
invariant-loop-n l = (c : ℕ) → c < l.n → IsFinished l.calls c → get_or l.marks c false ≡ true
