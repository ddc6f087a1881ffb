use Rattle.std.proofs.Common.{ℕ, ◌≡◌, ◌<◌}
use Rattle.kfifo_model.specs.Histories.{call, Precedes}
use Rattle.kfifo_model.specs.Searching.{IsDone}
use Rattle.kfifo_model.proofs.search.is_ready.Given as goal

abbrev pub invariant-loop-m : goal.invariant-loop-m
invariant-loop-m l = record {
  first_is : l.first ≡ (call l.calls l.n).first;
  ready : (c : ℕ) → c < l.m → Precedes l.calls c l.n → IsDone l.done c;
}
