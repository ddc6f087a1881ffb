use Rattle.std.proofs.Common.{ℕ, ◌<◌}
use Rattle.kfifo_model.specs.Reach.{reach}
use Rattle.kfifo_model.specs.Searching.{IsAdded, IsNoNext}
use Rattle.kfifo_model.proofs.search.add_each.Given as goal

abbrev pub invariant-loop-n : goal.invariant-loop-n
invariant-loop-n l = IsAdded l.k l.calls (reach l.done l.items) l.fn.next.items l.next.items
    ((j : ℕ) → j < l.n → IsNoNext l.k l.calls (reach l.done l.items) j)
