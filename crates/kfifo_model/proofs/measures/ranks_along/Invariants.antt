use Rattle.std.proofs.Common.{◌≡◌, ◌++◌, map, drop, Some}
use Rattle.kfifo_model.specs.Relaxed.{IsRun}
use Rattle.kfifo_model.specs.Histories.{does}
use Rattle.kfifo_model.specs.Ranks.{ranks_at, ranks_of}
use Rattle.kfifo_model.proofs.measures.ranks_along.Given as goal

abbrev pub invariant-loop-n : goal.invariant-loop-n
invariant-loop-n l = record {
  told : l.found.items ++ ranks_at l.k (Some l.items.items) (map (does l.calls) (drop l.n-index l.order))
      ≡ ranks_of l.k l.calls l.order;
  runs : IsRun l.k l.items.items (map (does l.calls) (drop l.n-index l.order));
}
