use Rattle.std.proofs.Common.{◌≡◌, ◌++◌, map}
use Rattle.kfifo_pool.proofs.queue.passes_of.Given as goal

-- the passes so far, and behind them those of the handles that are still to come, are all of them
abbrev pub invariant-loop-handle : goal.invariant-loop-handle
invariant-loop-handle g l = record {
  made : l.passes.items ++ map (λ h. h.held.pass) l.handle-iterator.rest.items
      ≡ map (λ h. h.held.pass) l.fn.handles.items;
}
