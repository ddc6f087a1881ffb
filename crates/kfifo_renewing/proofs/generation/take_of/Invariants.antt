use Rattle.std.proofs.Common.{◌≡◌, ◌-◌, length}
use Rattle.kfifo_renewing.proofs.generation.take_of.Given as goal

-- none so far is of the thread
abbrev pub invariant-loop-index : goal.invariant-loop-index
invariant-loop-index g l = record {
  same : l.handles ≡ l.fn.handles;
}

abbrev pub decreases-loop-index : goal.decreases-loop-index
decreases-loop-index g l = length l.handles.items - l.index
