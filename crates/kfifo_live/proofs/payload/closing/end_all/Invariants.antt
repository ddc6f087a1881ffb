use Rattle.std.proofs.Common.{◌≡◌, ◌++◌}
use Rattle.kfifo_live.proofs.payload.closing.end_all.Given as goal

-- the passes so far, and behind them those that are still to come, are all of them
abbrev pub invariant-loop-pass : goal.invariant-loop-pass
invariant-loop-pass g l = record {
  made : l.ended.items ++ l.pass-iterator.rest.items ≡ l.fn.passes.items;
}
