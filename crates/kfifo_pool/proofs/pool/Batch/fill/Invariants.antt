use Rattle.std.proofs.Common.{◌≡◌, ◌≤◌, ◌++◌, List, length, reverse, vec_capacity}
use Rattle.kfifo_live.specs.Payloads.{TokenView}
use Rattle.kfifo_pool.specs.declared.pool.TheConstants.{BATCH}
use Rattle.kfifo_pool.proofs.pool.Batch.fill.Given as goal

abbrev pub invariant-loop-self : goal.invariant-loop-self
invariant-loop-self g l = record {
  room : BATCH ≤ vec_capacity l.self-inside.tokens;
  moved : List TokenView;
  tokens : l.fn.tokens.items ≡ l.tokens.items ++ moved;
  list : l.self-inside.tokens.items ≡ l.fn.self ++ reverse moved;
}

abbrev pub decreases-loop-self : goal.decreases-loop-self
decreases-loop-self g l = length l.tokens.items
