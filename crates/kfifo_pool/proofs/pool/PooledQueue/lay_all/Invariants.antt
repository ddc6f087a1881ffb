use Rattle.std.proofs.Common.{◌≡◌}
use Rattle.kfifo_pool.specs.Pooled.{AreOf, in_list}
use Rattle.kfifo_pool.proofs.pool.PooledQueue.lay_all.Given as goal

-- the tokens that are still to be laid down are of the queue, and so are those of the list
abbrev pub invariant-loop-place : goal.invariant-loop-place
invariant-loop-place g l = record {
  same : l.self ≡ l.fn.self;
  rest : AreOf l.fn.self l.tokens.items;
  list : AreOf l.fn.self (in_list l.list);
}
