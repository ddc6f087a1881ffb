use Rattle.std.proofs.Common.{◌≡◌, ◌++◌, All, map}
use Rattle.kfifo_live.specs.Pass.{IsPassOf}
use Rattle.kfifo_pool.specs.Pooled.{new_handle}
use Rattle.kfifo_pool.proofs.pool.PooledQueue.seat_all.Given as goal

-- the handles so far, and behind them those of the passes that are still to come, are all of them
abbrev pub invariant-loop-pass : goal.invariant-loop-pass
invariant-loop-pass g l = record {
  same : l.self ≡ l.fn.self;
  rest : All (λ p. IsPassOf l.fn.self p.pass) l.pass-iterator.rest.items;
  made : l.handles.items ++ map new_handle l.pass-iterator.rest.items ≡ map new_handle l.fn.passes.items;
}
