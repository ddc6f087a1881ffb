use Rattle.std.proofs.Common.{subst, sym, ◌*◌}
use Rattle.kfifo_pool.specs.Pooled.{AreOf}
use Rattle.kfifo_pool.proofs.Lists.{all_tokens}
use Rattle.kfifo_pool.proofs.pool.PooledQueue.open_with_payloads.Goals as goal

pub with_pool-requires-clause-tokens : goal.with_pool-requires-clause-tokens
with_pool-requires-clause-tokens g c =
    let queue = c.in_ok-queue.queue in
    subst (AreOf queue) (sym c.in_ok-queue.ensures.tokens)
    (all_tokens queue 1 (c.args.sizes.threads * c.args.sizes.tokens))
