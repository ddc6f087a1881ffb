use Rattle.std.proofs.Common.{◌≡◌, All}
use Rattle.kfifo_pool.proofs.queue.empty_places.Given as goal

abbrev pub invariant-loop : goal.invariant-loop
invariant-loop g l = record {
  same : l.queue ≡ l.fn.queue;
  places : All (λ place. place ≡ l.fn.queue) l.places.items;
}
