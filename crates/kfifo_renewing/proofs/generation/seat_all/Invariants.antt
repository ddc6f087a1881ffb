use Rattle.std.proofs.Common.{◌≡◌, All}
use Rattle.kfifo_live.specs.Pass.{IsPassOf}
use Rattle.kfifo_renewing.specs.Renewing.{IsUntouched}
use Rattle.kfifo_renewing.proofs.generation.seat_all.Given as goal

-- the handles that are still to come are of the queue, and so is each place
abbrev pub invariant-loop-handle : goal.invariant-loop-handle
invariant-loop-handle g l = record {
  same : l.queue ≡ l.fn.queue;
  rest : All (λ h. IsPassOf l.fn.queue h.held.pass.pass × IsUntouched h) l.handle-iterator.rest.items;
  places : All (λ q. q ≡ l.fn.queue) l.waiting.items;
}
