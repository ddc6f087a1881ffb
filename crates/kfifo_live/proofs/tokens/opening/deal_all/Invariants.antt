use Rattle.std.proofs.Common.{◌≡◌, ◌-◌, ◌*◌, ◌≤◌, []}
use Rattle.kfifo_live.specs.Schedule.{fresh, view_of}
use Rattle.kfifo_live.specs.Pass.{queue_of}
use Rattle.kfifo_live.specs.Tokens.{new_token_passes, tokens_from}
use Rattle.kfifo_live.proofs.tokens.opening.deal_all.Given as goal

abbrev pub invariant-loop-thread : goal.invariant-loop-thread
invariant-loop-thread g l = record {
  table : l.seat.table_id ≡ l.fn.seat.table_id;
  held : l.seat.me.1 ≡ [];
  view : l.seat.me.0
      ≡ view_of l.fn.seat.me.0.opened (fresh l.fn.seat.me.0.opened.tokens l.thread (l.threads - l.thread));
  made : l.passes.items ≡ new_token_passes (queue_of l.fn.seat.table_id l.fn.seat.me.0.opened) 0 l.thread;
  within : l.thread ≤ l.threads;
  cut : l.all.items ≡ tokens_from (queue_of l.fn.seat.table_id l.fn.seat.me.0.opened) 1 (l.thread * l.tokens);
}
