use Rattle.std.proofs.Common.{◌≡◌, ◌+◌, ◌-◌, ◌≤◌, ◌++◌}
use Rattle.kfifo_live.specs.Schedule.{count_up, with_home}
use Rattle.kfifo_live.specs.Pass.{queue_of}
use Rattle.kfifo_live.specs.Tokens.{tokens_from}
use Rattle.kfifo_live.proofs.tokens.opening.cut_all.Given as goal

abbrev pub invariant-loop-index : goal.invariant-loop-index
invariant-loop-index g l = record {
  table : l.seat.table_id ≡ l.fn.seat.table_id;
  view : l.seat.me ≡ (with_home l.fn.seat.me.0 (count_up (l.first + l.index) (l.count - l.index)), l.fn.seat.me.1);
  cut : l.tokens.items ≡ l.fn.tokens.items ++ tokens_from (queue_of l.fn.seat.table_id l.fn.seat.me.0.opened) l.first
      l.index;
  within : l.index ≤ l.count;
}
