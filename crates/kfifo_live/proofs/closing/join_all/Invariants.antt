use Rattle.std.proofs.Common.{◌≡◌, All, List, vec_len}
use Rattle.kfifo_live.proofs.Types.{Event}
use Rattle.kfifo_live.specs.Schedule.{AllBegin}
use Rattle.kfifo_live.specs.Pass.{queue_of, AllIdle, AllSeen, IsPassOf}
use Rattle.kfifo_live.proofs.closing.join_all.Given as goal

abbrev pub invariant-loop-pass : goal.invariant-loop-pass
invariant-loop-pass l = record {
  table : l.seat.table_id ≡ l.fn.seat.table_id;
  opened : l.seat.me.0.opened ≡ l.fn.seat.me.0.opened;
  all_of : All (IsPassOf (queue_of l.fn.seat.table_id l.fn.seat.me.0.opened)) l.passes.items;
  covers : (all : List Event) → AllBegin l.seat.me.0.parts all → AllSeen l.passes.items all
      → AllBegin l.fn.seat.me.0.parts all
      × AllSeen l.initial.passes.items all;
  idle : AllIdle l.fn.seat.me.0.opened l.passes.items → AllIdle l.fn.seat.me.0.opened l.initial.passes.items;
}

abbrev pub decreases-loop-pass : goal.decreases-loop-pass
decreases-loop-pass l = vec_len l.passes

abbrev pub ghosts-join_seats : goal.ghosts-join_seats
ghosts-join_seats a = record { opened = a.seat.now.me.0.opened }
