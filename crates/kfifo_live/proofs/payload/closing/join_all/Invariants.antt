use Rattle.std.proofs.Common.{◌≡◌, All, List, vec_len}
use Rattle.std.specs.List.{AllByRecursion}
use Rattle.kfifo_live.proofs.Types.{Event}
use Rattle.kfifo_live.specs.Hands.{Gifts}
use Rattle.kfifo_live.specs.Schedule.{AllBegin, AllGiven}
use Rattle.kfifo_live.specs.Pass.{queue_of, AllIdle, IsPassOf}
use Rattle.kfifo_live.specs.Payloads.{EndsIn, PayPassView, passes_of}
use Rattle.kfifo_live.proofs.payload.closing.join_all.Given as goal

abbrev pub invariant-loop-pass : goal.invariant-loop-pass
invariant-loop-pass g l = record {
  table : l.seat.table_id ≡ l.fn.seat.table_id;
  opened : l.seat.me.0.opened ≡ l.fn.seat.me.0.opened;
  all_of : All (λ (p : PayPassView g.row.T.Denot). IsPassOf (queue_of l.fn.seat.table_id l.fn.seat.me.0.opened) p.pass)
      l.passes.items;
  covers : (all : List Event) (gifts : Gifts g.row.T.Denot) → AllBegin l.seat.me.0.parts all
      → AllGiven l.seat.me.0.parts gifts
      → AllByRecursion (EndsIn all gifts) l.passes.items
      → (AllBegin l.fn.seat.me.0.parts all × AllGiven l.fn.seat.me.0.parts gifts)
      × AllByRecursion (EndsIn all gifts) l.initial.passes.items;
  idle : AllIdle l.fn.seat.me.0.opened (passes_of l.passes.items)
      → AllIdle l.fn.seat.me.0.opened (passes_of l.initial.passes.items);
}

abbrev pub decreases-loop-pass : goal.decreases-loop-pass
decreases-loop-pass g l = vec_len l.passes

abbrev pub ghosts-join_seats : goal.ghosts-join_seats
ghosts-join_seats g a = record { opened = a.seat.now.me.0.opened }
