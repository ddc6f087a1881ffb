use Rattle.kfifo_live.proofs.Cuts.{gathers}
use Rattle.kfifo_live.proofs.seats.join_seats.Goals as goal

pub join_seat-requires : goal.join_seat-requires
join_seat-requires g c = (
  c.requires.table.0,
  c.requires.other.0,
  c.requires.other.1,
  c.requires.table.1,
  gathers _ _ c.args.seat.now.me.0 _ c.args.other.me.0 _ c.requires.picked,
)
