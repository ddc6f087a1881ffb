use Rattle.kfifo_live.proofs.Cuts.{cuts}
use Rattle.kfifo_live.proofs.seats.give_rest.Goals as goal

pub split_seat-requires : goal.split_seat-requires
split_seat-requires g c = (c.requires.table.0, c.requires.table.1, cuts _ _ c.args.seat.now.me.0 1 c.requires.some)
