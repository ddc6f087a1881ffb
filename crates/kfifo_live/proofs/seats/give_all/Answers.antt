use Rattle.std.proofs.Common.{◌≤◌, length, arith}
use Rattle.kfifo_live.proofs.Cuts.{cuts}
use Rattle.kfifo_live.proofs.seats.give_all.Goals as goal

pub split_seat-requires : goal.split_seat-requires
split_seat-requires g c = let le : 0 ≤ length c.args.seat.now.me.0.parts = omega arith in
    (c.requires.table.0, c.requires.table.1, cuts _ _ c.args.seat.now.me.0 0 le)
