use Rattle.kfifo_live.proofs.Resting.{cuts_token}
use Rattle.kfifo_live.proofs.seats.cut_token.Goals as goal

pub split_seat-requires : goal.split_seat-requires
split_seat-requires g c =
    let r = c.requires in
    (r.table.0, r.table.1, cuts_token _ _ c.args.seat.now.me r.idle.0 r.idle.1 r.some.0 r.some.1 r.some.2)
