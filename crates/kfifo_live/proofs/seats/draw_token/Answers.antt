use Rattle.kfifo_live.proofs.Draws.{draws_token}
use Rattle.kfifo_live.proofs.seats.draw_token.Goals as goal

pub load-requires : goal.load-requires
load-requires g c =
    let r = c.requires in
    (r.table.0, r.table.1, draws_token _ _ _ c.args.seat.now.me 0 r.idle.0 r.idle.1 r.idle.2 r.some.0 r.some.1 r.some.2)
