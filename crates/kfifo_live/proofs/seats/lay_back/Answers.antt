use Rattle.kfifo_live.proofs.Draws.{lays_back}
use Rattle.kfifo_live.proofs.seats.lay_back.Goals as goal

pub load-requires : goal.load-requires
load-requires g c =
    let r = c.requires in
    (r.table.0, r.table.1, lays_back _ _ _ c.args.seat.now.me 0 r.idle.0 r.idle.1 r.out.0 r.out.1)
