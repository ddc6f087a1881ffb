use Rattle.kfifo_live.proofs.Cuts.{looks}
use Rattle.kfifo_live.proofs.seats.observe.Goals as goal

pub load-requires : goal.load-requires
load-requires g c =
    (c.requires.table.0, c.requires.table.1, looks _ _ _ c.args.seat.now.me c.args.index c.requires.seated)
