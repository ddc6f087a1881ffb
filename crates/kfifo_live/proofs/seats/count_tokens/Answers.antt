use Rattle.kfifo_live.proofs.Resting.{counts_tokens}
use Rattle.kfifo_live.proofs.seats.count_tokens.Goals as goal

pub load-requires : goal.load-requires
load-requires g c = (
  c.requires.table.0,
  c.requires.table.1,
  counts_tokens _ _ _ c.args.seat.now.me c.args.index c.requires.seated.0 c.requires.seated.1,
)
