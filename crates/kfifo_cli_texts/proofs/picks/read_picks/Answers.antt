use Rattle.std.proofs.Common.{inl, inr, refl}
use Rattle.kfifo_cli_texts.proofs.picks.read_picks.Goals as goal

pub returns-in-None : goal.returns-in-None
returns-in-None c = inr (refl, inl (rw c.in-None.is at c.in_ok-read.ensures))
