use Rattle.kfifo_linear.proofs.Seals.{stays_empty}
use Rattle.kfifo_linear.proofs.a_queue_sealed_empty_stays_empty.Goals as goal

pub returns : goal.returns
returns c = record { stays = stays_empty }
