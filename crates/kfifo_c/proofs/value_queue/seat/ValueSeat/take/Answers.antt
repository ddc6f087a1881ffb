use Rattle.std.proofs.Common.{subst}
use Rattle.kfifo_renewing.specs.Renewing.{TakesFromOldest}
use Rattle.kfifo_c.specs.ValueSeats.{ValueSeated}
use Rattle.kfifo_c.proofs.value_queue.seat.ValueSeat.take.Goals as goal

pub returns : goal.returns
returns c = subst (λ (s : ValueSeated). TakesFromOldest c.take.result s c.take.new.self) c.self.view_is c.take.ensures
