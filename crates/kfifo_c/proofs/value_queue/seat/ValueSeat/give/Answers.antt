use Rattle.std.proofs.Common.{subst}
use Rattle.kfifo_renewing.specs.Renewing.{GivesToNewest}
use Rattle.kfifo_c.specs.ValueSeats.{ValueSeated}
use Rattle.kfifo_c.proofs.value_queue.seat.ValueSeat.give.Goals as goal

pub returns : goal.returns
returns c = subst (λ (s : ValueSeated). GivesToNewest c.args.value c.give.result s c.give.new.self) c.self.view_is
    c.give.ensures
