use Rattle.std.proofs.Common.{subst}
use Rattle.kfifo_renewing.specs.Cells.{ReceivesOldest}
use Rattle.kfifo_c.specs.CellSeats.{CellSeated}
use Rattle.kfifo_c.proofs.cell_queue.seat.CellSeat.receive.Goals as goal

pub returns : goal.returns
returns c = subst (λ (s : CellSeated). ReceivesOldest c.receive.result s c.receive.new.self) c.self.view_is
    c.receive.ensures
