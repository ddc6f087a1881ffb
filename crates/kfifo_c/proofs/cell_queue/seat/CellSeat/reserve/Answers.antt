use Rattle.std.proofs.Common.{subst}
use Rattle.kfifo_renewing.specs.Cells.{ReservesOne}
use Rattle.kfifo_renewing.specs.Memory.{cell_reserved}
use Rattle.kfifo_c.specs.CellSeats.{CellSeated}
use Rattle.kfifo_c.proofs.cell_queue.seat.CellSeat.reserve.Goals as goal

pub returns : goal.returns
returns c = subst (λ (s : CellSeated). ReservesOne (cell_reserved c.reserve.result) s c.reserve.new.self) c.self.view_is
    c.reserve.ensures
