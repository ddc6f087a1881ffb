use Rattle.std.proofs.Common.{subst}
use Rattle.kfifo_renewing.specs.Cells.{ReservesNewest}
use Rattle.kfifo_renewing.specs.Memory.{cell_reserved}
use Rattle.kfifo_c.specs.CellSeats.{CellSeated}
use Rattle.kfifo_c.proofs.cell_queue.seat.CellSeat.reserve_next.Goals as goal

pub returns : goal.returns
returns c = subst (λ (s : CellSeated). ReservesNewest (cell_reserved c.reserve_next.result) s c.reserve_next.new.self)
    c.self.view_is c.reserve_next.ensures
