use Rattle.std.proofs.Common.{subst}
use Rattle.kfifo_renewing.specs.Cells.{CallsOnce}
use Rattle.kfifo_renewing.specs.declared.cells.CellCall.TheVariants as C
use Rattle.kfifo_c.specs.CellSeats.{CellSeated}
use Rattle.kfifo_c.proofs.cell_queue.seat.CellSeat.cancel.Goals as goal

pub returns : goal.returns
returns c = subst (λ (s : CellSeated). CallsOnce C.Cancel c.cancel.result s c.cancel.new.self) c.self.view_is
    c.cancel.ensures
