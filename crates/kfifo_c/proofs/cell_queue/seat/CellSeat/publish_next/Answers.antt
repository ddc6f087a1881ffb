use Rattle.std.proofs.Common.{subst}
use Rattle.kfifo_renewing.specs.Cells.{PublishesNext}
use Rattle.kfifo_c.specs.CellSeats.{CellSeated}
use Rattle.kfifo_c.proofs.cell_queue.seat.CellSeat.publish_next.Goals as goal

pub returns : goal.returns
returns c = subst (λ (s : CellSeated). PublishesNext c.publish_next.result s c.publish_next.new.self) c.self.view_is
    c.publish_next.ensures
