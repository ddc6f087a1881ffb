use Rattle.std.proofs.Common.{sym, ◌∙◌}
use Rattle.kfifo_c.specs.Behind.{cells_found}
use Rattle.kfifo_c.proofs.cell_queue.calls.kfifo_c_why_no_cell.Goals as goal

pub seat_mut-requires : goal.seat_mut-requires
seat_mut-requires c = cells_found _ (sym c.args.pass.now.kind_is ∙ c.if-pass-ne-CELLS.false)
