use Rattle.std.proofs.Common.{Some, refl, sym, ap, ◌∙◌}
use Rattle.kfifo_c.specs.CellCalls.{cell_after_reserve, next_number}
use Rattle.kfifo_c.proofs.ByKind.{left_found}
use Rattle.kfifo_c.proofs.cell_queue.left.kfifo_c_next_left.Goals as goal

pub seat_mut-requires : goal.seat_mut-requires
seat_mut-requires c = left_found _ (λ e. c.if-left-eq0.false (c.args.left.now.holds_are ∙ e))

pub returns-in_default : goal.returns-in_default
returns-in_default c = (
  Some c.take_next.result,
  ap (λ r. next_number (Some r)) (sym c.in_default.is),
  ap (λ r. cell_after_reserve c.args.cell.now (Some r)) (sym c.in_default.is),
  (c.seat_mut.result.now, c.take_next.new.self, c.seat_mut.ensures.value, refl, tt, c.take_next.ensures),
)

pub returns : goal.returns
returns c = (
  Some c.take_next.result,
  ap (λ r. next_number (Some r)) (sym c.in-Some.is),
  ap (λ r. cell_after_reserve c.args.cell.now (Some r)) (sym c.in-Some.is),
  (c.seat_mut.result.now, c.take_next.new.self, c.seat_mut.ensures.value, refl, tt, c.take_next.ensures),
)
