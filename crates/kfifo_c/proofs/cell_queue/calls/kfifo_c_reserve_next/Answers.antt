use Rattle.std.proofs.Common.{Some, refl, sym, ap, ◌∙◌, None}
use Rattle.kfifo_c.specs.CellCalls.{cell_after_reserve, reservation_number}
use Rattle.kfifo_c.specs.Behind.{Cells, cells_found}
use Rattle.kfifo_c.proofs.ByKind.{no_seat}
use Rattle.kfifo_c.proofs.cell_queue.calls.kfifo_c_reserve_next.Goals as goal

pub seat_mut-requires : goal.seat_mut-requires
seat_mut-requires c = cells_found _ (sym c.args.pass.now.kind_is ∙ c.if-pass-ne-CELLS.false)

pub returns-in-None-clause-answer : goal.returns-in-None-clause-answer
returns-in-None-clause-answer c = (
  Some c.reserve_next.result,
  ap (λ r. reservation_number (Some r)) (sym c.in-None.is),
  ap (λ r. cell_after_reserve c.args.cell.now (Some r)) (sym c.in-None.is),
  (c.seat_mut.result.now, c.reserve_next.new.self, c.seat_mut.ensures.value, refl, tt, c.reserve_next.ensures),
)

pub returns-in-Some-clause-answer : goal.returns-in-Some-clause-answer
returns-in-Some-clause-answer c = (
  Some c.reserve_next.result,
  ap (λ r. reservation_number (Some r)) (sym c.in-Some.is),
  ap (λ r. cell_after_reserve c.args.cell.now (Some r)) (sym c.in-Some.is),
  (c.seat_mut.result.now, c.reserve_next.new.self, c.seat_mut.ensures.value, refl, tt, c.reserve_next.ensures),
)

pub returns-then-pass-ne-CELLS-clause-answer : goal.returns-then-pass-ne-CELLS-clause-answer
returns-then-pass-ne-CELLS-clause-answer c = (
  None,
  refl,
  refl,
  (
    refl,
    λ seat there _. no_seat Cells 3 (λ x. refl) _
        (λ e. c.if-pass-ne-CELLS.true (c.args.pass.now.kind_is ∙ e)) seat there,
  ),
)
