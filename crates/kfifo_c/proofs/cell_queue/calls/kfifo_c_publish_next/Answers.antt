use Rattle.std.proofs.Common.{Some, refl, sym, ◌∙◌, None}
use Rattle.kfifo_c.specs.Behind.{Cells, cells_found}
use Rattle.kfifo_c.proofs.ByKind.{no_seat}
use Rattle.kfifo_c.proofs.cell_queue.calls.kfifo_c_publish_next.Goals as goal

pub seat_mut-requires : goal.seat_mut-requires
seat_mut-requires c = cells_found _ (sym c.args.pass.now.kind_is ∙ c.if-pass-ne-CELLS.false)

pub returns-clause-answer : goal.returns-clause-answer
returns-clause-answer c = (
  Some c.publish_next-given.result,
  c.call_status.ensures,
  (
    c.seat_mut.result.now,
    c.publish_next-given.new.self,
    c.seat_mut.ensures.value,
    refl,
    tt,
    c.publish_next-given.ensures,
  ),
)

pub returns-then-pass-ne-CELLS-clause-answer : goal.returns-then-pass-ne-CELLS-clause-answer
returns-then-pass-ne-CELLS-clause-answer c = (
  None,
  refl,
  (
    refl,
    λ seat there _. no_seat Cells 3 (λ x. refl) _
        (λ e. c.if-pass-ne-CELLS.true (c.args.pass.now.kind_is ∙ e)) seat there,
  ),
)
