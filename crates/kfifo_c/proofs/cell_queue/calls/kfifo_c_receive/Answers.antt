use Rattle.std.proofs.Common.{◌≡◌, Some, refl, subst, sym, ◌∙◌, None}
use Rattle.kfifo_live.specs.declared.payload.Taken.{Taken}
use Rattle.kfifo_live.specs.declared.payload.Taken.TheVariants as K
use Rattle.kfifo_renewing.specs.Cells.{ReceivesOldest}
use Rattle.kfifo_renewing.specs.declared.memory.CellAt.{CellAt}
use Rattle.kfifo_c.specs.CellCalls.{cell_after}
use Rattle.kfifo_c.specs.Behind.{Cells, cells_found}
use Rattle.kfifo_c.proofs.ByKind.{no_seat}
use Rattle.kfifo_c.proofs.cell_queue.calls.kfifo_c_receive.Goals as goal

-- what is no Got leaves the variable as it is
unchanged : (old : CellAt) (taken : Taken CellAt) → ((x : CellAt) → taken ≡ K.Got x → ⊥)
    → old ≡ cell_after old (Some taken)
unchanged old (K.Got x) other = absurd (other x refl)
unchanged old K.Empty other = refl
unchanged old K.Busy other = refl
unchanged old K.Worn other = refl

pub seat_mut-requires : goal.seat_mut-requires
seat_mut-requires c = cells_found _ (sym c.args.pass.now.kind_is ∙ c.if-pass-ne-CELLS.false)

pub returns-in-Got-clause-answer : goal.returns-in-Got-clause-answer
returns-in-Got-clause-answer c = (
  Some (K.Got c.in-Got.got),
  refl,
  refl,
  (
    c.seat_mut.result.now,
    c.receive-taken.new.self,
    c.seat_mut.ensures.value,
    refl,
    tt,
    subst (λ (a : Taken CellAt). ReceivesOldest a c.seat_mut.result.now c.receive-taken.new.self) c.in-Got.is
        c.receive-taken.ensures,
  ),
)

pub returns-clause-answer : goal.returns-clause-answer
returns-clause-answer c = (
  Some c.receive-taken.result,
  c.taken_status.ensures,
  unchanged c.args.cell.now c.receive-taken.result c.in_default.not-Got,
  (c.seat_mut.result.now, c.receive-taken.new.self, c.seat_mut.ensures.value, refl, tt, c.receive-taken.ensures),
)

pub returns-then-pass-ne-CELLS-clause-answer : goal.returns-then-pass-ne-CELLS-clause-answer
returns-then-pass-ne-CELLS-clause-answer c = (
  None,
  refl,
  refl,
  (
    refl,
    λ seat there _. no_seat Cells 3 (λ x. refl) _
        (λ e. c.if-pass-ne-CELLS.true (c.args.pass.now.kind_is ∙ e)) seat there,
  ),
)
