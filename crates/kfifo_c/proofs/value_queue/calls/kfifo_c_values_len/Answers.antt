use Rattle.std.proofs.Common.{Some, refl, sym, ◌∙◌, None}
use Rattle.kfifo_c.specs.Behind.{Values, values_found}
use Rattle.kfifo_c.proofs.ByKind.{no_seat}
use Rattle.kfifo_c.proofs.value_queue.calls.kfifo_c_values_len.Goals as goal

pub seat_mut-requires : goal.seat_mut-requires
seat_mut-requires c = values_found _ (sym c.args.pass.now.kind_is ∙ c.if-pass-ne-VALUES.false)

pub returns-clause-counted : goal.returns-clause-counted
returns-clause-counted c = (
  Some c.len.result,
  refl,
  (c.seat_mut.result.now, c.len.new.self, c.seat_mut.ensures.value, refl, tt, c.len.ensures),
)

pub returns-then-pass-ne-VALUES-clause-counted : goal.returns-then-pass-ne-VALUES-clause-counted
returns-then-pass-ne-VALUES-clause-counted c = (
  None,
  refl,
  (
    refl,
    λ seat there _. no_seat Values 2 (λ x. refl) _
        (λ e. c.if-pass-ne-VALUES.true (c.args.pass.now.kind_is ∙ e)) seat there,
  ),
)
