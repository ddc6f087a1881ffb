use Rattle.std.proofs.Common.{Some, None, [], refl, sym, ◌∙◌}
use Rattle.kfifo_c.specs.Behind.{Values, values_found}
use Rattle.kfifo_c.proofs.ByKind.{no_seat}
use Rattle.kfifo_c.proofs.value_queue.many.kfifo_c_take_many.Goals as goal

pub returns-then-pass-ne-VALUES-clause-answer : goal.returns-then-pass-ne-VALUES-clause-answer
returns-then-pass-ne-VALUES-clause-answer c = (
  None,
  [],
  refl,
  refl,
  refl,
  (
    refl,
    λ seat there _. no_seat Values 2 (λ x. refl) _
        (λ e. c.if-pass-ne-VALUES.true (c.args.pass.now.kind_is ∙ e)) seat there,
  ),
)

pub seat_mut-requires : goal.seat_mut-requires
seat_mut-requires c = values_found _ (sym c.args.pass.now.kind_is ∙ c.if-pass-ne-VALUES.false)

pub returns-clause-answer : goal.returns-clause-answer
returns-clause-answer c =
    let each = c.take_each.ensures.each in (
      Some each.0,
      each.1,
      each.2,
      each.3,
      each.4,
      (c.seat_mut.result.now, c.take_each.new.self, c.seat_mut.ensures.value, refl, tt, each.5),
    )
