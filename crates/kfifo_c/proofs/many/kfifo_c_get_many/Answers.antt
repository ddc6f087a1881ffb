use Rattle.std.proofs.Common.{Some, None, [], refl, sym, ◌∙◌}
use Rattle.kfifo_c.proofs.ByKind.{items_from, no_items}
use Rattle.kfifo_c.proofs.many.kfifo_c_get_many.Goals as goal

pub returns-then-pass-eq0-clause-answer : goal.returns-then-pass-eq0-clause-answer
returns-then-pass-eq0-clause-answer c = (
  None,
  [],
  refl,
  refl,
  refl,
  (
    refl,
    λ seat there _. no_items _ (sym c.args.pass.now.starts_are ∙ c.if-pass-eq0.true)
        seat there,
  ),
)

pub seat_mut-requires : goal.seat_mut-requires
seat_mut-requires c = items_from _ (λ e. c.if-pass-eq0.false (c.args.pass.now.starts_are ∙ e))

pub returns-clause-answer : goal.returns-clause-answer
returns-clause-answer c =
    let each = c.get_each.ensures.each in (
      Some each.0,
      each.1,
      each.2,
      each.3,
      each.4,
      (c.seat_mut.result.now, c.get_each.new.self, c.seat_mut.ensures.value, refl, tt, each.5),
    )
