use Rattle.std.proofs.Common.{Some, refl, ◌∙◌}
use Rattle.kfifo_c.proofs.ByKind.{items_from}
use Rattle.kfifo_c.proofs.many.kfifo_c_put_many.Goals as goal

pub seat_mut-requires : goal.seat_mut-requires
seat_mut-requires c = items_from _ (λ e. c.if-pass-eq0.false (c.args.pass.now.starts_are ∙ e))

pub returns-clause-answer : goal.returns-clause-answer
returns-clause-answer c =
    let each = c.put_each.ensures.each in (
      Some each.0,
      each.1,
      (
        c.seat_mut.result.now,
        c.put_each.new.self,
        c.seat_mut.ensures.value,
        refl,
        c.are_items.ensures.0
            c.if-not-are_items.false,
        each.2,
      ),
    )
