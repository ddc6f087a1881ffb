use Rattle.std.proofs.Common.{Some, refl, ◌∙◌, arith}
use Rattle.kfifo_c.proofs.ByKind.{items_from}
use Rattle.kfifo_c.proofs.calls.kfifo_c_put.Goals as goal

pub seat_mut-requires : goal.seat_mut-requires
seat_mut-requires c = items_from _ (λ e. c.if-pass-eq0.false (c.args.pass.now.starts_are ∙ e))

pub returns-clause-answer : goal.returns-clause-answer
returns-clause-answer c = (
  Some c.put-answer.result,
  c.status.ensures,
  (
    c.seat_mut.result.now,
    c.put-answer.new.self,
    c.seat_mut.ensures.value,
    refl,
    record { some_item = omega arith; small_item = omega arith },
    c.put-answer.ensures,
  ),
)
