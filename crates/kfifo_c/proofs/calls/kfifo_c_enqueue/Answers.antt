use Rattle.std.proofs.Common.{◌<◌, ap, subst, refl}
use Rattle.kfifo_c.specs.Behind.{starts_of}
use Rattle.kfifo_c.proofs.ByKind.{items_at}
use Rattle.kfifo_c.proofs.Tried.{tried}
use Rattle.kfifo_c.proofs.calls.kfifo_c_enqueue.Goals as goal

pub seat_mut-requires : goal.seat_mut-requires
seat_mut-requires c = items_at _ c.args.start (c.has_start.ensures.0 c.if-not-has_start.false)

pub enqueue-answer-requires-clause-start : goal.enqueue-answer-requires-clause-start
enqueue-answer-requires-clause-start c = subst (λ n. c.args.start < n) (ap starts_of c.seat_mut.ensures.value)
    (c.has_start.ensures.0 c.if-not-has_start.false)

pub returns-clause-answer : goal.returns-clause-answer
returns-clause-answer c = (
  c.enqueue-answer.result,
  c.status.ensures,
  tried _ _ _ _ _ _ _ c.seat_mut.ensures.value refl c.enqueue-answer.ensures,
)
