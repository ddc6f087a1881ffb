use Rattle.std.proofs.Common.{◌<◌, ap, subst, refl, rules, None, sym, ◌∙◌, true≢false}
use Rattle.kfifo_c.specs.Behind.{starts_of}
use Rattle.kfifo_c.proofs.ByKind.{items_at}
use Rattle.kfifo_c.proofs.Tried.{tried}
use Rattle.kfifo_c.proofs.calls.kfifo_c_dequeue.Goals.{in-Some-Got, in-Some+in-Done-1, in-None-1}
use Rattle.kfifo_c.proofs.calls.kfifo_c_dequeue.Goals as goal

pub seat_mut-requires : goal.seat_mut-requires
seat_mut-requires c = items_at _ c.args.start (c.has_start.ensures.0 c.if-not-has_start.false)

pub dequeue-answer-requires : goal.dequeue-answer-requires
dequeue-answer-requires c = subst (λ n. c.args.start < n) (ap starts_of c.seat_mut.ensures.value)
    (c.has_start.ensures.0 c.if-not-has_start.false)

pub returns-clause-answer : goal.returns-clause-answer
returns-clause-answer c = (
  c.dequeue-answer.result,
  c.status.ensures,
  elim c.match-answer.branch [
    | in-Some-Got w ↦ search rules
    | in-Some+in-Done-1 w ↦ search rules
    | in-None-1 w ↦ search rules
  ],
  tried _ _ _ _ _ _ _ c.seat_mut.ensures.value refl c.dequeue-answer.ensures,
)

pub returns-then-not-has_start-clause-answer : goal.returns-then-not-has_start-clause-answer
returns-then-not-has_start-clause-answer c = (
  None,
  refl,
  refl,
  (
    refl,
    λ seat there may. true≢false
        (sym (c.has_start.ensures.1 (subst (λ n. c.args.start < n) (ap starts_of (sym there)) may.start_below))
        ∙ c.if-not-has_start.true),
  ),
)
