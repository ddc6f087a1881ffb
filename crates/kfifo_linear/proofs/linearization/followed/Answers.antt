-- The linearizer has followed the events so far, and the next one is enabled or ends it.
use Rattle.std.proofs.Common.{◌≡◌, ◌<◌, take, inr, sym, ◌∙◌, subst, arith}
use Rattle.std.proofs.lemmas.List.{take_all}
use Rattle.kfifo_machine.specs.Machine.{IsSchedule}
use Rattle.kfifo_machine.proofs.Schedules.{take-next}
use Rattle.kfifo_linear.specs.Notes.{calls_begun}
use Rattle.kfifo_linear.specs.Following.{Follows}
use Rattle.kfifo_linear.proofs.Linearizing.{no_schedule, room_left}
use Rattle.kfifo_linear.proofs.linearization.followed.Goals as goal

pub feed-requires-clause-room : goal.feed-requires-clause-room
feed-requires-clause-room c begins =
    let left : calls_begun (take c.loop-event.event-index c.args.events.now) < calls_begun c.args.events.now =
    room_left c.args.events.now c.loop-event.event-index _ c.loop-event-test.true begins in
    omega (arith, left, c.loop-event.invariant.follows.begun, c.loop-event.invariant.follows.sizes.calls)

pub returns-in-Err-clause-refused : goal.returns-in-Err-clause-refused
returns-in-Err-clause-refused c =
    let at = c.loop-event.invariant.follows in
    inr (λ schedule. no_schedule c.loop-event.linearizer.shape c.args.threads c.args.events.now
    c.loop-event.event-index _
    c.loop-event.linearizer.world c.in-Err._fault c.loop-event-test.true at.reached c.in-Err.ensures.refused
    (subst (λ s. IsSchedule s c.args.threads c.args.events.now) (sym c.loop-event.invariant.shape) schedule))

pub loop-event-preserved : goal.loop-event-preserved
loop-event-preserved c = record {
  shape = c.in-Ok.ensures.shape ∙ c.loop-event.invariant.shape;
  follows = subst (λ (es : _). Follows c.args.threads (calls_begun c.args.events.now) es c.feed.new.self)
      (sym (take-next c.args.events.now c.loop-event.event-index _ c.loop-event-test.true))
      (c.in-Ok.ensures.follows c.args.threads (calls_begun c.args.events.now)
      (take c.loop-event.event-index c.args.events.now)
      c.loop-event.invariant.follows);
}

pub returns-clause-followed : goal.returns-clause-followed
returns-clause-followed c =
    let all : take c.loop-event.event-index c.args.events.now ≡ c.args.events.now =
    take_all c.loop-event.event-index c.args.events.now (omega (arith, c.loop-event-test.false)) in (
      c.loop-event.invariant.shape,
      c.in_ok-linearizer.ensures.few.0,
      c.in_ok-linearizer.ensures.few.1,
      subst (λ es. Follows c.args.threads (calls_begun c.args.events.now) es c.loop-event.linearizer) all
          c.loop-event.invariant.follows,
    )
