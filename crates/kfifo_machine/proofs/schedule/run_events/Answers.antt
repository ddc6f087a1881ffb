-- The schedule so far was run, and its next event is made or refused.
use Rattle.std.proofs.Common.{◌≡◌, ℕ, ◌∙◌, subst}
use Rattle.kfifo_machine.specs.Machine.{IsFirstRefused}
use Rattle.kfifo_machine.proofs.Schedules.{goes_on, stops}
use Rattle.kfifo_machine.proofs.schedule.run_events.Goals as goal

pub loop-place-preserved : goal.loop-place-preserved
loop-place-preserved c = record {
  shape = c.step.ensures.shape ∙ c.loop-place.invariant.shape;
  reached = goes_on c.args.shape c.args.threads c.args.events.now c.loop-place.place _ c.loop-place.state.shape
      c.loop-place.state.world c.step.new.state.world _
      c.loop-place-test.true c.loop-place.invariant.shape c.loop-place.invariant.reached c.in-Ok.ensures.made;
}

pub returns-in-Err-clause-refused : goal.returns-in-Err-clause-refused
returns-in-Err-clause-refused c place e =
    let same : c.loop-place.place ≡ place = cc in
    let P : ℕ → Type 0 = λ p. IsFirstRefused c.args.shape c.args.threads c.args.events.now p in
    subst P same
    (stops c.args.shape c.args.threads c.args.events.now c.loop-place.place _ c.loop-place.state.shape
    c.loop-place.state.world _
    c.loop-place-test.true c.loop-place.invariant.shape c.loop-place.invariant.reached c.in-Err.ensures.refused)
