-- The log is that of the events so far, and so it is a history.
use Rattle.std.proofs.Common.{◌≡◌, ℕ, ◌∙◌, subst, sym, ap}
use Rattle.kfifo_model.specs.Validity.{IsHistory}
use Rattle.kfifo_machine.specs.Machine.{IsFirstRefused}
use Rattle.kfifo_machine.specs.Calls.{Log}
use Rattle.kfifo_machine.proofs.Schedules.{goes_on, stops}
use Rattle.kfifo_machine.proofs.Calls.{history_is, no_fault, log_thread, log_call, log_goes_on}
use Rattle.kfifo_machine.proofs.log.log_events.Goals as goal

pub note-requires-clause-thread : goal.note-requires-clause-thread
note-requires-clause-thread c =
    log_thread c.args.shape c.loop-place.state.shape c.args.threads _ c.loop-place.state.world _ c.step.new.state.world
    _ c.loop-place.log
    c.in_ok-state.ensures.few.1
    c.loop-place.invariant.reached c.loop-place.invariant.logs c.in-Ok.ensures.made

pub note-requires-clause-call : goal.note-requires-clause-call
note-requires-clause-call c answer none ended =
    log_call c.args.shape c.loop-place.state.shape c.args.threads _ c.loop-place.state.world _ c.step.new.state.world _
    c.loop-place.log
    c.in_ok-state.ensures.few.1
    c.loop-place.invariant.reached c.loop-place.invariant.logs c.in-Ok.ensures.made none

pub returns-in-Err-clause-refused : goal.returns-in-Err-clause-refused
returns-in-Err-clause-refused c place e =
    let same : c.loop-place.place ≡ place = cc in
    let P : ℕ → Type 0 = λ p. IsFirstRefused c.args.shape c.args.threads c.args.events.now p in
    subst P same
    (stops c.args.shape c.args.threads c.args.events.now c.loop-place.place _ c.loop-place.state.shape
    c.loop-place.state.world _
    c.loop-place-test.true c.loop-place.invariant.shape c.loop-place.invariant.reached c.in-Err.ensures.refused)

pub loop-place-preserved : goal.loop-place-preserved
loop-place-preserved c = record {
  shape = c.step.ensures.shape ∙ c.loop-place.invariant.shape;
  reached = goes_on c.args.shape c.args.threads c.args.events.now c.loop-place.place _ c.loop-place.state.shape
      c.loop-place.state.world c.step.new.state.world _
      c.loop-place-test.true c.loop-place.invariant.shape c.loop-place.invariant.reached c.in-Ok.ensures.made;
  logs = log_goes_on c.args.shape c.loop-place.state.shape c.args.threads c.args.events.now c.loop-place.place _
      c.loop-place.state.world c.step.new.state.world _ c.loop-place.log c.note.new.self
      c.loop-place-test.true c.loop-place.invariant.shape c.loop-place.invariant.reached c.in-Ok.ensures.made
      c.loop-place.invariant.logs
      c.in_ok-note-in-Ok.ensures;
}

pub unreachable-requires : goal.unreachable-requires
unreachable-requires c =
    let calls : c.loop-place.log.calls ≡ c.log-2.inside.calls.items = ap (λ (l : Log). l.calls) (sym c.log-2.view_is) in
    let good : IsHistory c.log-2.inside.calls.items =
    subst IsHistory (sym (ap (λ (l : Log). l.calls) c.loop-place.invariant.logs) ∙ calls)
    (history_is c.args.shape c.args.threads _ c.loop-place.state.world c.in_ok-state.ensures.few.1
    c.loop-place.invariant.reached) in
    no_fault c.log-2.inside.calls.items c.in-Err-new._fault good c.in-Err-new.ensures
