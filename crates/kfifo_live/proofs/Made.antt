-- A complete execution of a call has all that is said of one call.
use Rattle.std.proofs.Common.{◌≡◌, ◌+◌, ◌<◌, ◌≤◌, List, [], ◌∷◌, ◌++◌, length, drop, Some, sym, ap, ◌∙◌, subst}
use Rattle.std.proofs.Common.{append_assoc}
use Rattle.std.proofs.Math.Seq.{drop-append_seam}
use Rattle.kfifo_live.proofs.Types.{Answer, Begin, Event}
use Rattle.kfifo_model.specs.declared.calls.Answer.TheVariants.{Done, Full, Got, Empty, Busy, Worn}
use Rattle.kfifo_machine.specs.Runs.{own}
use Rattle.kfifo_machine.specs.Laws.{IsRefusal, most_events}
use Rattle.kfifo_machine.specs.Causes.{CauseOfFull, CauseOfWorn, looks, start_of}
use Rattle.kfifo_machine.specs.Rounds.{LosesAll, OtherWins, turns_of}
use Rattle.kfifo_machine.specs.Machine.{world_of}
use Rattle.kfifo_machine.proofs.Schedules.{after-snoc}
use Rattle.kfifo_machine.proofs.Budget.{few_events}
use Rattle.kfifo_machine.proofs.Refusals as Refusals
use Rattle.kfifo_machine.proofs.Causes.{full_has_cause}
use Rattle.kfifo_machine.proofs.Wear.{worn_has_cause}
use Rattle.kfifo_machine.proofs.Losses.{busy_has_cause}
use Rattle.kfifo_machine.proofs.BusyIsDisturbed.{busy_is_disturbed}
use Rattle.kfifo_progress.specs.Progress.{AllHaveTurns, calls_answered, seals_in, turns_for_progress}
use Rattle.kfifo_progress.proofs.Answers.{busy_means_progress}
use Rattle.kfifo_live.specs.Pass.{PassView}
use Rattle.kfifo_live.specs.Schedule.{world_after}
use Rattle.kfifo_live.specs.Calls.{added, Makes, MakesCall, TakesFewSteps, HasCause, IsDisturbed, LeavesNoItem}
use Rattle.kfifo_live.specs.Calls.{OtherAnswers}

-- what it added
added-made : (call : Begin) (answer : Answer) (old new : PassView) → (run : Makes call answer old new)
    → added old new ≡ run.between ++ run.last ∷ []
added-made call answer old new run =
    ap (drop (length old.seen)) (run.new_is ∙ append_assoc old.seen run.between (run.last ∷ []))
    ∙ drop-append_seam old.seen (run.between ++ run.last ∷ [])

takes_few_steps : (call : Begin) (answer : Answer) (old new : PassView) → Makes call answer old new
    → TakesFewSteps call old new
takes_few_steps call answer old new run =
    let here : world_after old.opened (old.seen ++ (run.between ++ run.last ∷ [])) ≡ Some run.world =
    ap (world_after old.opened) (sym (append_assoc old.seen run.between (run.last ∷ [])))
    ∙ after-snoc old.opened.shape old.opened.threads (old.seen ++ run.between) run.before run.last run.reached
    ∙ ap world_of run.ends in
    let few = few_events old.opened.shape old.opened.threads old.thread call old.seen (run.between ++ run.last ∷ [])
    run.world here
    run.one_call in
    subst (λ (es : List Event). length (own old.thread es) ≤ most_events old.opened.shape call)
    (sym (added-made call answer old new run))
    few

has_cause : (call : Begin) (answer : Answer) (old new : PassView) → Makes call answer old new
    → HasCause call answer old new
has_cause call Full old new run =
    subst (λ (es : List Event). CauseOfFull old.opened.shape (start_of call)
    (looks old.opened.shape old.thread (world_after old.opened old.seen) es)) (sym (added-made call Full old new run))
    (full_has_cause old.opened.shape old.opened.threads old.thread call old.seen new.seen run)
has_cause call Worn old new run =
    subst (λ (es : List Event). CauseOfWorn old.opened.shape
    (looks old.opened.shape old.thread (world_after old.opened old.seen) es))
    (sym (added-made call Worn old new run))
    (worn_has_cause old.opened.shape old.opened.threads old.thread call old.seen new.seen run)
has_cause call Busy old new run = λ here reached.
    subst (λ (es : List Event). LosesAll old.opened.shape old.thread (turns_of call) here es)
    (sym (added-made call Busy old new run))
    (busy_has_cause old.opened.shape old.opened.threads old.thread call old.seen new.seen run here reached)
has_cause call Done old new run = tt
has_cause call (Got item) old new run = tt
has_cause call Empty old new run = tt

is_disturbed : (call : Begin) (answer : Answer) (old new : PassView) → Makes call answer old new → answer ≡ Busy
    → old.opened.shape.n + 2 ≤ turns_of call → IsDisturbed old new
is_disturbed call answer old new run busy enough here reached =
    let run' = subst (λ (a : Answer). Makes call a old new) busy run in
    subst (λ (es : List Event). OtherWins old.opened.shape old.thread here es) (sym (added-made call Busy old new run'))
    (busy_is_disturbed old.opened.shape old.opened.threads old.thread call old.seen new.seen run' here reached enough)

other_answers : (call : Begin) (answer : Answer) (old new : PassView) → Makes call answer old new → answer ≡ Busy
    → OtherAnswers old new
other_answers call answer old new run busy again wide turns =
    let run' = subst (λ (a : Answer). Makes call a old new) busy run in
    let is = added-made call Busy old new run' in
    subst (λ (es : List Event). 0 < calls_answered old.opened.shape (world_after old.opened old.seen) es + seals_in es)
    (sym is)
    (busy_means_progress old.opened.shape old.opened.threads again wide old.thread call old.seen new.seen run'
    (subst (AllHaveTurns (turns_for_progress old.opened.shape old.opened.threads)) is turns))

leaves_none : (call : Begin) (answer : Answer) (old new : PassView) → Makes call answer old new → IsRefusal answer
    → LeavesNoItem old new
leaves_none call answer old new run refusal =
    Refusals.leaves_none old.opened.shape old.opened.threads old.thread call answer old.seen new.seen run refusal

pub makes_call : (call : Begin) (answer : Answer) (old new : PassView) → Makes call answer old new
    → MakesCall call answer old new
makes_call call answer old new run = record {
  run = run;
  few_steps = takes_few_steps call answer old new run;
  cause = has_cause call answer old new run;
  disturbed = is_disturbed call answer old new run;
  progress = other_answers call answer old new run;
  leaves_none = leaves_none call answer old new run;
}
