-- What one call of a pass came to: the events that it added to what the pass had seen, and what its answer says of
-- them.
use Rattle.std.specs.Prelude.{◌≡◌, ◌≢◌, ℕ, ◌+◌, ◌<◌, ◌≤◌, List, ◌∷◌, ◌++◌, length, drop, Some, true}
use Rattle.kfifo_model.specs.declared.calls.Answer.{Answer}
use Rattle.kfifo_model.specs.declared.calls.Answer.TheVariants.{Full, Busy, Worn}
use Rattle.kfifo_machine.specs.declared.event.Begin.{Begin}
use Rattle.kfifo_machine.specs.declared.event.Event.{Event}
use Rattle.kfifo_machine.specs.Machine.{World, word_at}
use Rattle.kfifo_machine.specs.Runs.{CompleteExecution, own}
use Rattle.kfifo_machine.specs.Laws.{IsRefusal, PutsNext, most_events}
use Rattle.kfifo_machine.specs.Causes.{CauseOfFull, CauseOfWorn, looks, start_of}
use Rattle.kfifo_machine.specs.Rounds.{LosesAll, OtherWins, turns_of}
use Rattle.kfifo_progress.specs.Progress.{AllHaveTurns, calls_answered, seals_in, turns_for_progress}
use Rattle.kfifo_live.specs.Pass.{PassView}
use Rattle.kfifo_live.specs.Schedule.{world_after}

-- the events that are new to the pass
abbrev pub added : PassView → PassView → List Event
added old new = drop (length old.seen) new.seen

-- its own ones are one complete execution of this call with this answer, the last event of all among them
abbrev pub Makes : Begin → Answer → PassView → PassView → Type 0
Makes call answer old new = CompleteExecution old.opened.shape old.opened.threads old.thread call answer old.seen
    new.seen

-- they are at most `turns * (2k + 9)`
abbrev pub TakesFewSteps : Begin → PassView → PassView → Type 0
TakesFewSteps call old new = length (own old.thread (added old new)) ≤ most_events old.opened.shape call

-- What they found is the cause of the answer. Full: in one round the ring was seen full. Worn: the last round came upon
-- a version too great. Busy: each round was lost
abbrev pub HasCause : Begin → Answer → PassView → PassView → Type 0
HasCause call Full old new = CauseOfFull old.opened.shape (start_of call)
    (looks old.opened.shape old.thread (world_after old.opened old.seen) (added old new))
HasCause call Worn old new = CauseOfWorn old.opened.shape
    (looks old.opened.shape old.thread (world_after old.opened old.seen) (added old new))
HasCause call Busy old new = (here : World) → world_after old.opened old.seen ≡ Some here
    → LosesAll old.opened.shape old.thread (turns_of call) here (added old new)
HasCause call other old new = Unit {0}

-- between the call's first and its last event another thread won an exchange
abbrev pub IsDisturbed : PassView → PassView → Type 0
IsDisturbed old new = (here : World) → world_after old.opened old.seen ≡ Some here
    → OtherWins old.opened.shape old.thread here (added old new)

-- Progress: where the queue holds again and has more segments than threads, and each call that began meanwhile, itself
-- included, has turns enough, another call ended meanwhile with another answer than Busy, or the ends were sealed
abbrev pub OtherAnswers : PassView → PassView → Type 0
OtherAnswers old new = old.opened.shape.holds_again ≡ true → old.opened.threads < old.opened.shape.n
    → AllHaveTurns (turns_for_progress old.opened.shape old.opened.threads) (added old new)
    → 0 < calls_answered old.opened.shape (world_after old.opened old.seen) (added old new) + seals_in (added old new)

-- a word that the call put into a slot does not stand there when it has ended, nor ever after
abbrev pub LeavesNoItem : PassView → PassView → Type 0
LeavesNoItem old new = (before after : List Event) (e : Event) (index word : ℕ)
    → new.seen ≡ (old.seen ++ before) ++ e ∷ after → e.thread ≡ old.thread
    → PutsNext old.opened.shape old.opened.threads (old.seen ++ before) old.thread index word
    → (later : List Event) (here : World) → world_after old.opened (new.seen ++ later) ≡ Some here
    → word_at here index ≢ word

-- A call of a pass with this answer: one complete execution of the queue's program, and what is so of each of them.
-- Busy after n + 2 rounds or more is another thread's doing
pub record MakesCall (begin : Begin) (answer : Answer) (old new : PassView) : Type 0 where
  pub run : Makes begin answer old new
  pub few_steps : TakesFewSteps begin old new
  pub cause : HasCause begin answer old new
  pub disturbed : answer ≡ Busy → old.opened.shape.n + 2 ≤ turns_of begin → IsDisturbed old new
  pub progress : answer ≡ Busy → OtherAnswers old new
  pub leaves_none : IsRefusal answer → LeavesNoItem old new
