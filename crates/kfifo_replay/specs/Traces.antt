-- What the trace of a replay says of its picks.
use Rattle.std.specs.Prelude.{◌≡◌, ℕ, ◌+◌, ◌*◌, ◌<◌, ◌++◌, ◌∷◌, [], List, length, take, Option, Some, None}
use Rattle.kfifo_words.specs.declared.shape.Shape.{Shape}
use Rattle.kfifo_machine.specs.declared.event.Begin.{Begin}
use Rattle.kfifo_machine.specs.declared.event.Event.{Event}
use Rattle.kfifo_machine.specs.declared.event.Outcome.{Outcome}
use Rattle.kfifo_machine.specs.Machine.{World, opening, place_of, word_at}
use Rattle.kfifo_machine.specs.Program.{access, accessed}
use Rattle.kfifo_machine.specs.Runs.{going}
use Rattle.kfifo_replay.specs.declared.steps.Upcoming.{Upcoming}
use Rattle.kfifo_replay.specs.declared.steps.Step.{Step}
use Rattle.kfifo_replay.specs.Picks.{events_of}
use Rattle.kfifo_replay.specs.Player.{Trace}
use Rattle.kfifo_replay.specs.Steps.{AreSteps, IsStep}

-- What the first events did of the schedule that these picks make: as many events as there are, up to this number
pub record IsTrace (shape : Shape) (scripts : List (List Begin)) (picks : List ℕ) (most : ℕ) (steps : List Step)
    : Type 0 where
  pub events : List Event
  pub made : events_of shape scripts picks ≡ Some events
  pub are : AreSteps shape (opening shape (length scripts)) (take most events) steps

-- the trace with one step more, where it is not full
abbrev pub keeps : Step → Trace → Trace
keeps s t = record t { steps = take t.most (t.steps ++ s ∷ []) }

-- The event leads the machine from here to there, and the trace then keeps what it did
abbrev pub KeepsStep : Shape → World → Event → World → Trace → Trace → Type 0
KeepsStep shape here event there before after = (s : Step) × IsStep shape here event there s × (after ≡ keeps s before)

-- The step that an event will make from here, before it is made: its place, its access, one of the words, and this word
pub record IsUpcoming (shape : Shape) (here : World) (event : Event) (l : Upcoming) : Type 0 where
  pub place : going shape (place_of here event.thread) event.begin ≡ Some l.place
  pub does : l.access ≡ access shape l.place
  pub within : accessed l.access < 2 + shape.n * shape.k
  pub before : l.before ≡ word_at here (accessed l.access)

-- the step of a thread that came to this, where it was looked at before
abbrev pub step_of : World → ℕ → Upcoming → Outcome → Step
step_of there thread l outcome =
    record {
      thread = thread;
      place = l.place;
      access = l.access;
      before = l.before;
      after = word_at there (accessed l.access);
      outcome = outcome;
    }

abbrev pub step_seen : World → ℕ → Option Upcoming → Outcome → List Step
step_seen there thread None outcome = []
step_seen there thread (Some l) outcome = step_of there thread l outcome ∷ []
