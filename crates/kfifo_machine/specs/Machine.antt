-- The machine: the words of the table with each thread's place in its call, one atomic step of one thread, and whole
-- schedules of them.
use Rattle.std.specs.Prelude.{◌≡◌, ℕ, ◌+◌, ◌*◌, ◌==◌, ◌&&◌, nat_lt, if◌then◌else◌, Bool, true, List, [], ◌∷◌, length}
use Rattle.std.specs.Prelude.{get_or, set, replicate, Option, Some, None, Result, Ok, Err, IsTrue, is_some, take}
use Rattle.std.specs.Prelude.{slice_get}
use Rattle.kfifo_words.specs.declared.word.TheConstants.{VALUES}
use Rattle.kfifo_words.specs.declared.shape.Shape.{Shape}
use Rattle.kfifo_words.specs.Words.{version_of, head_of, tail_of}
use Rattle.kfifo_words.specs.Ring.{clock_at}
use Rattle.kfifo_machine.specs.declared.place.EnqueuePhase.TheVariants as E
use Rattle.kfifo_machine.specs.declared.place.DequeuePhase.TheVariants as D
use Rattle.kfifo_machine.specs.declared.place.Running.{Running}
use Rattle.kfifo_machine.specs.declared.place.Running.TheVariants as R
use Rattle.kfifo_machine.specs.declared.place.Access.{Access}
use Rattle.kfifo_machine.specs.declared.place.Access.TheVariants.{Load, Exchange}
use Rattle.kfifo_machine.specs.declared.place.Next.{Next}
use Rattle.kfifo_machine.specs.declared.place.Next.TheVariants.{Goes, Answers}
use Rattle.kfifo_machine.specs.declared.event.Begin.{Begin}
use Rattle.kfifo_machine.specs.declared.event.Begin.TheVariants as B
use Rattle.kfifo_machine.specs.declared.event.Event.{Event}
use Rattle.kfifo_machine.specs.declared.event.Outcome.{Outcome}
use Rattle.kfifo_machine.specs.declared.event.Outcome.TheVariants.{Went, Ended}
use Rattle.kfifo_machine.specs.declared.event.NotEnabled.{NotEnabled}
use Rattle.kfifo_machine.specs.declared.event.NotEnabled.TheVariants.{NoSuchThread, Idle, InCall, BadCall, ClockSpent}
use Rattle.kfifo_machine.specs.declared.event.NotEnabled.TheVariants.{NotSealable}
use Rattle.kfifo_machine.specs.Program.{access, accessed, advance, sealed_word}

-- the words of the table, and each thread's place in its call
pub record World : Type 0 where
  pub words : List ℕ
  pub places : List (Option Running)

-- a machine of a shape
pub record Machine : Type 0 where
  pub shape : Shape
  pub world : World

-- the word with an index, and the place of a thread in its call
unfoldable pub word_at : World → ℕ → ℕ
word_at world index = get_or world.words index 0

unfoldable pub place_of : World → ℕ → Option Running
place_of world thread = get_or world.places thread None

-- the words after an access
abbrev pub words_after : Access → List ℕ → List ℕ
words_after (Load index) words = words
words_after (Exchange index from to) words = if get_or words index 0 == from then set words index to else words

-- where the thread stands after a step, and what the step comes to
abbrev pub place_after : Next → Option Running
place_after (Goes running) = Some running
place_after (Answers answer) = None

abbrev pub outcome_of : Next → Outcome
outcome_of (Goes running) = Went
outcome_of (Answers answer) = Ended answer

-- the word that a step finds
unfoldable pub found : Shape → World → Running → ℕ
found shape world running = word_at world (accessed (access shape running))

-- a thread at this place in its call makes its step
unfoldable pub moved : Shape → World → ℕ → Running → World
moved shape world thread running =
    record {
      words = words_after (access shape running) world.words;
      places = set world.places thread (place_after (advance shape running (found shape world running)));
    }

-- the clock's word after a tick
unfoldable pub ticked : Shape → World → World
ticked shape world =
    record {
      words = set world.words (clock_at shape.k shape.n) (word_at world (clock_at shape.k shape.n) + 1);
      places = world.places;
    }

-- The ends may be sealed: head and tail are in one segment, and the version is below the last
abbrev pub may_seal : Shape → ℕ → Bool
may_seal shape ends = (head_of ends == tail_of ends) && nat_lt (version_of ends) shape.last

-- the words after a seal: the ends have their last version
unfoldable pub sealed : Shape → World → World
sealed shape world =
    record {
      words = set world.words 0 (sealed_word shape (word_at world 0));
      places = world.places;
    }

-- what begins, where it is a call that may begin
abbrev pub begun : Begin → Option Running
begun (B.Enqueue item start turns) = Some (R.Enqueue item start turns E.LoadEnds)
begun (B.Dequeue start turns) = Some (R.Dequeue start turns D.LoadEnds)
begun B.Tick = None
begun B.Seal = None

-- a call has its start below k, at least one round, and an item in range
abbrev pub may_begin : Shape → Begin → Bool
may_begin shape (B.Enqueue item start turns) =
    nat_lt start shape.k && nat_lt 0 turns && nat_lt 0 item && nat_lt item VALUES
may_begin shape (B.Dequeue start turns) = nat_lt start shape.k && nat_lt 0 turns
may_begin shape B.Tick = true
may_begin shape B.Seal = true

-- the step of a thread at this place, which begins this
abbrev pub step_from : Shape → World → ℕ → Option Running → Option Begin → Result (World × Outcome) NotEnabled
step_from shape world thread None None = Err Idle
step_from shape world thread None (Some (B.Enqueue item start turns)) =
    if may_begin shape (B.Enqueue item start turns)
    then Ok (moved shape world thread (R.Enqueue item start turns E.LoadEnds), Went)
    else Err BadCall
step_from shape world thread None (Some (B.Dequeue start turns)) =
    if may_begin shape (B.Dequeue start turns)
    then Ok (moved shape world thread (R.Dequeue start turns D.LoadEnds), Went)
    else Err BadCall
step_from shape world thread None (Some B.Tick) =
    if word_at world (clock_at shape.k shape.n) == 18446744073709551615
    then Err ClockSpent
    else Ok (ticked shape world, Went)
step_from shape world thread None (Some B.Seal) =
    if may_seal shape (word_at world 0) then Ok (sealed shape world, Went) else Err NotSealable
step_from shape world thread (Some running) None =
    Ok (moved shape world thread running, outcome_of (advance shape running (found shape world running)))
step_from shape world thread (Some running) (Some begin) = Err InCall

unfoldable pub step : Shape → World → Event → Result (World × Outcome) NotEnabled
step shape world event =
    if nat_lt event.thread (length world.places)
    then step_from shape world event.thread (place_of world event.thread) event.begin
    else Err NoSuchThread

-- the opening: every word is 0, every thread idle
unfoldable pub opening : Shape → ℕ → World
opening shape threads = record { words = replicate (2 + shape.n * shape.k) 0; places = replicate threads None }

-- the world after an event that was enabled
abbrev pub world_of : Result (World × Outcome) NotEnabled → Option World
world_of (Ok (world, outcome)) = Some world
world_of (Err fault) = None

-- the world after a whole schedule, where each event was enabled
abbrev pub run : Shape → Option World → List Event → Option World
run shape world [] = world
run shape None (event ∷ events) = None
run shape (Some world) (event ∷ events) = run shape (world_of (step shape world event)) events

-- each event is enabled in turn, from the opening
abbrev pub IsSchedule : Shape → ℕ → List Event → Type 0
IsSchedule shape threads events = IsTrue (is_some (run shape (Some (opening shape threads)) events))

-- the world after a schedule from the opening, where it is one
abbrev pub after : Shape → ℕ → List Event → Option World
after shape threads events = run shape (Some (opening shape threads)) events

-- the event at this place is the first that is not enabled
pub record IsFirstRefused (shape : Shape) (threads : ℕ) (events : List Event) (place : ℕ) : Type 0 where
  pub event : Event
  pub world : World
  pub fault : NotEnabled
  pub is_there : slice_get events place ≡ Some event
  pub before : after shape threads (take place events) ≡ Some world
  pub refused : step shape world event ≡ Err fault
