-- What a replay keeps, and which picks it stands for.
use Rattle.std.specs.Prelude.{◌≡◌, ℕ, ◌<◌, ◌≤◌, ◌++◌, ◌∷◌, [], ◌==◌, List, length, take, get_or, Bool, true, false}
use Rattle.std.specs.Prelude.{Option, Some, None, is_some, IsTrue}
use Rattle.kfifo_words.specs.declared.shape.Shape.{Shape}
use Rattle.kfifo_machine.specs.declared.event.Begin.{Begin}
use Rattle.kfifo_machine.specs.declared.event.Event.{Event}
use Rattle.kfifo_machine.specs.declared.event.Outcome.{Outcome}
use Rattle.kfifo_machine.specs.declared.event.Outcome.TheVariants.{Ended}
use Rattle.kfifo_model.specs.declared.calls.Answer.TheVariants.{Done}
use Rattle.kfifo_machine.specs.declared.place.EnqueuePhase.TheVariants as E
use Rattle.kfifo_machine.specs.declared.place.Running.{Running}
use Rattle.kfifo_machine.specs.declared.place.Running.TheVariants as R
use Rattle.kfifo_machine.specs.Machine.{opening}
use Rattle.kfifo_machine.specs.Calls.{Log, log_of}
use Rattle.kfifo_machine.specs.Laws.{count}
use Rattle.kfifo_linear.specs.Following.{Follower, Follows}
use Rattle.kfifo_replay.specs.declared.fault.ReplayFault.{ReplayFault}
use Rattle.kfifo_replay.specs.declared.fault.ReplayFault.TheVariants.{BadPick}
use Rattle.kfifo_replay.specs.Scripts.{AreScripts, calls_in}
use Rattle.kfifo_replay.specs.declared.steps.Step.{Step}
use Rattle.kfifo_replay.specs.Picks.{begun_by, events_of}
use Rattle.kfifo_replay.specs.Steps.{AreSteps}

-- a step from this place that finds this word is a won undo: it takes back the item that the call had put
abbrev pub undoes : Running → ℕ → Bool
undoes (R.Enqueue item start left (E.Undo index filled worn)) word = word == filled
undoes other word = false

-- a thread at this place will make an undo, won or lost
abbrev pub is_undoing : Option Running → Bool
is_undoing (Some (R.Enqueue item start left (E.Undo index filled worn))) = true
is_undoing other = false

-- an undo that came to this is won: one that is lost returns Done
abbrev pub takes_back : Bool → Outcome → Bool
takes_back undoing (Ended Done) = false
takes_back undoing other = undoing

-- the won undos of a schedule
abbrev pub undos : Shape → ℕ → List Event → ℕ
undos shape threads events = count shape undoes (Some (opening shape threads)) events

-- a log of calls, and for how many it has room
pub record Book : Type 0 where
  pub log : Log
  pub room : ℕ

-- what the first events did, and the greatest number of events for which this is kept
pub record Trace : Type 0 where
  pub most : ℕ
  pub steps : List Step

pub record Player : Type 0 where
  pub shape : Shape
  pub scripts : List (List Begin)
  -- the linearizer, how many calls each thread has begun, the calls themselves, the number of won undos, and the trace
  pub follower : Follower
  pub begun : List ℕ
  pub book : Book
  pub rollbacks : ℕ
  pub trace : Trace

-- It stands for these picks: its fields are those that they give
pub record StandsFor (shape : Shape) (scripts : List (List Begin)) (picks : List ℕ) (p : Player) : Type 0 where
  pub events : List Event
  pub made : events_of shape scripts picks ≡ Some events
  pub are_scripts : AreScripts shape scripts
  pub shape_is : p.shape ≡ shape
  pub scripts_are : p.scripts ≡ scripts
  pub follower_shape : p.follower.shape ≡ shape
  pub follows : Follows (length scripts) (calls_in scripts) events p.follower
  pub threads : length p.begun ≡ length scripts
  pub begun : (thread : ℕ) → get_or p.begun thread 0 ≡ begun_by thread events
  pub log : p.book.log ≡ log_of shape (length scripts) events
  pub room : calls_in scripts ≤ p.book.room
  pub rollbacks : p.rollbacks ≡ undos shape (length scripts) events
  pub traced : AreSteps shape (opening shape (length scripts)) (take p.trace.most events) p.trace.steps

-- it stands for some picks
pub record IsReplay (p : Player) : Type 0 where
  pub shape : Shape
  pub scripts : List (List Begin)
  pub picks : List ℕ
  pub stands : StandsFor shape scripts picks p

-- this is so of the picks that it stands for
abbrev pub OfItsPicks : Player → (Shape → List (List Begin) → List ℕ → Type 0) → Type 0
OfItsPicks p P = (shape : Shape) (scripts : List (List Begin)) (picks : List ℕ) → StandsFor shape scripts picks p
    → P shape scripts picks

-- this pick is refused after those
abbrev pub IsRefused : Shape → List (List Begin) → List ℕ → ℕ → Type 0
IsRefused shape scripts picks thread = events_of shape scripts (picks ++ thread ∷ []) ≡ None

-- of these picks the first that is refused is at this place
pub record IsFirstRefused (shape : Shape) (scripts : List (List Begin)) (picks : List ℕ) (place : ℕ) : Type 0 where
  pub within : place < length picks
  pub made : IsTrue (is_some (events_of shape scripts (take place picks)))
  pub refused : IsRefused shape scripts (take place picks) (get_or picks place 0)

-- Of these picks, after earlier ones, the first that is refused is at this place: those before it were made, and no
-- other
pub record StopsAt (shape : Shape) (scripts : List (List Begin)) (earlier picks : List ℕ) (place : ℕ)
    (p : Player) : Type 0 where
  pub within : place < length picks
  pub refused : IsRefused shape scripts (earlier ++ take place picks) (get_or picks place 0)
  pub stands : StandsFor shape scripts (earlier ++ take place picks) p

-- the picks are refused, with the place of the first that is
abbrev pub Stops : Shape → List (List Begin) → List ℕ → List ℕ → ReplayFault → Player → Type 0
Stops shape scripts earlier picks fault p = (place : ℕ) × (fault ≡ BadPick place)
    × StopsAt shape scripts earlier picks place p
