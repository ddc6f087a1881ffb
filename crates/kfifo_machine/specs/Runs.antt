-- What one thread did in a schedule: its own events, its place, and the complete execution of a call.
use Rattle.std.specs.Prelude.{◌≡◌, ℕ, ◌==◌, List, [], ◌∷◌, ◌++◌, filter, Option, Some, None, Ok, if◌then◌else◌}
use Rattle.kfifo_words.specs.declared.shape.Shape.{Shape}
use Rattle.kfifo_model.specs.declared.calls.Answer.{Answer}
use Rattle.kfifo_machine.specs.declared.event.Begin.{Begin}
use Rattle.kfifo_machine.specs.declared.event.Event.{Event}
use Rattle.kfifo_machine.specs.declared.event.Outcome.TheVariants.{Ended}
use Rattle.kfifo_machine.specs.declared.place.Running.{Running}
use Rattle.kfifo_machine.specs.Machine.{World, begun, may_begin, step, after}

abbrev pub event : ℕ → Option Begin → Event
event thread begin = record { thread = thread; begin = begin }

-- the place from which a thread makes its step: its call's, or the first of the call that it begins
abbrev pub going : Shape → Option Running → Option Begin → Option Running
going shape None None = None
going shape None (Some begin) = if may_begin shape begin then begun begin else None
going shape (Some running) None = Some running
going shape (Some running) (Some begin) = None

-- the events of a thread
abbrev pub own : ℕ → List Event → List Event
own thread events = filter (λ e. e.thread == thread) events

-- what was seen is a beginning of the schedule, after which the thread has no event in it
pub record Begins (thread : ℕ) (seen all : List Event) : Type 0 where
  pub rest : List Event
  pub goes_on : all ≡ seen ++ rest
  pub no_own : own thread rest ≡ []

-- events that begin nothing
abbrev pub AllGoOn : List Event → Type 0
AllGoOn [] = Unit {0}
AllGoOn (e ∷ es) = (e.begin ≡ None) × AllGoOn es

-- the first of these events of a thread begins the call, and no other begins one
pub record BeginsOnce (thread : ℕ) (call : Begin) (events : List Event) : Type 0 where
  pub others : List Event
  pub first : events ≡ event thread (Some call) ∷ others
  pub go_on : AllGoOn others

-- A complete execution of a call: what is new in the schedule are events of other threads, and own ones. The first of
-- the own events begins the call, no other begins one, and the last event of all is own and ends the call with this
-- answer
pub record CompleteExecution (shape : Shape) (threads thread : ℕ) (call : Begin) (answer : Answer)
    (old new : List Event) : Type 0 where
  pub between : List Event
  pub last : Event
  pub before : World
  pub world : World
  pub new_is : new ≡ (old ++ between) ++ last ∷ []
  pub last_own : last.thread ≡ thread
  pub one_call : BeginsOnce thread call (own thread (between ++ last ∷ []))
  pub reached : after shape threads (old ++ between) ≡ Some before
  pub ends : step shape before last ≡ Ok (world, Ended answer)
