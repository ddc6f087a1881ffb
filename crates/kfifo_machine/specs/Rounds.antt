-- Rounds that were lost, and what a call that returned Busy has behind it.
use Rattle.std.specs.Prelude.{◌≡◌, ◌≢◌, ◌≤◌, ℕ, zero, suc, ◌+◌, ◌⊎◌, Bool, true, false, List, [], ◌∷◌, ◌++◌, Some}
use Rattle.kfifo_words.specs.declared.shape.Shape.{Shape}
use Rattle.kfifo_model.specs.declared.calls.Answer.TheVariants.{Busy}
use Rattle.kfifo_machine.specs.declared.place.EnqueuePhase.TheVariants as E
use Rattle.kfifo_machine.specs.declared.place.Running.{Running}
use Rattle.kfifo_machine.specs.declared.place.Running.TheVariants as R
use Rattle.kfifo_machine.specs.declared.event.Begin.{Begin}
use Rattle.kfifo_machine.specs.declared.event.Begin.TheVariants as B
use Rattle.kfifo_machine.specs.declared.event.Event.{Event}
use Rattle.kfifo_machine.specs.Machine.{World, place_of, found, run, after}
use Rattle.kfifo_machine.specs.Runs.{own, going, CompleteExecution}
use Rattle.kfifo_machine.specs.Laws.{Wins, IsSeal, moves_head, moves_tail}
use Rattle.kfifo_machine.specs.Causes.{AllOfRound, looks}

-- the thread is about to load its slot again, the item being put
abbrev pub reloads_slot : Running → Bool
reloads_slot (R.Enqueue item start left (E.ReloadSlot ends index filled)) = true
reloads_slot other = false

-- the event is a won head-on or tail-on
pub record MovesOn (shape : Shape) (here : World) (event : Event) : Type 0 where
  pub running : Running
  pub stands : going shape (place_of here event.thread) event.begin ≡ Some running
  pub moves : (moves_head running (found shape here running) ≡ true)
      ⊎ (moves_tail running (found shape here running) ≡ true)

-- the event is an exchange that is won, by a step of a call or by a seal
pub record WinsSome (shape : Shape) (here : World) (event : Event) : Type 0 where
  pub index : ℕ
  pub wins : ((to : ℕ) × Wins shape here event index to) ⊎ IsSeal event index

-- among these events the thread wins a head-on or tail-on, or another thread wins an exchange
pub record Disturbed (shape : Shape) (thread : ℕ) (here : World) (events : List Event) : Type 0 where
  pub before : List Event
  pub event : Event
  pub after : List Event
  pub world : World
  pub split : events ≡ before ++ event ∷ after
  pub reached : run shape (Some here) before ≡ Some world
  pub by : ((event.thread ≡ thread) × MovesOn shape world event)
      ⊎ ((event.thread ≢ thread) × WinsSome shape world event)

-- an enqueue that could not hold the head looks at its slot again with this event, which begins its next round
pub record LooksAgain (shape : Shape) (here : World) (event : Event) : Type 0 where
  pub running : Running
  pub stands : going shape (place_of here event.thread) event.begin ≡ Some running
  pub looks : reloads_slot running ≡ true
  pub again : shape.holds_again ≡ true

-- A lost round: its first and last events are the thread's, and its own steps are of this round. It is disturbed, or it
-- begins where the round before was lost as another thread changed the ends
pub record LostRound (shape : Shape) (thread round : ℕ) (here : World) (events : List Event) : Type 0 where
  pub first : Event
  pub later : List Event
  pub earlier : List Event
  pub last : Event
  pub begins : events ≡ first ∷ later
  pub ends : events ≡ earlier ++ last ∷ []
  pub first_own : first.thread ≡ thread
  pub last_own : last.thread ≡ thread
  pub one_round : AllOfRound round (looks shape thread (Some here) events)
  pub disturbed : Disturbed shape thread here events ⊎ LooksAgain shape here first

-- events of others, then a lost round, and then what is said of the rest
pub record LosesThen (shape : Shape) (thread round : ℕ) (here : World) (events : List Event)
    (Rest : World → List Event → Type 0) : Type 0 where
  pub others : List Event
  pub lost : List Event
  pub rest : List Event
  pub start : World
  pub end : World
  pub split : events ≡ others ++ (lost ++ rest)
  pub not_own : own thread others ≡ []
  pub starts : run shape (Some here) others ≡ Some start
  pub round_lost : LostRound shape thread round start lost
  pub reached : run shape (Some start) lost ≡ Some end
  pub then : Rest end rest

-- so many lost rounds, one after the other, and nothing after them
abbrev pub LosesAll : Shape → ℕ → ℕ → World → List Event → Type 0
LosesAll shape thread zero here events = events ≡ []
LosesAll shape thread (suc rounds) here events =
    LosesThen shape thread (suc rounds) here events (LosesAll shape thread rounds)

-- the rounds of a call
abbrev pub turns_of : Begin → ℕ
turns_of (B.Enqueue item start turns) = turns
turns_of (B.Dequeue start turns) = turns
turns_of B.Tick = 0
turns_of B.Seal = 0

-- Busy: the call has all its rounds behind it, and lost each of them
abbrev pub BusyHasCause : Shape → ℕ → Type 0
BusyHasCause shape threads = (thread : ℕ) (call : Begin) (old new : List Event)
    (whole : CompleteExecution shape threads thread call Busy old new) (here : World)
    → after shape threads old ≡ Some here
    → LosesAll shape thread (turns_of call) here (whole.between ++ whole.last ∷ [])

-- after the thread's first event here and before its last, another thread wins an exchange
pub record OtherWins (shape : Shape) (thread : ℕ) (here : World) (events : List Event) : Type 0 where
  pub before : List Event
  pub event : Event
  pub after : List Event
  pub world : World
  pub split : events ≡ before ++ event ∷ after
  pub reached : run shape (Some here) before ≡ Some world
  pub begun_before : own thread before ≢ []
  pub ends_after : own thread after ≢ []
  pub other : event.thread ≢ thread
  pub wins : WinsSome shape world event

-- A call of n + 2 rounds or more returns Busy only where another thread won an exchange between its first and its last
-- event
abbrev pub BusyIsDisturbed : Shape → ℕ → Type 0
BusyIsDisturbed shape threads = (thread : ℕ) (call : Begin) (old new : List Event)
    (whole : CompleteExecution shape threads thread call Busy old new) (here : World)
    → after shape threads old ≡ Some here → shape.n + 2 ≤ turns_of call
    → OtherWins shape thread here (whole.between ++ whole.last ∷ [])
