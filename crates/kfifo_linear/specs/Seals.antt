-- A queue that was found empty and then sealed stays empty.
use Rattle.std.specs.Prelude.{◌≡◌, ◌≢◌, ℕ, List, [], ◌∷◌, ◌++◌, Some, Ok}
use Rattle.kfifo_words.specs.declared.shape.Shape.{Shape}
use Rattle.kfifo_words.specs.Words.{value_of, version_of, head_of, tail_of}
use Rattle.kfifo_model.specs.declared.calls.Answer.TheVariants.{Empty}
use Rattle.kfifo_machine.specs.declared.event.Begin.TheVariants.{Seal}
use Rattle.kfifo_machine.specs.declared.event.Event.{Event}
use Rattle.kfifo_machine.specs.declared.event.Outcome.TheVariants.{Ended}
use Rattle.kfifo_machine.specs.declared.place.EnqueuePhase.TheVariants as E
use Rattle.kfifo_machine.specs.declared.place.Running.{Running}
use Rattle.kfifo_machine.specs.declared.place.Running.TheVariants as R
use Rattle.kfifo_machine.specs.Machine.{World, word_at, place_of, step, after}
use Rattle.kfifo_machine.specs.Places.{IsSlotIndex}

-- an ends word is sealed: its head and its tail are in one segment, and its version is the last
pub record IsSealed (shape : Shape) (ends : ℕ) : Type 0 where
  pub together : head_of ends ≡ tail_of ends
  pub last : version_of ends ≡ shape.last

-- The queue was found empty: an event of this schedule ended a dequeue with Empty, and after the schedule the ends word
-- is still the one that stood at that event
pub record FoundEmpty (shape : Shape) (threads : ℕ) (events : List Event) : Type 0 where
  pub earlier : List Event
  pub empty : Event
  pub later : List Event
  pub here : World
  pub next : World
  pub there : World
  pub split : events ≡ earlier ++ empty ∷ later
  pub reached : after shape threads earlier ≡ Some here
  pub answers : step shape here empty ≡ Ok (next, Ended Empty)
  pub ends_at : after shape threads events ≡ Some there
  pub stands : word_at there 0 ≡ word_at here 0

-- each of these events is a seal
abbrev pub AllSeal : List Event → Type 0
AllSeal [] = Unit {0}
AllSeal (e ∷ es) = (e.begin ≡ Some Seal) × AllSeal es

-- The queue was sealed empty: it was found empty, then came a seal (none where it was sealed before), and now its
-- ends are sealed
pub record SealedEmpty (shape : Shape) (threads : ℕ) (events : List Event) : Type 0 where
  pub found : List Event
  pub seals : List Event
  pub here : World
  pub split : events ≡ found ++ seals
  pub was_empty : FoundEmpty shape threads found
  pub all_seal : AllSeal seals
  pub reached : after shape threads events ≡ Some here
  pub sealed : IsSealed shape (word_at here 0)

-- at this place an enqueue has put this word into this slot, and either goes on to find whether its item stays or takes
-- it out again
abbrev pub HasPut : Running → ℕ → ℕ → Type 0
HasPut (R.Enqueue item start left (E.ReloadSlot ends index filled)) slot word = (index ≡ slot) × (filled ≡ word)
HasPut (R.Enqueue item start left (E.ReloadEnds ends index filled)) slot word = (index ≡ slot) × (filled ≡ word)
HasPut (R.Enqueue item start left (E.HoldHead ends index filled held)) slot word = (index ≡ slot) × (filled ≡ word)
HasPut (R.Enqueue item start left (E.Undo index filled worn)) slot word = (index ≡ slot) × (filled ≡ word)
HasPut other slot word = ⊥

-- what is in this slot was put there by an enqueue of this thread, which is in progress
abbrev pub IsPutBy : World → ℕ → ℕ → Type 0
IsPutBy here thread index = (running : Running) × (place_of here thread ≡ Some running)
    × HasPut running index (word_at here index)

-- A queue that was sealed empty stays so: however its schedule goes on, what is in a slot was put there by an enqueue
-- in progress. So wherever all calls have ended no item is left
abbrev pub StaysEmpty : Shape → ℕ → Type 0
StaysEmpty shape threads = (events more : List Event) (here : World) → SealedEmpty shape threads events
    → after shape threads (events ++ more) ≡ Some here
    → (index : ℕ) → IsSlotIndex shape index → value_of (word_at here index) ≢ 0
    → (thread : ℕ) × IsPutBy here thread index
