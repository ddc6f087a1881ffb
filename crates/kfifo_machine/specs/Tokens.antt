-- Items as tokens: where each enqueue begins with an item that is in no slot and that no other enqueue in progress
-- holds, no item ever stands in two slots. So an item may name something that one thread at a time owns.
use Rattle.std.specs.Prelude.{ℕ, ◌≡◌, ◌≢◌, ◌<◌, List, [], ◌∷◌, Option, Some, None}
use Rattle.kfifo_words.specs.declared.shape.Shape.{Shape}
use Rattle.kfifo_words.specs.Words.{value_of}
use Rattle.kfifo_words.specs.Ring.{clock_at}
use Rattle.kfifo_machine.specs.declared.event.Begin.{Begin}
use Rattle.kfifo_machine.specs.declared.event.Begin.TheVariants as B
use Rattle.kfifo_machine.specs.declared.event.Event.{Event}
use Rattle.kfifo_machine.specs.declared.place.EnqueuePhase.{EnqueuePhase}
use Rattle.kfifo_machine.specs.declared.place.EnqueuePhase.TheVariants as E
use Rattle.kfifo_machine.specs.declared.place.Running.{Running}
use Rattle.kfifo_machine.specs.declared.place.Running.TheVariants as R
use Rattle.kfifo_machine.specs.Machine.{World, opening, word_at, place_of, world_of, step, after}

-- an enqueue holds its item until its put is won, and again from a won undo
abbrev pub held_in : ℕ → EnqueuePhase → Option ℕ
held_in item (E.ReloadSlot ends index filled) = None
held_in item (E.ReloadEnds ends index filled) = None
held_in item (E.HoldHead ends index filled held) = None
held_in item (E.Undo index filled worn) = None
held_in item phase = Some item

abbrev pub held_at : Running → Option ℕ
held_at (R.Enqueue item start left phase) = held_in item phase
held_at (R.Dequeue start left phase) = None

-- an enqueue in progress holds the item
pub record IsHeld (world : World) (item : ℕ) : Type 0 where
  pub thread : ℕ
  pub place : Running
  pub there : place_of world thread ≡ Some place
  pub holds : held_at place ≡ Some item

-- the item stands in a slot
pub record IsInSlot (shape : Shape) (world : World) (item : ℕ) : Type 0 where
  pub index : ℕ
  pub above : 0 < index
  pub below : index < clock_at shape.k shape.n
  pub stands : value_of (word_at world index) ≡ item

-- an enqueue begins with an item that is in no slot and that no other enqueue in progress holds
abbrev pub BeginsFree : Shape → World → Option Begin → Type 0
BeginsFree shape world (Some (B.Enqueue item start turns)) = (IsInSlot shape world item → ⊥) × (IsHeld world item → ⊥)
BeginsFree shape world begin = Unit {0}

-- each enqueue of a schedule does
abbrev pub AllBeginFree : Shape → Option World → List Event → Type 0
AllBeginFree shape world [] = Unit {0}
AllBeginFree shape None (e ∷ es) = Unit {0}
AllBeginFree shape (Some world) (e ∷ es) = BeginsFree shape world e.begin
    × AllBeginFree shape (world_of (step shape world e)) es

-- no two slots have one item
abbrev pub NoItemTwice : Shape → World → Type 0
NoItemTwice shape world = (i j : ℕ) → 0 < i → i < clock_at shape.k shape.n → 0 < j → j < clock_at shape.k shape.n
    → i ≢ j
    → value_of (word_at world i) ≢ 0
    → value_of (word_at world i) ≢ value_of (word_at world j)

-- The law, of every schedule
abbrev pub ItemsAreTokens : Shape → ℕ → Type 0
ItemsAreTokens shape threads = (events : List Event) (here : World) → after shape threads events ≡ Some here
    → AllBeginFree shape (Some (opening shape threads)) events → NoItemTwice shape here
