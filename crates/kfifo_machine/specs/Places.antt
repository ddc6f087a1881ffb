-- What a place in a call says without looking at the table, so that its steps can be computed.
use Rattle.std.specs.Prelude.{◌≡◌, ◌≢◌, ℕ, ◌+◌, ◌*◌, ◌^◌, ◌<◌, ◌≤◌, Option, Some, None, List, length, get_or}
use Rattle.kfifo_words.specs.Words.{value_of, version_of, head_of, tail_of}
use Rattle.kfifo_words.specs.declared.shape.Shape.{Shape}
use Rattle.kfifo_machine.specs.declared.place.Found.TheVariants.{Slot, Nothing}
use Rattle.kfifo_machine.specs.declared.place.EnqueuePhase.{EnqueuePhase}
use Rattle.kfifo_machine.specs.declared.place.EnqueuePhase.TheVariants as E
use Rattle.kfifo_machine.specs.declared.place.DequeuePhase.{DequeuePhase}
use Rattle.kfifo_machine.specs.declared.place.DequeuePhase.TheVariants as D
use Rattle.kfifo_machine.specs.declared.place.Running.{Running}
use Rattle.kfifo_machine.specs.declared.place.Running.TheVariants as R

-- a word of the ends names segments, and its version is within bounds
pub record IsEnds (shape : Shape) (ends : ℕ) : Type 0 where
  pub head : head_of ends < shape.n
  pub tail : tail_of ends < shape.n
  pub version : version_of ends ≤ shape.last

-- an index of a slot's word
pub record IsSlotIndex (shape : Shape) (index : ℕ) : Type 0 where
  pub above : 0 < index
  pub below : index < 1 + shape.n * shape.k

-- what an enqueue holds at each place: it names words of the table, and its next step needs no version above the last
abbrev pub IsEnqueuePhase : Shape → EnqueuePhase → Type 0
IsEnqueuePhase shape E.LoadEnds = Unit {0}
IsEnqueuePhase shape (E.ScanTail ends offset) = IsEnds shape ends × (offset < shape.probes)
IsEnqueuePhase shape (E.Recheck ends Nothing) = IsEnds shape ends
IsEnqueuePhase shape (E.Recheck ends (Slot index seen)) = IsEnds shape ends × IsSlotIndex shape index
IsEnqueuePhase shape (E.Put ends index empty) = IsEnds shape ends × (version_of empty + 2 ≤ shape.last)
    × IsSlotIndex shape index
IsEnqueuePhase shape (E.ReloadSlot ends index filled) = IsEnds shape ends × (version_of filled < shape.last)
    × IsSlotIndex shape index
IsEnqueuePhase shape (E.ReloadEnds ends index filled) = IsEnds shape ends × (version_of filled < shape.last)
    × IsSlotIndex shape index
IsEnqueuePhase shape (E.HoldHead ends index filled held) = IsEnds shape ends × IsEnds shape held
    × (version_of held < shape.last) × (version_of filled < shape.last) × IsSlotIndex shape index
IsEnqueuePhase shape (E.Undo index filled worn) = version_of filled < shape.last × IsSlotIndex shape index
IsEnqueuePhase shape (E.ScanHead ends offset) = IsEnds shape ends × (offset < shape.k)
IsEnqueuePhase shape (E.ConfirmFull ends) = IsEnds shape ends
IsEnqueuePhase shape (E.MoveHead ends) = IsEnds shape ends × (version_of ends < shape.last)
IsEnqueuePhase shape (E.MoveTail ends) = IsEnds shape ends × (version_of ends < shape.last)

-- the same of a dequeue
abbrev pub IsDequeuePhase : Shape → DequeuePhase → Type 0
IsDequeuePhase shape D.LoadEnds = Unit {0}
IsDequeuePhase shape (D.ScanHead ends offset) = IsEnds shape ends × (offset < shape.k)
IsDequeuePhase shape (D.Recheck ends Nothing) = IsEnds shape ends
IsDequeuePhase shape (D.Recheck ends (Slot index seen)) = IsEnds shape ends × (version_of seen < shape.last)
    × IsSlotIndex shape index
IsDequeuePhase shape (D.MoveTail ends index filled) = IsEnds shape ends × (version_of ends < shape.last)
    × (version_of filled < shape.last) × IsSlotIndex shape index
IsDequeuePhase shape (D.Take ends index filled) = version_of filled < shape.last × IsSlotIndex shape index
IsDequeuePhase shape (D.MoveHead ends) = IsEnds shape ends × (version_of ends < shape.last)

-- a place in a call, with an item in range, a start below k, and a round that is not over
abbrev pub IsPlace : Shape → Running → Type 0
IsPlace shape (R.Enqueue item start left phase) = (0 < item) × (item < 2 ^ 24) × (start < shape.k) × (0 < left)
    × IsEnqueuePhase shape phase
IsPlace shape (R.Dequeue start left phase) = (start < shape.k) × (0 < left) × IsDequeuePhase shape phase

-- a filled slot's word may be emptied
abbrev pub IsSlotWord : Shape → ℕ → Type 0
IsSlotWord shape word = value_of word ≢ 0 → version_of word < shape.last

-- what an enqueue's step may find: where it looks at the ends a second time after a put, a word of the ends
abbrev pub IsFound : Shape → EnqueuePhase → ℕ → Type 0
IsFound shape (E.ReloadEnds ends index filled) word = IsEnds shape word
IsFound shape other word = Unit {0}

-- what a thread at this place may find
abbrev pub IsFoundBy : Shape → Running → ℕ → Type 0
IsFoundBy shape (R.Enqueue item start left phase) word = IsFound shape phase word
IsFoundBy shape (R.Dequeue start left phase) word = Unit {0}

-- a state of the machine whose steps can be computed
pub record IsState (shape : Shape) (words : List ℕ) (places : List (Option Running)) : Type 0 where
  pub size : length words ≡ 2 + shape.n * shape.k
  pub ends : IsEnds shape (get_or words 0 0)
  pub each_slot : (i : ℕ) → 0 < i → i < 1 + shape.n * shape.k → IsSlotWord shape (get_or words i 0)
  pub each_place : (t : ℕ) (r : Running) → get_or places t None ≡ Some r → IsPlace shape r
