-- Scans of a segment: where the thread stands after so many slots that it saw in vain, and where what it finds leads
-- it.
use Rattle.std.specs.Prelude.{◌≡◌, ◌≢◌, ℕ, ◌+◌, ◌<◌, ◌≤◌, ◌^◌, ◌==◌, not, if◌then◌else◌, Bool, true, false, Option}
use Rattle.atomic_table.specs.declared.shared.Seat.{Seat}
use Rattle.kfifo_words.specs.declared.shape.Shape.{Shape}
use Rattle.kfifo_words.specs.Words.{value_of}
use Rattle.kfifo_machine.specs.declared.place.Found.{Found}
use Rattle.kfifo_machine.specs.declared.place.Found.TheVariants.{Slot, Nothing}
use Rattle.kfifo_machine.specs.declared.place.Access.TheVariants.{Load}
use Rattle.kfifo_machine.specs.declared.place.Running.{Running}
use Rattle.kfifo_machine.specs.declared.place.Next.{Next}
use Rattle.kfifo_machine.specs.declared.place.Next.TheVariants.{Goes}
use Rattle.kfifo_machine.specs.Program.{access, advance, scan_index}
use Rattle.kfifo_live.specs.declared.ring.Ring.{Ring}
use Rattle.kfifo_live.specs.declared.view.View.{View}
use Rattle.kfifo_live.specs.Step.{Comes, Stands}

-- a slot's word that is empty, and one that is filled
abbrev pub is_empty : ℕ → Bool
is_empty word = value_of word == 0

abbrev pub is_filled : ℕ → Bool
is_filled word = not (value_of word == 0)

-- A scan of `limit` slots of a segment, cyclically from a start: the place at which the thread looks at the next slot
-- after so many, and where what it finds leads
pub record IsScan (shape : Shape) (stops : ℕ → Bool) (segment start limit : ℕ) (looking : ℕ → Running)
    (leads : Found → Next) : Type 0 where
  pub looks : (seen : ℕ) → access shape (looking seen) ≡ Load (scan_index shape segment start seen)
  pub finds : (seen word : ℕ) → stops word ≡ true
      → advance shape (looking seen) word ≡ leads (Slot (scan_index shape segment start seen) word)
  pub is_over : (seen word : ℕ) → stops word ≡ false → seen + 1 ≡ limit
      → advance shape (looking seen) word ≡ leads Nothing
  pub goes_on : (seen word : ℕ) → stops word ≡ false → seen + 1 ≢ limit
      → advance shape (looking seen) word ≡ Goes (looking (seen + 1))

pub record Scan (shape : Shape) (stops : ℕ → Bool) (segment start limit : ℕ) : Type 0 where
  pub looking : ℕ → Running
  pub leads : Found → Next
  pub is_scan : IsScan shape stops segment start limit looking leads

-- some of its slots that stand side by side from an index on, which come after `offset` others
pub record Row (shape : Shape) (stops : ℕ → Bool) (first count : ℕ) : Type 0 where
  pub segment : ℕ
  pub start : ℕ
  pub limit : ℕ
  pub scan : Scan shape stops segment start limit
  pub offset : ℕ
  pub some : 0 < count
  pub below : first + count < 2 ^ 32
  pub within : offset + count ≤ limit
  pub each : (i : ℕ) → i < count → scan_index shape segment start (offset + i) ≡ first + i

-- where a look at all of them leads
abbrev pub after_row : {shape : Shape} {stops : ℕ → Bool} {first count : ℕ} → Row shape stops first count → Found → Next
after_row row (Slot index word) = row.scan.leads (Slot index word)
after_row {shape} {stops} {first} {count} row Nothing =
    if row.offset + count == row.limit then row.scan.leads Nothing else Goes (row.scan.looking (row.offset + count))

module _ {T : Type 0} where
  -- the thread makes such a scan, and has looked at so many of its slots in vain
  abbrev pub MakesScan : Ring T → (ℕ → Bool) → (segment start limit seen : ℕ) → Seat (Option T) (View T) → Type 0
  MakesScan ring stops segment start limit seen seat = (scan : Scan ring.shape.now stops segment start limit)
      × Stands ring seat (scan.looking seen)

  -- whichever such scan it makes, it has come to where what it found leads
  abbrev pub EndsScan : Ring T → (ℕ → Bool) → (segment start limit seen : ℕ) → Seat (Option T) (View T) → Found
      → Seat (Option T) (View T) → Type 0
  EndsScan ring stops segment start limit seen old found new =
      (scan : Scan ring.shape.now stops segment start limit) → Stands ring old (scan.looking seen)
      → Comes old (scan.leads found) new

  -- the same of a row
  abbrev pub MakesRow : Ring T → (ℕ → Bool) → (first count : ℕ) → Seat (Option T) (View T) → Type 0
  MakesRow ring stops first count seat = (row : Row ring.shape.now stops first count)
      × Stands ring seat (row.scan.looking row.offset)

  abbrev pub EndsRow : Ring T → (ℕ → Bool) → (first count : ℕ) → Seat (Option T) (View T) → Found
      → Seat (Option T) (View T) → Type 0
  EndsRow ring stops first count old found new =
      (row : Row ring.shape.now stops first count) → Stands ring old (row.scan.looking row.offset)
      → Comes old (after_row row found) new
