-- Scripts made several times over, with items of their own each time.
use Rattle.std.specs.Prelude.{ℕ, zero, suc, ◌+◌, ◌-◌, ◌*◌, ◌<◌, List, [], ◌++◌, length, map, max, All}
use Rattle.std.specs.List.{fold}
use Rattle.kfifo_words.specs.declared.word.TheConstants.{VALUES}
use Rattle.kfifo_machine.specs.declared.event.Begin.{Begin}
use Rattle.kfifo_machine.specs.declared.event.Begin.TheVariants as B
use Rattle.kfifo_linear.specs.Ledger.{item_of}
use Rattle.kfifo_record.specs.Scripts.{script_of}

-- the greatest item of a script, and of all scripts
abbrev pub greatest_of : List Begin → ℕ
greatest_of script = fold (λ most call. max most (item_of call)) 0 script

abbrev pub greatest_item : List (List Begin) → ℕ
greatest_item scripts = fold (λ most script. max most (greatest_of script)) 0 scripts

-- the call with an item greater by so much
abbrev pub shifted : ℕ → Begin → Begin
shifted by (B.Enqueue item start turns) = B.Enqueue (item + by) start turns
shifted by (B.Dequeue start turns) = B.Dequeue start turns
shifted by B.Tick = B.Tick
shifted by B.Seal = B.Seal

-- the script made so many times over, its items greater by one step more each time
abbrev pub repeated : ℕ → ℕ → List Begin → List Begin
repeated step zero script = []
repeated step (suc count) script = repeated step count script ++ map (shifted (count * step)) script

-- each script made so many times over, the step being the greatest item of all
abbrev pub all_repeated : ℕ → List (List Begin) → List (List Begin)
all_repeated count scripts = map (repeated (greatest_item scripts) count) scripts

-- by how much items are greater in the last repetition
abbrev pub last_shift : ℕ → List (List Begin) → ℕ
last_shift count scripts = (count - 1) * greatest_item scripts

-- no item of the script goes over 2^24 - 1 where each is greater by so much
abbrev pub FitsTo : ℕ → List Begin → Type 0
FitsTo by script = All (λ call. item_of (shifted by call) < VALUES) script

-- none of any script does
abbrev pub AllFit : ℕ → List (List Begin) → Type 0
AllFit by scripts = (thread : ℕ) → thread < length scripts → FitsTo by (script_of scripts thread)

-- the script at this place is the first in which one does
pub record IsFirstOver (by : ℕ) (scripts : List (List Begin)) (place : ℕ) : Type 0 where
  pub inside : place < length scripts
  pub over : FitsTo by (script_of scripts place) → ⊥
  pub before : (thread : ℕ) → thread < place → FitsTo by (script_of scripts thread)
