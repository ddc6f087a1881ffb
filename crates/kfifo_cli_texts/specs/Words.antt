-- How numbers and calls are written on the command line.
use Rattle.std.specs.Prelude.{◌≡◌, ◌≢◌, ℕ, ◌<◌, ◌≤◌, ◌⊎◌, List, [], ◌∷◌, ◌++◌, length, slice_index, slice_index_or}
use Rattle.std.specs.Prelude.{EachIndex}
use denote.Ref.{Bor}
use Rattle.std.specs.Str.Parse.{digits_value}
use Rattle.kfifo_words.specs.declared.word.TheConstants.{VALUES}
use Rattle.kfifo_cli_requests.specs.Digits.{IsDigits}
use Rattle.kfifo_machine.specs.declared.event.Begin.{Begin}
use Rattle.kfifo_machine.specs.declared.event.Begin.TheVariants.{Enqueue, Dequeue, Tick, Seal}

-- 1 to 10 decimal digits write this number
pub record WritesNumber (text : List ℕ) (number : ℕ) : Type 0 where
  pub some : 1 ≤ length text
  pub few : length text ≤ 10
  pub digits : IsDigits text
  pub value : number ≡ digits_value 10 text

-- name is the word up to its first colon, and rest is what is left of it
pub record Cuts (word name rest : List ℕ) : Type 0 where
  pub split : word ≡ name ++ rest
  pub plain : EachIndex name (λ i. slice_index name i ≢ 58)

-- each text writes the value in its place
abbrev pub EachWrites : {B : Type 0} → (List ℕ → B → Type 0) → List (List ℕ) → List B → Type 0
EachWrites Writes [] [] = Unit {0}
EachWrites Writes [] (value ∷ values) = ⊥
EachWrites Writes (text ∷ texts) [] = ⊥
EachWrites Writes (text ∷ texts) (value ∷ values) = Writes text value × EachWrites Writes texts values

-- what stands behind a call names the slot from which it scans: nothing for slot 0, or a colon and a number
abbrev pub WritesStart : List ℕ → ℕ → Type 0
WritesStart text start = ((text ≡ []) × (start ≡ 0))
    ⊎ ((number : List ℕ) × (text ≡ 58 ∷ number) × WritesNumber number start)

-- e, an item and a start write an enqueue; the start is below k
pub record WritesEnqueue (k : ℕ) (word : List ℕ) (item start : ℕ) : Type 0 where
  pub number : List ℕ
  pub rest : List ℕ
  pub split : word ≡ 101 ∷ (number ++ rest)
  pub item_written : WritesNumber number item
  pub start_written : WritesStart rest start
  pub some_item : 1 ≤ item
  pub item_fits : item < VALUES
  pub start_fits : start < k

-- d and a start write a dequeue
pub record WritesDequeue (k : ℕ) (word : List ℕ) (start : ℕ) : Type 0 where
  pub rest : List ℕ
  pub split : word ≡ 100 ∷ rest
  pub start_written : WritesStart rest start
  pub start_fits : start < k

-- the word writes this call, in so many turns
abbrev pub WritesCall : ℕ → ℕ → List ℕ → Begin → Type 0
WritesCall k turns word (Enqueue item start rounds) = WritesEnqueue k word item start × (rounds ≡ turns)
WritesCall k turns word (Dequeue start rounds) = WritesDequeue k word start × (rounds ≡ turns)
WritesCall k turns word Tick = ⊥
WritesCall k turns word Seal = ⊥

-- a call that a pass may make where segments have k slots
abbrev pub IsCall : ℕ → Begin → Type 0
IsCall k (Enqueue item start turns) = (1 ≤ item) × (item < VALUES) × (start < k) × (1 ≤ turns)
IsCall k (Dequeue start turns) = (start < k) × (1 ≤ turns)
IsCall k Tick = ⊥
IsCall k Seal = ⊥

-- each word writes the call in its place
pub record WritesCalls (k turns : ℕ) (words : List (Bor (List ℕ))) (calls : List Begin) : Type 0 where
  pub count : length calls ≡ length words
  pub each : (i : ℕ) (word : Bor (List ℕ)) (call : Begin) → i < length words
      → WritesCall k turns (slice_index_or words i word).now (slice_index_or calls i call)

-- the word at this place, counted from 0, is the first that writes no call
pub record IsFirstUnread (k turns : ℕ) (words : List (Bor (List ℕ))) (place : ℕ) : Type 0 where
  pub inside : place < length words
  pub unread : (word : Bor (List ℕ)) (call : Begin) → WritesCall k turns (slice_index_or words place word).now call → ⊥
  pub before : (i : ℕ) (word : Bor (List ℕ)) → i < place → (call : Begin)
      × WritesCall k turns (slice_index_or words i word).now call
