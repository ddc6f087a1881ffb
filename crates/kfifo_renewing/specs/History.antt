-- The history of a queue's generations: which were made, which became the newest, where they were, and when handles
-- looked.
use Rattle.std.specs.Prelude.{◌≡◌, ◌≢◌, ◌+◌, ◌<◌, ◌≤◌, ◌^◌, ◌%◌, ◌/◌, ◌==◌, ◌⊎◌, ℕ, suc}
use Rattle.std.specs.Prelude.{Bool, true, false, List, [], ◌∷◌, ◌++◌}
use Rattle.std.specs.Prelude.{All, length, map}
use Rattle.std.specs.Prelude.{if◌then◌else◌, Option, Some, slice_get}
use Rattle.std.specs.List.{Contains}
use mathlib.Core.List.{IsPrefix}
use Rattle.logbook.specs.Pages.{Book, Cell, Named, Step, View, cell, may_make, nib}
use Rattle.kfifo_renewing.specs.declared.change.Change.{Change}
use Rattle.kfifo_linear.specs.Seals.{SealedEmpty}
use Rattle.kfifo_live.specs.Pass.{HaveComeOut, OpenQueue, PassKeepsPromise, PassView, WasSealedEmpty, queue_of}
use Rattle.kfifo_machine.specs.Runs.{Begins}
use Rattle.kfifo_renewing.specs.declared.change.Made.{Made}
use Rattle.kfifo_renewing.specs.declared.change.Sealed.{Sealed}
use Rattle.kfifo_renewing.specs.declared.change.Sight.{Sight}
use Rattle.kfifo_renewing.specs.declared.change.Change.TheVariants as C

-- what the history says of the queue of a generation
abbrev pub made_by : OpenQueue → Made
made_by q = record { table = q.table; shape = q.opened.shape; threads = q.opened.threads }

-- and of the queue of a pass
abbrev pub queue_in : PassView → Made
queue_in p = made_by (queue_of p.table p.opened)

-- the entry for a generation with this queue, and whether the queue may open further ones
abbrev pub making_of : OpenQueue → Bool → Change
making_of q more = C.Made (made_by q) more

-- the queue may open further generations, as its first entry says
abbrev pub opens_more : List Change → Bool
opens_more (C.Made q more ∷ log) = more
opens_more log = false

-- the generations that were made, each by its queue. The number of one is how many were made before it
abbrev pub made : List Change → List Made
made [] = []
made (C.Made q more ∷ log) = q ∷ made log
made (C.Newest n ∷ log) = made log
made (C.Look sight ∷ log) = made log
made (C.Placed n i ∷ log) = made log
made (C.Gone sealed ∷ log) = made log
made (C.Left n sight ∷ log) = made log

-- the number of the newest generation, if that of before is this
abbrev pub newest_after : ℕ → List Change → ℕ
newest_after n [] = n
newest_after n (C.Made q more ∷ log) = newest_after n log
newest_after n (C.Newest m ∷ log) = newest_after m log
newest_after n (C.Look sight ∷ log) = newest_after n log
newest_after n (C.Placed m i ∷ log) = newest_after n log
newest_after n (C.Gone sealed ∷ log) = newest_after n log
newest_after n (C.Left m sight ∷ log) = newest_after n log

-- the number of the newest generation: at first that of the first one
abbrev pub newest_of : List Change → ℕ
newest_of = newest_after 0

-- the generation with this number has this queue
abbrev pub IsMade : List Change → ℕ → Made → Type 0
IsMade log n queue = slice_get (made log) n ≡ Some queue

-- the generation with this number was the newest at some moment
abbrev pub WasNewest : List Change → ℕ → Type 0
WasNewest log n = (before : List Change) × (after : List Change) × (log ≡ before ++ after) × (newest_of before ≡ n)

-- the number of the newest generation only rises
abbrev pub HasRisen : List Change → Type 0
HasRisen log = (before more after : List Change) → log ≡ (before ++ more) ++ after
    → newest_of before ≤ newest_of (before ++ more)

-- the generation with this number, which was the newest, was shown in this place
abbrev pub IsPlaced : List Change → ℕ → ℕ → Type 0
IsPlaced log n place = Contains log (C.Placed n place)

-- The generation with this number, which had been the newest, went from its place: after what a pass of it had seen, it
-- was sealed empty, so that nothing is left in it wherever all its calls have ended (`StaysEmpty`)
pub record IsGone (log : List Change) (n : ℕ) : Type 0 where
  pub sealed : Sealed
  pub told : Contains log (C.Gone sealed)
  pub number : sealed.number ≡ n
  pub made : IsMade log n sealed.queue
  pub empty : SealedEmpty sealed.queue.shape sealed.queue.threads sealed.seen

-- what each pass that left the generation with this number had seen, the first to leave first
abbrev pub left_of : ℕ → List Change → List Sight
left_of n [] = []
left_of n (C.Made q more ∷ log) = left_of n log
left_of n (C.Newest m ∷ log) = left_of n log
left_of n (C.Look sight ∷ log) = left_of n log
left_of n (C.Placed m i ∷ log) = left_of n log
left_of n (C.Gone sealed ∷ log) = left_of n log
left_of n (C.Left m sight ∷ log) = if m == n then sight ∷ left_of n log else left_of n log

-- One schedule of a queue has all that these passes did there, each of which had ended its calls: it begins with what
-- each of them had seen, and has no further event of its thread. It keeps the promise. The queue was sealed empty after
-- a beginning of it, and what these passes put there has come out
pub record AreInOne (queue : Made) (sights : List Sight) : Type 0 where
  pub all : PassView
  pub of : queue_in all ≡ queue
  pub ends : All (λ s. Begins s.thread s.seen all.seen) sights
  pub promise : PassKeepsPromise all
  pub sealed : WasSealedEmpty all
  pub come_out : HaveComeOut (map (λ s. s.thread) sights) all

-- so it is with all passes that have left the generation with this number
abbrev pub HaveLeftTogether : List Change → ℕ → Type 0
HaveLeftTogether log n = (queue : Made) × IsMade log n queue × AreInOne queue (left_of n log)

-- and of each generation, where some have left it
abbrev pub EachLeftTogether : List Change → Type 0
EachLeftTogether log = (n : ℕ) → left_of n log ≢ [] → HaveLeftTogether log n

-- a pass that had seen this is in one schedule with the passes that had left generation n when these were so many
abbrev pub IsNextToLeave : List Change → ℕ → ℕ → Sight → Type 0
IsNextToLeave log n count sight = (before : List Change) × (queue : Made) × IsPrefix before log
    × (length (left_of n before) ≡ count) × IsMade log n queue × AreInOne queue (left_of n before ++ sight ∷ [])

-- how many places there are
abbrev pub place_count : ℕ
place_count = 130

-- the two halves of the word of a generation: the number of a later one, and how many passes have left it
abbrev pub next_in : ℕ → ℕ
next_in word = word % 2 ^ 32

abbrev pub left_in : ℕ → ℕ
left_in word = word / 2 ^ 32

-- What the word of generation n says, where n was the newest at some moment. Of the next one: 0 as long as n is the
-- newest, and then the number of a later one. And how many passes have left n
pub record TellsNext (log : List Change) (n word : ℕ) : Type 0 where
  pub newest : next_in word ≡ 0 → newest_of log ≡ n
  pub next : 0 < next_in word → (n < next_in word) × WasNewest log (next_in word)
  pub left : left_in word ≡ length (left_of n log)

-- what the word of a place says of the generation that is there
abbrev pub shows : ℕ → ℕ
shows n = n + n + 1

-- What the word of a place says: which generation is there, or none. A generation stays there until it has gone
pub record TellsPlace (log : List Change) (place word : ℕ) : Type 0 where
  pub there : (n : ℕ) → word ≡ shows n → IsPlaced log n place
  pub stays : (n : ℕ) → IsPlaced log n place → (word ≡ shows n) ⊎ IsGone log n
  pub small : word ≤ 2 ^ 33

-- What holds of the words and of the history at each moment: of the greatest number of a generation that was made, of
-- the words of the places, and of the words of the generations
pub record Holds (log : List Change) (greatest : ℕ) (labels nexts : List Cell) : Type 0 where
  pub count : length (made log) ≡ greatest + 1
  pub each : length nexts ≡ greatest + 1
  pub newest : newest_of log ≤ greatest
  pub risen : HasRisen log
  pub small : greatest < 2 ^ 32
  pub told : (n : ℕ) → WasNewest log n → ((cell nexts n).1 ≡ true) × TellsNext log n (cell nexts n).0
  pub placed : (n : ℕ) → 0 < n → WasNewest log n → n < newest_of log → (i : ℕ) × (i < place_count) × IsPlaced log n i
  pub newest_there : (n i : ℕ) → IsPlaced log n i → WasNewest log n
  pub labelled : (i : ℕ) → i < place_count → ((cell labels i).1 ≡ true) × TellsPlace log i (cell labels i).0
  pub gone : (sealed : Sealed) → Contains log (C.Gone sealed) → sealed.number < newest_of log
  pub stayed : (n : ℕ) → newest_of log ≤ n → left_of n log ≡ []
  pub together : EachLeftTogether log
  pub one : opens_more log ≡ false → newest_of log ≡ 0

-- The words of a book in their order: the greatest number, the words of the places, and those of the generations
pub record IsKept (cells : List Cell) (log : List Change) : Type 0 where
  pub greatest : ℕ
  pub labels : List Cell
  pub nexts : List Cell
  pub words : cells ≡ (greatest, true) ∷ (labels ++ nexts)
  pub all : length labels ≡ place_count
  pub holds : Holds log greatest labels nexts

-- a word of the book
abbrev pub word_of : Book → ℕ → Named
word_of b key = record { tracked = true; key = key; book = b }

-- where the word of a place stands in the book
abbrev pub label_of : ℕ → ℕ
label_of place = suc place

-- where the word of a generation stands in the book, by the number of that
abbrev pub key_of : ℕ → ℕ
key_of n = suc (place_count + n)

-- the number of a generation, and the book that has its word
pub record NextView : Type 0 where
  pub number : ℕ
  pub book : Book

-- a place, and the book that has its word
pub record LabelView : Type 0 where
  pub place : ℕ
  pub book : Book

-- the labels of all places, in their order
abbrev pub AreLabels : Book → List LabelView → Type 0
AreLabels book labels = (length labels ≡ place_count)
    × ((i : ℕ) → i < place_count → slice_get labels i ≡ Some (record { place = i; book = book }))

-- what a look by a pass tells of that
abbrev pub sight_of : PassView → Sight
sight_of p = record { thread = p.thread; seen = p.seen }

-- what the entry says of a generation with this number that was sealed, as this pass of it saw
abbrev pub sealed_by : ℕ → PassView → Sealed
sealed_by n p = record { number = n; queue = queue_in p; seen = p.seen }

-- at a look by a pass that had seen this, between these two beginnings of the history, the newest generation had this
-- number
abbrev pub NewestWas : Sight → ℕ → List Change → List Change → Type 0
NewestWas sight n old new = (others : List Change) × (more : List Change)
    × (new ≡ (old ++ others) ++ C.Look sight ∷ more) × (newest_of (old ++ others) ≡ n)

-- What a look by a pass that had seen this found in the word of generation n, between these two beginnings of the
-- history: 0 where that was the newest, and else the number of a later one that was the newest
pub record Finds (sight : Sight) (n found : ℕ) (old new : List Change) : Type 0 where
  pub number : ℕ
  pub was : NewestWas sight number old new
  pub same : found ≡ 0 → number ≡ n
  pub other : 0 < found → number ≢ n
  pub next : 0 < found → WasNewest new found
  pub small : found < 2 ^ 32
  pub risen : HasRisen new

-- What a look at a place found, between these two beginnings of the history: the number of a generation that was shown
-- there, or none. Each other one that was shown there has gone
pub record FindsThere (place : ℕ) (found : Option ℕ) (old new : List Change) : Type 0 where
  pub there : (n : ℕ) → found ≡ Some n → IsPlaced new n place
  pub left : (n : ℕ) → IsPlaced old n place → found ≢ Some n → IsGone new n

-- what a look tells
abbrev pub Looks : Step Change → View Change ℕ → ℕ → View Change ℕ → Type 0
Looks s v found w = (sight : Sight) (n : ℕ) → s.ask ≡ C.Look sight → s.key ≡ key_of n
    → Finds sight n (next_in found) v.0 w.0

-- What a step tells that makes a pass leave generation n. If it succeeds, then only this pass has left n since the
-- moment when as many had left it as the word said
abbrev pub Leaves : Step Change → View Change ℕ → ℕ → View Change ℕ → Type 0
Leaves s v found w = (sight : Sight) (n : ℕ) (before : List Change) → s.ask ≡ C.Left n sight → s.key ≡ key_of n
    → found ≡ s.old → IsPrefix before v.0 → length (left_of n before) ≡ left_in s.old
    → left_of n w.0 ≡ left_of n before ++ sight ∷ []

-- What a step tells that gives a generation a number: where it did, the history has that, and the pen may make the word
-- of that generation
abbrev pub GivesNumber : Step Change → View Change ℕ → ℕ → View Change ℕ → Type 0
GivesNumber s v found w = found ≡ s.old → (w.1.0 ≡ nib may_make (key_of s.new) 0)
    × ((q : Made) (more : Bool) → s.ask ≡ C.Made q more → IsMade w.0 s.new q)

-- What a step tells that makes a generation the newest: where it did, that was the newest. Else the pen is as before
abbrev pub Renews : Step Change → View Change ℕ → ℕ → View Change ℕ → Type 0
Renews s v found w = (found ≡ s.old → WasNewest w.0 s.new) × (found ≢ s.old → w.1.0 ≡ v.1.0)

-- what a look at the word of a place tells
abbrev pub LooksThere : Step Change → View Change ℕ → ℕ → View Change ℕ → Type 0
LooksThere s v found w = (place : ℕ) → s.key ≡ label_of place
    → TellsPlace w.0 place found × IsPrefix v.0 w.0 × ((cells : List Cell) × IsKept cells w.0)

-- what a step tells that shows a generation in a place: where it did, that is there
abbrev pub Fills : Step Change → View Change ℕ → ℕ → View Change ℕ → Type 0
Fills s v found w = (n place : ℕ) → s.new ≡ shows n → s.key ≡ label_of place → found ≡ s.old → IsPlaced w.0 n place

-- what a step tells that takes a generation from its place: it has gone
abbrev pub Empties : Step Change → View Change ℕ → ℕ → View Change ℕ → Type 0
Empties s v found w = (n place : ℕ) → s.old ≡ shows n → s.key ≡ label_of place → IsPlaced v.0 n place → IsGone w.0 n
