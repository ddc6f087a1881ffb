-- Laws of one event, and of every schedule of a shape and a number of threads.
use Rattle.std.specs.Prelude.{◌≡◌, ◌≢◌, ℕ, ◌+◌, ◌*◌, ◌<◌, ◌≤◌, ◌⊎◌, ◌==◌, if◌then◌else◌, Bool, false, List, [], ◌∷◌}
use Rattle.std.specs.Prelude.{◌++◌, length, Option, Some, None}
use Rattle.kfifo_words.specs.declared.shape.Shape.{Shape}
use Rattle.kfifo_words.specs.Words.{version_of, head_of, tail_of}
use Rattle.kfifo_words.specs.Ring.{clock_at}
use Rattle.kfifo_model.specs.declared.calls.Answer.{Answer}
use Rattle.kfifo_model.specs.declared.calls.Answer.TheVariants.{Full, Busy, Worn}
use Rattle.kfifo_machine.specs.declared.place.EnqueuePhase.TheVariants as E
use Rattle.kfifo_machine.specs.declared.place.DequeuePhase.TheVariants as D
use Rattle.kfifo_machine.specs.declared.place.Running.{Running}
use Rattle.kfifo_machine.specs.declared.place.Running.TheVariants as R
use Rattle.kfifo_machine.specs.declared.place.Access.TheVariants.{Exchange}
use Rattle.kfifo_machine.specs.declared.event.Begin.{Begin}
use Rattle.kfifo_machine.specs.declared.event.Begin.TheVariants as B
use Rattle.kfifo_machine.specs.declared.event.Event.{Event}
use Rattle.kfifo_machine.specs.Program.{access, filled_with, sealed_word}
use Rattle.kfifo_machine.specs.Machine.{World, word_at, place_of, found, opening, world_of, step, after}
use Rattle.kfifo_machine.specs.Runs.{own, going, BeginsOnce, CompleteExecution}

-- each other thread stands where it stood
abbrev pub OthersStay : ℕ → World → World → Type 0
OthersStay thread old new = (other : ℕ) → other ≢ thread → place_of new other ≡ place_of old other

-- no word falls, and so no version does
abbrev pub NoneFalls : World → World → Type 0
NoneFalls old new = (i : ℕ) → (word_at old i ≤ word_at new i)
    × (version_of (word_at old i) ≤ version_of (word_at new i))

-- the event is an exchange of the word with this index that is won, and that makes it this word
pub record Wins (shape : Shape) (old : World) (event : Event) (index to : ℕ) : Type 0 where
  pub running : Running
  pub stands : going shape (place_of old event.thread) event.begin ≡ Some running
  pub exchange : access shape running ≡ Exchange index (word_at old index) to

-- the event is a tick, and this is the index of the clock
pub record IsTick (shape : Shape) (event : Event) (index : ℕ) : Type 0 where
  pub begins : event.begin ≡ Some B.Tick
  pub clock : index ≡ clock_at shape.k shape.n

-- the event is a seal, and this is the index of the ends word
pub record IsSeal (event : Event) (index : ℕ) : Type 0 where
  pub begins : event.begin ≡ Some B.Seal
  pub ends : index ≡ 0

-- An event changes one word at most: by a won exchange, which raises its version by 1; by a tick, which adds 1 to the
-- clock; or by a seal, which leaves head and tail in the one segment where they are and makes the version the last
pub record OneWord (shape : Shape) (old new : World) (event : Event) : Type 0 where
  pub at_most_one : (i j : ℕ) → word_at new i ≢ word_at old i → word_at new j ≢ word_at old j → i ≡ j
  pub only_so : (i : ℕ) → word_at new i ≢ word_at old i
      → Wins shape old event i (word_at new i) ⊎ IsTick shape event i ⊎ IsSeal event i
  pub won : (i to : ℕ) → Wins shape old event i to → (word_at new i ≡ to)
      × (version_of to ≡ version_of (word_at old i) + 1)
  pub ticked : (i : ℕ) → IsTick shape event i → word_at new i ≡ word_at old i + 1
  pub sealed : (i : ℕ) → IsSeal event i → (head_of (word_at old i) ≡ tail_of (word_at old i))
      × (version_of (word_at old i) < shape.last) × (word_at new i ≡ sealed_word shape (word_at old i))

-- a step from this place that finds this word moves the head on, or the tail
abbrev pub moves_head : Running → ℕ → Bool
moves_head (R.Enqueue item start left (E.MoveHead ends)) word = word == ends
moves_head (R.Dequeue start left (D.MoveHead ends)) word = word == ends
moves_head other word = false

abbrev pub moves_tail : Running → ℕ → Bool
moves_tail (R.Enqueue item start left (E.MoveTail ends)) word = word == ends
moves_tail (R.Dequeue start left (D.MoveTail ends index filled)) word = word == ends
moves_tail other word = false

-- 1 where the step of a thread that goes on from here is such a move, else 0
abbrev pub counted : Shape → (Running → ℕ → Bool) → World → Option Running → ℕ
counted shape moves world None = 0
counted shape moves world (Some running) = if moves running (found shape world running) then 1 else 0

-- how many events of a schedule are such moves
abbrev pub count : Shape → (Running → ℕ → Bool) → Option World → List Event → ℕ
count shape moves world [] = 0
count shape moves None (event ∷ events) = 0
count shape moves (Some world) (event ∷ events) =
    counted shape moves world (going shape (place_of world event.thread) event.begin)
    + count shape moves (world_of (step shape world event)) events

-- the won head-ons and the won tail-ons of a schedule
abbrev pub head_ons : Shape → ℕ → List Event → ℕ
head_ons shape threads events = count shape moves_head (Some (opening shape threads)) events

abbrev pub tail_ons : Shape → ℕ → List Event → ℕ
tail_ons shape threads events = count shape moves_tail (Some (opening shape threads)) events

-- No wrap: in every schedule the won tail-ons less the won head-ons are 0 to n - 1
abbrev pub NoWrap : Shape → ℕ → Type 0
NoWrap shape threads = (events : List Event) (here : World) → after shape threads events ≡ Some here
    → (head_ons shape threads events ≤ tail_ons shape threads events)
    × (tail_ons shape threads events < head_ons shape threads events + shape.n)

-- the most events of a call; a tick and a seal have one
abbrev pub most_events : Shape → Begin → ℕ
most_events shape (B.Enqueue item start turns) = turns * (2 * shape.k + 9)
most_events shape (B.Dequeue start turns) = turns * (2 * shape.k + 9)
most_events shape B.Tick = 1
most_events shape B.Seal = 1

-- A call of `turns` rounds has at most `turns * (2k + 9)` own events in every schedule, finished or not
abbrev pub FewEvents : Shape → ℕ → Type 0
FewEvents shape threads = (thread : ℕ) (call : Begin) (before events : List Event) (here : World)
    → after shape threads (before ++ events) ≡ Some here
    → BeginsOnce thread call (own thread events) → length (own thread events) ≤ most_events shape call

-- an answer that refuses
abbrev pub IsRefusal : Answer → Type 0
IsRefusal Full = Unit {0}
IsRefusal Busy = Unit {0}
IsRefusal Worn = Unit {0}
IsRefusal other = ⊥

-- after this schedule the thread is about to put this word at this index, and finds there what it seeks
pub record PutsNext (shape : Shape) (threads : ℕ) (events : List Event) (thread index word : ℕ) : Type 0 where
  pub here : World
  pub item : ℕ
  pub start : ℕ
  pub left : ℕ
  pub ends : ℕ
  pub reached : after shape threads events ≡ Some here
  pub place : place_of here thread ≡ Some (R.Enqueue item start left (E.Put ends index (word_at here index)))
  pub puts : word ≡ filled_with item (word_at here index)

-- A call that ended with Full, Busy or Worn leaves no item of its own: a word that it put is not at its index when the
-- call has ended, nor ever after
abbrev pub LeavesNone : Shape → ℕ → Type 0
LeavesNone shape threads = (thread : ℕ) (call : Begin) (answer : Answer) (old new : List Event)
    → CompleteExecution shape threads thread call answer old new → IsRefusal answer
    → (some rest : List Event) (e : Event) (index word : ℕ) → new ≡ (old ++ some) ++ e ∷ rest → e.thread ≡ thread
    → PutsNext shape threads (old ++ some) thread index word
    → (later : List Event) (here : World) → after shape threads (new ++ later) ≡ Some here → word_at here index ≢ word

-- as a schedule goes on, no word and no version falls
abbrev pub VersionsRise : Shape → ℕ → Type 0
VersionsRise shape threads = (events more : List Event) (old new : World) → after shape threads events ≡ Some old
    → after shape threads (events ++ more) ≡ Some new
    → NoneFalls old new

-- so a word that stands where it stood before was not changed in between
abbrev pub NoneReturns : Shape → ℕ → Type 0
NoneReturns shape threads = (events some more : List Event) (first middle last : World) (i : ℕ)
    → after shape threads events ≡ Some first → after shape threads (events ++ some) ≡ Some middle
    → after shape threads ((events ++ some) ++ more) ≡ Some last
    → word_at last i ≡ word_at first i → word_at middle i ≡ word_at first i

-- a thread is where its own events led it: the events of others leave it there
abbrev pub OthersLeave : Shape → ℕ → Type 0
OthersLeave shape threads = (thread : ℕ) (events more : List Event) (old new : World)
    → after shape threads events ≡ Some old
    → after shape threads (events ++ more) ≡ Some new
    → own thread more ≡ [] → place_of new thread ≡ place_of old thread
