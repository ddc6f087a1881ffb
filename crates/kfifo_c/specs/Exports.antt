-- What C gets from a call, and what that says of the pass behind a handle. c/include/kfifo.h has the same numbers.
use Rattle.std.specs.Prelude.{◌≡◌, ℕ, ◌+◌, ◌*◌, ◌^◌, ◌<◌, ◌≤◌, Option, Some, None, IfSome, List, [], ◌∷◌, ◌++◌, map}
use Rattle.std.specs.Prelude.{length, drop, All, true, ◌==◌, ⊤}
use Rattle.std.specs.List.{list_any}
use Rattle.kfifo_words.specs.declared.fault.ShapeFault.{ShapeFault}
use Rattle.kfifo_words.specs.Sizes.{shape_fault_number}
use Rattle.kfifo_words.specs.declared.shape.Shape.{Shape}
use Rattle.kfifo_model.specs.declared.calls.Answer.{Answer}
use Rattle.kfifo_model.specs.declared.calls.Answer.TheVariants.{Done, Full, Got, Empty, Busy, Worn}
use Rattle.kfifo_machine.specs.declared.event.Begin.{Begin}
use Rattle.kfifo_machine.specs.declared.event.Begin.TheVariants.{Enqueue, Dequeue}
use Rattle.kfifo_linear.specs.Headline.{HasLegalOrder, FewOvertake, FewCertainlyOvertake}
use Rattle.kfifo_live.specs.Schedule.{opening}
use Rattle.kfifo_live.specs.declared.fault.OpenFault.{OpenFault}
use Rattle.kfifo_live.specs.declared.fault.OpenFault.TheVariants.{ThreadsOutOfRange}
use Rattle.kfifo_live.specs.Calls.{MakesCall, IsDisturbed}
use Rattle.kfifo_live.specs.Promise.{KeepsPromise}
use Rattle.kfifo_live.specs.Pass.{OpenQueue, PassView, IsPassOf, IsSamePass, Finds, IsZeroed, new_passes, IsComplete}
use Rattle.kfifo_live.specs.Pass.{Closes}
use Rattle.kfifo_live.specs.Handles.{further}
use Rattle.kfifo_live.specs.declared.handle.TheConstants.{MAX_TURNS}
use Rattle.kfifo_c.specs.Seats.{Seated, seated}

-- the number of an answer of a call, and of a call that was not made
abbrev pub number_of : Option Answer → ℕ
number_of (Some Done) = 0
number_of (Some Full) = 1
number_of (Some (Got item)) = 2
number_of (Some Empty) = 3
number_of (Some Busy) = 4
number_of (Some Worn) = 5
number_of None = 6

-- the number of a shape that there is not, 11 to 14
abbrev pub shape_number : ShapeFault → ℕ
shape_number fault = 10 + shape_fault_number fault

-- the number of an opening that was refused
abbrev pub open_number : OpenFault → ℕ
open_number ThreadsOutOfRange = 8
open_number other = 7

-- what a dequeue leaves in the variable of its item
abbrev pub item_after : ℕ → Option Answer → ℕ
item_after old (Some (Got item)) = item
item_after old other = old

-- an enqueue may be made with these arguments
pub record MayEnqueue (item start turns : ℕ) (seat : Seated) : Type 0 where
  pub some_item : 1 ≤ item
  pub small_item : item < 2 ^ 24
  pub start_below : start < seat.queue.opened.shape.k
  pub some_turn : 1 ≤ turns

-- and a dequeue with these
pub record MayDequeue (start turns : ℕ) (seat : Seated) : Type 0 where
  pub start_below : start < seat.queue.opened.shape.k
  pub some_turn : 1 ≤ turns

-- and a word of this index may be read
abbrev pub MayRead : ℕ → Seated → Type 0
MayRead index seat = index < 2 + seat.queue.opened.shape.n * seat.queue.opened.shape.k

-- and an item may be put
pub record MayPut (item : ℕ) (seat : Seated) : Type 0 where
  pub some_item : 1 ≤ item
  pub small_item : item < 2 ^ 24

-- the pass made this call, and was given this answer: all that the running queue says of its calls
pub record Called (begin : Begin) (answer : Answer) (old new : Seated) : Type 0 where
  pub queue : new.queue ≡ old.queue
  pub same : IsSamePass old.pass new.pass
  pub call : MakesCall begin answer old.pass new.pass
  pub promise : KeepsPromise new.pass.opened new.pass.seen

-- the call that chooses its own start, and leaves the handle's as they are
pub record CalledFrom (begin : Begin) (answer : Answer) (old new : Seated) : Type 0 where
  pub called : Called begin answer old new
  pub same_put : new.put_start ≡ old.put_start
  pub same_get : new.get_start ≡ old.get_start

-- A put: an enqueue from the handle's start, in so many rounds that Busy is another thread's doing. The next put begins
-- one slot further
pub record Puts (item : ℕ) (answer : Answer) (old new : Seated) : Type 0 where
  pub called : Called (Enqueue item old.put_start MAX_TURNS) answer old new
  pub busy : answer ≡ Busy → IsDisturbed old.pass new.pass
  pub next_put : new.put_start ≡ further old.pass old.put_start
  pub same_get : new.get_start ≡ old.get_start

-- and a get: a dequeue
pub record Gets (answer : Answer) (old new : Seated) : Type 0 where
  pub called : Called (Dequeue old.get_start MAX_TURNS) answer old new
  pub busy : answer ≡ Busy → IsDisturbed old.pass new.pass
  pub same_put : new.put_start ≡ old.put_start
  pub next_get : new.get_start ≡ further old.pass old.get_start

-- A call by a handle. It is not made, and nothing changes, exactly where the handle is closed or the call may not be
-- made with its arguments. Else what is behind the handle makes it, and is there still
module _ {A S H : Type 0} where
  abbrev pub Tries : (S → H) → (S → Type 0) → (A → S → S → Type 0) → Option A → Option H → Option H → Type 0
  Tries kind may makes None old new = (new ≡ old) × ((seat : S) → old ≡ Some (kind seat) → ¬ may seat)
  Tries kind may makes (Some answer) old new = (seat after : S) × (old ≡ Some (kind seat)) × (new ≡ Some (kind after))
      × may seat × makes answer seat after

-- how many were counted, and 0 where the call was not made
abbrev pub count_of : Option ℕ → ℕ
count_of None = 0
count_of (Some count) = count

-- the items of the queue were counted, at most one of each slot
abbrev pub HasCounted : ℕ → Seated → Seated → Type 0
HasCounted count old new = (new ≡ old) × (count ≤ old.queue.opened.shape.n * old.queue.opened.shape.k)

-- the pass read this word, and saw what it says of the queue
pub record HasRead (index word : ℕ) (old new : Seated) : Type 0 where
  pub queue : new.queue ≡ old.queue
  pub same : IsSamePass old.pass new.pass
  pub finds : Finds old.pass new.pass index word
  pub same_put : new.put_start ≡ old.put_start
  pub same_get : new.get_start ≡ old.get_start
  pub promise : KeepsPromise new.pass.opened new.pass.seen

-- the number of a read, and what it leaves in the variable of its word
abbrev pub read_number : Option ℕ → ℕ
read_number (Some word) = 0
read_number None = 6

abbrev pub word_after : ℕ → Option ℕ → ℕ
word_after old (Some word) = word
word_after old None = old

-- the seats of these passes of one queue, in their order
abbrev pub seats_of : OpenQueue → List PassView → List Seated
seats_of queue = map (λ pass. seated queue pass)

-- a queue of these sizes was opened, and these are its new seats: all that the running queue says of an opening
pub record Opens (shape : Shape) (threads : ℕ) (seats : List Seated) : Type 0 where
  pub queue : OpenQueue
  pub opened : queue.opened ≡ opening shape threads
  pub new : seats ≡ seats_of queue (new_passes queue 0 threads)
  pub zeroed : IsZeroed queue.opened
  pub legal : HasLegalOrder shape threads
  pub few_overtake : FewOvertake shape threads
  pub few_certainly_overtake : FewCertainlyOvertake shape threads

-- those of these sizes
pub record OpensSizes (k segments last probes threads : ℕ) (handles : List (Option Seated)) : Type 0 where
  pub shape : Shape
  pub k_is : shape.k ≡ k
  pub segments_are : shape.n ≡ segments
  pub last_is : shape.last ≡ last
  pub probes_are : shape.probes ≡ probes
  pub holds_again : shape.holds_again ≡ true
  pub seats : List Seated
  pub opens : Opens shape threads seats
  pub handles_are : handles ≡ map Some seats

-- the handle, if it is open, is of this queue
abbrev pub OneQueue : OpenQueue → Option Seated → Type 0
OneQueue queue handle = IfSome handle (λ seat. seat.queue ≡ queue)

-- the open ones of these handles are of one queue
abbrev pub AreOfOneQueue : List (Option Seated) → Type 0
AreOfOneQueue handles = (queue : OpenQueue) × All (OneQueue queue) handles

-- the first handle is open, and of this queue
abbrev pub BeginsWith : OpenQueue → List (Option Seated) → Type 0
BeginsWith queue [] = ⊥
BeginsWith queue (None ∷ handles) = ⊥
BeginsWith queue (Some seat ∷ handles) = queue ≡ seat.queue

-- the passes behind the open ones of these handles, and their numbers
abbrev pub passes_in : List (Option Seated) → List PassView
passes_in [] = []
passes_in (None ∷ handles) = passes_in handles
passes_in (Some seat ∷ handles) = seat.pass ∷ passes_in handles

abbrev pub numbers_in : List (Option Seated) → List ℕ
numbers_in handles = map (λ pass. pass.thread) (passes_in handles)

-- each of these passes is of the queue that stands beside it
abbrev pub AreTheirs : List (Option Seated) → Type 0
AreTheirs [] = ⊤
AreTheirs (None ∷ handles) = AreTheirs handles
AreTheirs (Some seat ∷ handles) = IsPassOf seat.queue seat.pass × AreTheirs handles

-- as many numbers as there are threads, one for each
pub record HasEach (threads : ℕ) (numbers : List ℕ) : Type 0 where
  pub count : length numbers ≡ threads
  pub each : (thread : ℕ) → thread < threads → list_any (λ number. number == thread) numbers ≡ true

-- the handle is open, and of this queue
abbrev pub IsOpenOf : OpenQueue → Option Seated → Type 0
IsOpenOf queue None = ⊥
IsOpenOf queue (Some seat) = seat.queue ≡ queue

-- these handles are of all passes of the queue, one at least and each there once, and there is room for an item of each
-- slot
pub record MayClose (queue : OpenQueue) (handles : List (Option Seated)) (room : ℕ) : Type 0 where
  pub some_pass : 1 ≤ queue.opened.threads
  pub each_open : All (IsOpenOf queue) handles
  pub complete : IsComplete queue.opened.threads (passes_in handles)
  pub room_is : queue.opened.shape.n * queue.opened.shape.k ≤ room

-- a queue was closed by these handles, and the items that were left were written, and their number: all that the
-- running queue says of a close
pub record ClosesInto (handles : List (Option Seated)) (old new : List ℕ) (count : ℕ) : Type 0 where
  pub queue : OpenQueue
  pub each_open : All (IsOpenOf queue) handles
  pub left : List ℕ
  pub closes : Closes queue (passes_in handles) left
  pub count_is : count ≡ length left
  pub written : new ≡ left ++ drop (length left) old
