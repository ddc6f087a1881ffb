-- Worked schedules of a ring of two segments of two slots, and their orders.
use Rattle.std.specs.Prelude.{◌≡◌, ℕ, List, [], ◌∷◌, ◌++◌, replicate, Some, None, false}
use Rattle.kfifo_words.specs.declared.shape.Shape.{Shape}
use Rattle.kfifo_machine.specs.declared.event.Event.{Event}
use Rattle.kfifo_machine.specs.declared.event.Begin.{Begin}
use Rattle.kfifo_machine.specs.declared.event.Begin.TheVariants as B
use Rattle.kfifo_linear.specs.Order.{order_of}

-- a thread begins a call, and goes on for so many events
abbrev pub begins : ℕ → Begin → Event
begins thread begin = record { thread = thread; begin = Some begin }

abbrev pub goes : ℕ → ℕ → List Event
goes thread times = replicate times (record { thread = thread; begin = None })

-- thread 1 enqueues 6, thread 0 stops before it puts 5, and thread 2 gets 6 and moves the tail on
abbrev pub begun_late : List Event
begun_late = (begins 1 (B.Enqueue 6 1 1) ∷ goes 1 6) ++ (begins 0 (B.Enqueue 5 0 2) ∷ goes 0 2)
    ++ (begins 2 (B.Dequeue 0 1) ∷ goes 2 5)

-- A put behind the head: thread 2 finds the queue empty, and 5 is put, undone, and put again
abbrev pub put_behind : List Event
put_behind = begun_late ++ (begins 2 (B.Dequeue 0 2) ∷ goes 2 8) ++ goes 0 11

-- Put late, out first: 8 is enqueued in the next segment before 5 is put, and 5 comes out first
abbrev pub put_late : List Event
put_late = begun_late ++ (begins 1 (B.Enqueue 8 0 1) ∷ goes 1 5) ++ goes 0 4 ++ (begins 2 (B.Dequeue 0 1) ∷ goes 2 3)
    ++ (begins 2 (B.Dequeue 0 2) ∷ goes 2 9)

-- Taken after the head left: 5 is put and chosen in a segment that the head then leaves, and the take is won later.
-- First up to the Empty of thread 1, then with the take, then with the end of the enqueue of 5
abbrev pub chosen_before : List Event
chosen_before = begun_late ++ (begins 1 (B.Dequeue 0 1) ∷ goes 1 3) ++ goes 0 1 ++ (begins 2 (B.Dequeue 0 1) ∷ goes 2 2)
    ++ goes 1 1 ++ (begins 1 (B.Dequeue 0 1) ∷ goes 1 3)

abbrev pub taken_after : List Event
taken_after = chosen_before ++ goes 2 1

abbrev pub ended_after : List Event
ended_after = taken_after ++ goes 0 1

-- two segments of two slots, the greatest versions that there are, and enqueues that do not hold again
abbrev pub IsTwoByTwo : Shape → Type 0
IsTwoByTwo shape = (shape.k ≡ 2) × (shape.n ≡ 2) × (shape.last ≡ 1099511627775) × (shape.probes ≡ 2)
    × (shape.holds_again ≡ false)

-- the orders of these schedules
pub record RowsHold (shape : Shape) : Type 0 where
  pub behind : order_of shape 3 put_behind ≡ 0 ∷ 2 ∷ 3 ∷ 1 ∷ []
  pub late : order_of shape 3 put_late ≡ 0 ∷ 1 ∷ 2 ∷ 3 ∷ 4 ∷ 5 ∷ []
  pub before : order_of shape 3 chosen_before ≡ 0 ∷ 2 ∷ 3 ∷ 5 ∷ []
  pub taken : order_of shape 3 taken_after ≡ 0 ∷ 1 ∷ 2 ∷ 3 ∷ 4 ∷ 5 ∷ []
  pub ended : order_of shape 3 ended_after ≡ 0 ∷ 1 ∷ 2 ∷ 3 ∷ 4 ∷ 5 ∷ []
