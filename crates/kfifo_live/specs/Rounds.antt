-- The places of the two calls in their rounds, and what a round comes to.
use Rattle.std.specs.Prelude.{ℕ, ◌-◌, ◌≤◌, Option, Some, None}
use Rattle.kfifo_model.specs.declared.calls.Answer.{Answer}
use Rattle.kfifo_machine.specs.declared.place.EnqueuePhase.{EnqueuePhase}
use Rattle.kfifo_machine.specs.declared.place.EnqueuePhase.TheVariants as E
use Rattle.kfifo_machine.specs.declared.place.DequeuePhase.{DequeuePhase}
use Rattle.kfifo_machine.specs.declared.place.Running.{Running}
use Rattle.kfifo_machine.specs.declared.place.Running.TheVariants as R
use Rattle.kfifo_machine.specs.declared.place.Next.{Next}
use Rattle.kfifo_machine.specs.declared.place.Next.TheVariants.{Goes, Answers}
use Rattle.kfifo_machine.specs.Program.{enqueue_again, dequeue_again}
use Rattle.kfifo_live.specs.declared.enqueue.Enqueue.{Enqueue}
use Rattle.kfifo_live.specs.declared.enqueue.PutOutcome.{PutOutcome}
use Rattle.kfifo_live.specs.declared.enqueue.PutOutcome.TheVariants as P
use Rattle.kfifo_live.specs.declared.enqueue.RoundOutcome.{RoundOutcome}
use Rattle.kfifo_live.specs.declared.enqueue.RoundOutcome.TheVariants as O
use Rattle.kfifo_live.specs.declared.dequeue.Dequeue.{Dequeue}

-- the place of an enqueue at a step of its round
abbrev pub enqueue_at : {T : Type 0} → Enqueue T → EnqueuePhase → Running
enqueue_at call phase = R.Enqueue call.item call.start call.left phase

-- a round of an enqueue comes to an answer, or is lost: then the next one begins, or the call returns Busy
abbrev pub enqueue_round : {T : Type 0} → Enqueue T → Option Answer → Next
enqueue_round call None = enqueue_again call.item call.start call.left
enqueue_round call (Some answer) = Answers answer

-- an enqueue that has put its item comes to an answer, takes the item out and so loses its round, or loses it as it
-- could not hold the head, and looks at its slot again
abbrev pub put_next : {T : Type 0} → Enqueue T → ℕ → ℕ → ℕ → PutOutcome → Next
put_next call ends index filled (P.Answered answer) = Answers answer
put_next call ends index filled P.TakenOut = enqueue_again call.item call.start call.left
put_next call ends index filled P.NotHeld =
    Goes (R.Enqueue call.item call.start (call.left - 1) (E.ReloadSlot ends index filled))

-- rounds of an enqueue come to an answer, or the last of them is lost with so many left, that one among them
abbrev pub rounds_next : {T : Type 0} → Enqueue T → RoundOutcome → Next
rounds_next call (O.Answered answer) = Answers answer
rounds_next call (O.Lost left) = enqueue_again call.item call.start left

-- no more rounds are left than before
abbrev pub LeavesAtMost : ℕ → RoundOutcome → Type 0
LeavesAtMost most (O.Answered answer) = Unit {0}
LeavesAtMost most (O.Lost left) = left ≤ most

-- the same of a dequeue
abbrev pub dequeue_at : {T : Type 0} → Dequeue T → DequeuePhase → Running
dequeue_at call phase = R.Dequeue call.start call.left phase

abbrev pub dequeue_round : {T : Type 0} → Dequeue T → Option Answer → Next
dequeue_round call None = dequeue_again call.start call.left
dequeue_round call (Some answer) = Answers answer
