-- Progress of every schedule: how many steps calls make until one of them ends.
use Rattle.std.specs.Prelude.{Bool, nat_lt, if◌then◌else◌, ℕ, ◌≡◌, ◌+◌, ◌*◌, ◌<◌, ◌≤◌, Option, Some, None, Result, Ok}
use Rattle.std.specs.Prelude.{Err, List, [], ◌∷◌, ◌++◌}
use Rattle.kfifo_words.specs.declared.shape.Shape.{Shape}
use Rattle.kfifo_model.specs.declared.calls.Answer.TheVariants.{Busy}
use Rattle.kfifo_machine.specs.declared.event.Begin.{Begin}
use Rattle.kfifo_machine.specs.declared.event.Begin.TheVariants as B
use Rattle.kfifo_machine.specs.declared.event.Event.{Event}
use Rattle.kfifo_machine.specs.declared.event.Outcome.{Outcome}
use Rattle.kfifo_machine.specs.declared.event.Outcome.TheVariants.{Went, Ended}
use Rattle.kfifo_machine.specs.declared.event.NotEnabled.{NotEnabled}
use Rattle.kfifo_machine.specs.Machine.{World, world_of, step, run, after}
use Rattle.kfifo_machine.specs.Runs.{CompleteExecution}

-- an event is a step of a call, unless it is a tick or a seal
abbrev pub steps_of : Option Begin → ℕ
steps_of (Some B.Tick) = 0
steps_of (Some B.Seal) = 0
steps_of other = 1

-- how many events are steps of calls
abbrev pub call_steps : List Event → ℕ
call_steps [] = 0
call_steps (event ∷ events) = steps_of event.begin + call_steps events

-- how many events are seals
abbrev pub seals_of : Option Begin → ℕ
seals_of (Some B.Seal) = 1
seals_of other = 0

abbrev pub seals_in : List Event → ℕ
seals_in [] = 0
seals_in (event ∷ events) = seals_of event.begin + seals_in events

-- whether an event that was made ends a call, and whether with another answer than Busy
abbrev pub ends_of : Result (World × Outcome) NotEnabled → ℕ
ends_of (Ok (world, Ended answer)) = 1
ends_of (Ok (world, Went)) = 0
ends_of (Err fault) = 0

abbrev pub answers_of : Result (World × Outcome) NotEnabled → ℕ
answers_of (Ok (world, Ended Busy)) = 0
answers_of (Ok (world, Ended answer)) = 1
answers_of (Ok (world, Went)) = 0
answers_of (Err fault) = 0

-- how many events do, in a schedule from this world on
abbrev pub counted : (Result (World × Outcome) NotEnabled → ℕ) → Shape → Option World → List Event → ℕ
counted count shape world [] = 0
counted count shape None (event ∷ events) = 0
counted count shape (Some world) (event ∷ events) =
    count (step shape world event) + counted count shape (world_of (step shape world event)) events

abbrev pub calls_ended : Shape → Option World → List Event → ℕ
calls_ended shape world events = counted ends_of shape world events

abbrev pub calls_answered : Shape → Option World → List Event → ℕ
calls_answered shape world events = counted answers_of shape world events

-- each call that begins in these events has at least so many turns
abbrev pub HasTurns : ℕ → Option Begin → Type 0
HasTurns least (Some (B.Enqueue item start turns)) = least ≤ turns
HasTurns least (Some (B.Dequeue start turns)) = least ≤ turns
HasTurns least other = Unit {0}

abbrev pub AllHaveTurns : ℕ → List Event → Type 0
AllHaveTurns least [] = Unit {0}
AllHaveTurns least (event ∷ events) = HasTurns least event.begin × AllHaveTurns least events

-- the most steps of a round
abbrev pub round_steps : Shape → ℕ
round_steps shape = 2 * shape.k + 9

-- The bounds of a stretch in which no call ends: how often head and tail are moved, how many words are changed, and how
-- many steps are made. A thread puts an item into a slot or takes one out three times at most, and twice more after
-- each move of the head past the visit in which the tail was first, of which there are at most `past + 1`
abbrev pub most_moves : Shape → ℕ → ℕ
most_moves shape past = 2 * (past + shape.n)

abbrev pub most_changes : Shape → ℕ → ℕ → ℕ
most_changes shape threads past = 3 * threads + 2 * threads * (past + 1) + most_moves shape past

abbrev pub most_steps : Shape → ℕ → ℕ → ℕ
most_steps shape threads past =
    threads * (round_steps shape * (5 * threads + 3))
    + most_moves shape past * (threads * (round_steps shape * (4 * threads + 3)) + 1)

-- Where no call ends, few steps are made, whatever the turns of the calls. Where the ends are sealed meanwhile, as many
-- may be made again
abbrev pub SomeCallEnds : Shape → ℕ → Type 0
SomeCallEnds shape threads = (events stretch : List Event) (here there : World)
    → after shape threads events ≡ Some here
    → run shape (Some here) stretch ≡ Some there
    → calls_ended shape (Some here) stretch ≡ 0
    → call_steps stretch ≤ (seals_in stretch + 1) * most_steps shape threads threads

-- Turns that no call loses before some call answers, and the steps until then. A call loses at most one round for each
-- word that changes, and one more, until a call ends; and each thread may have one call that ends with Busy, as it
-- began before. In a ring with more than twice as many segments as threads this Busy costs two more changes of words,
-- in a smaller one all begins again
abbrev pub is_wide : Shape → ℕ → Bool
is_wide shape threads = nat_lt (2 * threads) shape.n

abbrev pub turns_for_progress : Shape → ℕ → ℕ
turns_for_progress shape threads =
    if is_wide shape threads then most_changes shape threads (2 * threads) + 2 * threads + 3
    else (threads + 1) * (most_changes shape threads threads + 1) + 2

abbrev pub steps_to_answer : Shape → ℕ → ℕ
steps_to_answer shape threads =
    if is_wide shape threads then most_steps shape threads (2 * threads)
    else (threads + 1) * (most_steps shape threads threads + 1)

-- Where calls begin with enough turns, and none ends with another answer than Busy, few steps are made; where the ends
-- are sealed meanwhile, as many again
abbrev pub SomeCallAnswers : Shape → ℕ → Type 0
SomeCallAnswers shape threads = (events stretch : List Event) (here there : World)
    → after shape threads events ≡ Some here
    → run shape (Some here) stretch ≡ Some there
    → AllHaveTurns (turns_for_progress shape threads) stretch
    → calls_answered shape (Some here) stretch ≡ 0
    → call_steps stretch ≤ (seals_in stretch + 1) * steps_to_answer shape threads

-- Busy means progress: where each call that begins between the first and the last event of a call has enough turns, the
-- call itself included, it ends with Busy only if another call ended with another answer in between, or the ends were
-- sealed
abbrev pub BusyMeansProgress : Shape → ℕ → Type 0
BusyMeansProgress shape threads = (thread : ℕ) (call : Begin) (old new : List Event)
    (whole : CompleteExecution shape threads thread call Busy old new)
    → AllHaveTurns (turns_for_progress shape threads) (whole.between ++ whole.last ∷ [])
    → 0 < calls_answered shape (after shape threads old) (whole.between ++ whole.last ∷ [])
    + seals_in (whole.between ++ whole.last ∷ [])
