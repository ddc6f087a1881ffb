-- How many items a queue holds before an enqueue is refused as Full, where no two calls overlap.
use Rattle.std.specs.Prelude.{◌≡◌, ◌≢◌, ℕ, ◌+◌, ◌-◌, ◌*◌, ◌<◌, List, [], ◌∷◌, ◌++◌, Option, Some, None, Result, Ok, Err}
use Rattle.kfifo_words.specs.declared.shape.Shape.{Shape}
use Rattle.kfifo_model.specs.declared.calls.Answer.TheVariants.{Done, Got, Full}
use Rattle.kfifo_machine.specs.declared.event.Begin.TheVariants as B
use Rattle.kfifo_machine.specs.declared.event.Event.{Event}
use Rattle.kfifo_machine.specs.declared.event.Outcome.{Outcome}
use Rattle.kfifo_machine.specs.declared.event.Outcome.TheVariants.{Ended}
use Rattle.kfifo_machine.specs.declared.event.NotEnabled.{NotEnabled}
use Rattle.kfifo_machine.specs.Machine.{World, place_of, opening, step, world_of, after}

-- no two calls overlap: at each event but a tick every other thread is idle
abbrev pub NoOverlap : Shape → Option World → List Event → Type 0
NoOverlap shape world [] = Unit {0}
NoOverlap shape None (event ∷ events) = Unit {0}
NoOverlap shape (Some world) (event ∷ events) =
    (event.begin ≢ Some B.Tick → (other : ℕ) → other ≢ event.thread → place_of world other ≡ None)
    × NoOverlap shape (world_of (step shape world event)) events

-- 1 where an event ends a call with Done, and with Got
abbrev pub done_with : Outcome → ℕ
done_with (Ended Done) = 1
done_with other = 0

abbrev pub got_with : Outcome → ℕ
got_with (Ended (Got item)) = 1
got_with other = 0

abbrev pub counts : (Outcome → ℕ) → Result (World × Outcome) NotEnabled → ℕ
counts one (Ok (world, outcome)) = one outcome
counts one (Err fault) = 0

-- how many events of a schedule do so
abbrev pub answers : Shape → (Outcome → ℕ) → Option World → List Event → ℕ
answers shape one world [] = 0
answers shape one None (event ∷ events) = 0
answers shape one (Some world) (event ∷ events) =
    counts one (step shape world event) + answers shape one (world_of (step shape world event)) events

-- The floor: where no two calls overlap, an enqueue returns Full only where Done came over (n - 1) * probes times more
-- often than Got
abbrev pub Floor : Shape → ℕ → Type 0
Floor shape threads = (events : List Event) (last : Event) (here world : World) → after shape threads events ≡ Some here
    → NoOverlap shape (Some (opening shape threads)) (events ++ last ∷ [])
    → step shape here last ≡ Ok (world, Ended Full)
    → answers shape got_with (Some (opening shape threads)) events + (shape.n - 1) * shape.probes
    < answers shape done_with (Some (opening shape threads)) events
