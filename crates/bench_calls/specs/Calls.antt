-- The calls that a pass made.
use Rattle.std.specs.Prelude.{ℕ, ◌+◌, ◌*◌, ◌/◌, ◌%◌, List, Option, Some, None, length, filter, filter_map, is_some}
use Rattle.kfifo_machine.specs.declared.event.Begin.{Begin}
use Rattle.kfifo_machine.specs.declared.event.Begin.TheVariants.{Enqueue}
use Rattle.kfifo_machine.specs.declared.event.Event.{Event}
use Rattle.kfifo_machine.specs.Runs.{own}

-- the calls that a thread began in a schedule
abbrev pub calls : ℕ → List Event → ℕ
calls thread events = length (filter (λ e. is_some e.begin) (own thread events))

-- the item of an enqueue that begins
abbrev pub item_of : Option Begin → Option ℕ
item_of (Some (Enqueue item start turns)) = Some item
item_of other = None

-- the items of the enqueues that a thread began in a schedule, in turn
abbrev pub items_put : ℕ → List Event → List ℕ
items_put thread events = filter_map (λ e. item_of e.begin) (own thread events)

-- the state of a linear congruential generator after another, and the number below k that it gives
abbrev pub next_state : ℕ → ℕ
next_state state = (state * 1664525 + 1013904223) % 4294967296

abbrev pub spread : ℕ → ℕ → ℕ
spread k state = (state * k) / 4294967296
