-- The events that picks make. Each pick names the thread that makes the next event: an idle thread begins the next call
-- of its script, and a thread inside a call goes on.
use Rattle.std.specs.Prelude.{ℕ, ◌==◌, ◌&&◌, List, [], ◌∷◌, ◌++◌, length, count_by, get_or, slice_get, Option, Some}
use Rattle.std.specs.Prelude.{None, is_some}
use Rattle.kfifo_words.specs.declared.shape.Shape.{Shape}
use Rattle.kfifo_machine.specs.declared.event.Begin.{Begin}
use Rattle.kfifo_machine.specs.declared.event.Event.{Event}
use Rattle.kfifo_machine.specs.declared.place.Running.{Running}
use Rattle.kfifo_machine.specs.Machine.{World, place_of, after}
use Rattle.kfifo_machine.specs.Runs.{event}

-- how many calls a thread began in these events
abbrev pub begun_by : ℕ → List Event → ℕ
begun_by thread events = count_by (λ (e : Event). (e.thread == thread) && is_some e.begin) events

-- the script of a thread; no calls where it has none
abbrev pub script_of : List (List Begin) → ℕ → List Begin
script_of scripts thread = get_or scripts thread []

-- the call that a thread begins next: the first of its script that it has not begun
abbrev pub next_call : List (List Begin) → ℕ → List Event → Option Begin
next_call scripts thread events = slice_get (script_of scripts thread) (begun_by thread events)

-- the event of a thread at this place in its call, where it is in one; else it begins this, where there is something to
-- begin
abbrev pub event_at : ℕ → Option Running → Option Begin → Option Event
event_at thread (Some running) next = Some (event thread None)
event_at thread None (Some call) = Some (event thread (Some call))
event_at thread None None = None

abbrev pub event_in : List (List Begin) → ℕ → List Event → Option World → Option Event
event_in scripts thread events None = None
event_in scripts thread events (Some world) = event_at thread (place_of world thread) (next_call scripts thread events)

-- The event that a pick of this thread makes after these events. None: it names no script, or one that has ended
abbrev pub picked : Shape → List (List Begin) → List Event → ℕ → Option Event
picked shape scripts events thread = event_in scripts thread events (after shape (length scripts) events)

-- events, and one more
abbrev pub and_then : List Event → Option Event → Option (List Event)
and_then events None = None
and_then events (Some event) = Some (events ++ event ∷ [])

-- the events of picks, behind those that were made; none from the first pick on that is refused
abbrev pub events_from : Shape → List (List Begin) → Option (List Event) → List ℕ → Option (List Event)
events_from shape scripts events [] = events
events_from shape scripts None (thread ∷ picks) = None
events_from shape scripts (Some events) (thread ∷ picks) =
    events_from shape scripts (and_then events (picked shape scripts events thread)) picks

-- The events of picks, from the opening
abbrev pub events_of : Shape → List (List Begin) → List ℕ → Option (List Event)
events_of shape scripts picks = events_from shape scripts (Some []) picks
