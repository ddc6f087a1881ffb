-- What is kept of the ledger of a schedule in lists of fixed sizes, and how each event changes it. It is enough to name
-- the order.
use Rattle.std.specs.Prelude.{ℕ, zero, suc, ◌+◌, ◌*◌, ◌%◌, ◌<◌, Bool, true, false, nat_lt, min, if◌then◌else◌, List, []}
use Rattle.std.specs.Prelude.{◌∷◌, ◌++◌, length, get_or, set, replicate, filter, Option, Some, None}
use Rattle.kfifo_words.specs.declared.shape.Shape.{Shape}
use Rattle.kfifo_words.specs.Ring.{distance}
use Rattle.kfifo_words.specs.Words.{head_of}
use Rattle.kfifo_machine.specs.declared.event.Begin.{Begin}
use Rattle.kfifo_machine.specs.declared.event.Begin.TheVariants as B
use Rattle.kfifo_machine.specs.declared.event.Outcome.{Outcome}
use Rattle.kfifo_machine.specs.declared.event.Outcome.TheVariants.{Ended, Went}
use Rattle.kfifo_machine.specs.declared.event.Event.{Event}
use Rattle.kfifo_machine.specs.declared.place.Running.{Running}
use Rattle.kfifo_machine.specs.Machine.{World, found, place_of, word_at}
use Rattle.kfifo_linear.specs.Ledger.{action}
use Rattle.kfifo_linear.specs.declared.action.Action.{Action}
use Rattle.kfifo_linear.specs.declared.action.Action.TheVariants.{HoldHead, LoadEnds, MoveHead, MoveTail, Unnoted, Put}
use Rattle.kfifo_linear.specs.declared.action.Action.TheVariants.{Recheck, RecheckEmpty, ReloadEnds, Take, Undo}
use Rattle.kfifo_linear.specs.declared.notes.Caller.{Caller}
use Rattle.kfifo_linear.specs.declared.notes.Filling.{Filling}
use Rattle.kfifo_linear.specs.declared.notes.Whereabouts.{Whereabouts}
use Rattle.kfifo_linear.specs.declared.notes.Whereabouts.TheVariants.{At, InSlot, Nowhere}

-- the notes of a linearizer
pub record Notes : Type 0 where
  -- the number of events, which is the step of the next one
  pub step : ℕ
  -- the numbers of head and tail, and the steps at which they left the latest visits, each visit's at its remainder
  pub head : ℕ
  pub tail : ℕ
  pub heads : List ℕ
  pub tails : List ℕ
  -- what is noted of each slot by its index, and of each thread
  pub slots : List Filling
  pub callers : List Caller
  -- how many calls have begun, and where each stands
  pub begun : ℕ
  pub calls : List Whereabouts

-- nothing is noted
abbrev pub no_filling : Filling
no_filling = record { owner = 0; settled = false; point = 0 }

abbrev pub no_caller : Caller
no_caller = record { call = 0; head_seen = 0 }

-- the notes of no event, with room for the latest 2n visits, and for these threads and calls
abbrev pub no_notes : Shape → ℕ → ℕ → Notes
no_notes shape threads calls =
    record {
      step = 0;
      head = 0;
      tail = 0;
      heads = replicate (2 * shape.n) 0;
      tails = replicate (2 * shape.n) 0;
      slots = replicate (1 + shape.n * shape.k) no_filling;
      callers = replicate threads no_caller;
      begun = 0;
      calls = replicate calls Nowhere;
    }

-- what is noted of a slot, of a thread, of the call that it makes or made last, and of a call
abbrev pub slot : Notes → ℕ → Filling
slot n index = get_or n.slots index no_filling

abbrev pub caller : Notes → ℕ → Caller
caller n thread = get_or n.callers thread no_caller

abbrev pub own_call : Notes → ℕ → ℕ
own_call n thread = (caller n thread).call

abbrev pub whereabouts : Notes → ℕ → Whereabouts
whereabouts n call = get_or n.calls call Nowhere

-- the step noted of a visit, and a visit's step noted
abbrev pub left_at : List ℕ → ℕ → ℕ
left_at steps visit = get_or steps (visit % length steps) 0

abbrev pub leaves : ℕ → ℕ → List ℕ → List ℕ
leaves visit step steps = set steps (visit % length steps) step

-- a call is now here
abbrev pub goes_to : ℕ → Whereabouts → Notes → Notes
goes_to call place n = record n { calls = set n.calls call place }

-- a slot is now noted so
abbrev pub slot_is : ℕ → Filling → Notes → Notes
slot_is index filling n = record n { slots = set n.slots index filling }

-- a round begins
abbrev pub loads_ends : ℕ → Notes → Notes
loads_ends thread n = record n { callers = set n.callers thread (record (caller n thread) { head_seen = n.head }) }

-- a thread's item is put into a slot, and taken back
abbrev pub puts : ℕ → ℕ → Notes → Notes
puts thread index n =
    goes_to (own_call n thread) (InSlot index)
    (slot_is index (record (slot n index) { owner = own_call n thread; settled = false }) n)

abbrev pub undoes : ℕ → ℕ → Notes → Notes
undoes thread index n = goes_to (own_call n thread) Nowhere
    (slot_is index (record (slot n index) { settled = false }) n)

-- the point of an enqueue whose item is settled in this visit
abbrev pub settle_point : Notes → ℕ → ℕ
settle_point n visit = if nat_lt visit n.tail then left_at n.tails visit else n.step

-- an item that is still in its slot is settled in a visit
abbrev pub settles_if : Whereabouts → ℕ → ℕ → Notes → Notes
settles_if (InSlot at) index visit n =
    slot_is index (record (slot n index) { settled = true; point = settle_point n visit }) n
settles_if other index visit n = n

abbrev pub settles : ℕ → ℕ → ℕ → Notes → Notes
settles thread index visit n = settles_if (whereabouts n (own_call n thread)) index visit n

-- the points of an enqueue whose item is taken in this visit, and of the dequeue that takes it
abbrev pub gone_point : Notes → ℕ → ℕ → ℕ
gone_point n index visit = if (slot n index).settled then min (slot n index).point (left_at n.tails visit) else left_at
    n.tails visit

abbrev pub took_point : Notes → ℕ → ℕ
took_point n visit = if nat_lt visit n.head then left_at n.heads visit else n.step

-- a thread takes the item of a slot, in the visit at which its round began
abbrev pub takes_in : ℕ → ℕ → ℕ → Notes → Notes
takes_in visit thread index n =
    goes_to (own_call n thread) (At (took_point n visit))
    (goes_to (slot n index).owner (At (gone_point n index visit))
    (slot_is index (record (slot n index) { settled = false }) n))

abbrev pub takes : ℕ → ℕ → Notes → Notes
takes thread index n = takes_in (caller n thread).head_seen thread index n

-- after an action of a thread that found these ends
abbrev pub marked : Shape → ℕ → ℕ → Action → Notes → Notes
marked shape thread ends Unnoted n = n
marked shape thread ends LoadEnds n = loads_ends thread n
marked shape thread ends Recheck n = n
marked shape thread ends (Put index) n = puts thread index n
marked shape thread ends (Undo index) n = undoes thread index n
marked shape thread ends (ReloadEnds index segment) n =
    settles thread index (n.head + distance shape.n (head_of ends) segment) n
marked shape thread ends (HoldHead index) n = settles thread index n.head n
marked shape thread ends (Take index) n = takes thread index n
marked shape thread ends MoveHead n = record n { head = n.head + 1; heads = leaves n.head n.step n.heads }
marked shape thread ends MoveTail n = record n { tail = n.tail + 1; tails = leaves n.tail n.step n.tails }
marked shape thread ends RecheckEmpty n = goes_to (own_call n thread) (At n.step) n

-- a call that ends, and has no point yet, has it at its last step
abbrev pub at_end : ℕ → Whereabouts → Whereabouts
at_end now Nowhere = At now
at_end now (InSlot index) = InSlot index
at_end now (At point) = At point

abbrev pub ended : ℕ → Outcome → Notes → Notes
ended thread Went n = n
ended thread (Ended answer) n = goes_to (own_call n thread) (at_end n.step (whereabouts n (own_call n thread))) n

-- one event more
abbrev pub later : Notes → Notes
later n = record n { step = n.step + 1 }

-- after a step of a thread
abbrev pub stepped : Shape → ℕ → ℕ → Action → Outcome → Notes → Notes
stepped shape thread ends action outcome n = later (ended thread outcome (marked shape thread ends action n))

-- a call begins
abbrev pub called : ℕ → Notes → Notes
called thread n = record n {
  callers = set n.callers thread (record (caller n thread) { call = n.begun });
  begun = n.begun + 1;
}

-- after an event of a thread that begins this, or else does this action, that finds these ends and comes to this
abbrev pub noted_event : Shape → ℕ → Option Begin → ℕ → Action → Outcome → Notes → Notes
noted_event shape thread None ends action outcome n = stepped shape thread ends action outcome n
noted_event shape thread (Some (B.Enqueue item start turns)) ends action outcome n =
    stepped shape thread ends LoadEnds outcome (called thread n)
noted_event shape thread (Some (B.Dequeue start turns)) ends action outcome n =
    stepped shape thread ends LoadEnds outcome (called thread n)
noted_event shape thread (Some B.Tick) ends action outcome n = later n
noted_event shape thread (Some B.Seal) ends action outcome n = later n

-- there is room for the slot and the call of an action
abbrev pub HasRoom : Shape → Notes → Action → Type 0
HasRoom shape n (Put index) = index < length n.slots
HasRoom shape n (Undo index) = index < length n.slots
HasRoom shape n (ReloadEnds index segment) = (index < length n.slots) × (segment < shape.n)
HasRoom shape n (HoldHead index) = index < length n.slots
HasRoom shape n (Take index) = (index < length n.slots) × ((slot n index).owner < length n.calls)
HasRoom shape n other = Unit {0}

-- what the next step of a thread at this place will do
abbrev pub action_at : Shape → World → Option Running → Action
action_at shape world None = Unnoted
action_at shape world (Some running) = action shape running (found shape world running)

-- the notes after an event that comes to this
abbrev pub fed : Shape → World → Event → Outcome → Notes → Notes
fed shape world event outcome n = noted_event shape event.thread event.begin (word_at world 0)
    (action_at shape world (place_of world event.thread)) outcome n

-- an event that begins this begins a call: a tick and a seal are none
abbrev pub begins_call : Option Begin → Bool
begins_call None = false
begins_call (Some (B.Enqueue item start turns)) = true
begins_call (Some (B.Dequeue start turns)) = true
begins_call (Some B.Tick) = false
begins_call (Some B.Seal) = false

-- the point that is noted of a slot, of a call by where it stands, and of a call; none where it does not stand in the
-- order
abbrev pub point_if : Filling → Option ℕ
point_if filling = if filling.settled then Some filling.point else None

abbrev pub point_from : Notes → Whereabouts → Option ℕ
point_from n Nowhere = None
point_from n (InSlot index) = point_if (slot n index)
point_from n (At point) = Some point

abbrev pub point_at : Notes → ℕ → Option ℕ
point_at n call = point_from n (whereabouts n call)

-- of the calls below a number those that stand, each behind its point
abbrev pub with_point : Option ℕ → ℕ → List (ℕ × ℕ)
with_point None call = []
with_point (Some point) call = (point, call) ∷ []

abbrev pub points_below : Notes → ℕ → List (ℕ × ℕ)
points_below n zero = []
points_below n (suc call) = points_below n call ++ with_point (point_at n call) call

-- how many calls these events begin
abbrev pub calls_begun : List Event → ℕ
calls_begun events = length (filter (λ e. begins_call e.begin) events)
