-- How the notes of a linearizer tell the ledger of a schedule.
use Rattle.std.specs.Prelude.{◌≡◌, ℕ, ◌+◌, ◌*◌, ◌<◌, ◌≤◌, List, length, Option, Some, None}
use Rattle.kfifo_words.specs.declared.shape.Shape.{Shape}
use Rattle.kfifo_machine.specs.declared.event.Event.{Event}
use Rattle.kfifo_machine.specs.Machine.{World, after}
use Rattle.kfifo_linear.specs.declared.notes.Whereabouts.{Whereabouts}
use Rattle.kfifo_linear.specs.declared.notes.Whereabouts.TheVariants.{At, InSlot, Nowhere}
use Rattle.kfifo_linear.specs.Ledger.{Gone, Inside, Ledger, Outside, Standing, Stood, Took}
use Rattle.kfifo_linear.specs.Notes.{Notes, calls_begun, left_at, own_call, caller, slot, whereabouts}
use Rattle.kfifo_linear.specs.Order.{ledger_after_all}

-- a linearizer: its shape, the world to which it has followed a schedule, and its notes
pub record Follower : Type 0 where
  pub shape : Shape
  pub world : World
  pub notes : Notes

abbrev pub follower : Shape → World → Notes → Follower
follower shape world notes = record { shape = shape; world = world; notes = notes }

-- where a call stands, in brief
abbrev pub brief : Standing → Option ℕ → Whereabouts
brief Outside None = Nowhere
brief Outside (Some last) = At last
brief (Inside index) last = InSlot index
brief (Gone index visit point) last = At point
brief (Took call visit point) last = At point
brief (Stood visit point) last = At point

-- the steps at which the latest visits were left, as many as there is room for
abbrev pub TellVisits : (ℕ → ℕ) → ℕ → List ℕ → Type 0
TellVisits left number steps = (visit : ℕ) → visit < number → number ≤ visit + length steps
    → left_at steps visit ≡ left visit

pub record Tells (l : Ledger) (n : Notes) : Type 0 where
  pub step : n.step ≡ l.now
  pub head : n.head ≡ l.head
  pub tail : n.tail ≡ l.tail
  pub heads : TellVisits l.heads l.head n.heads
  pub tails : TellVisits l.tails l.tail n.tails
  pub owner : (index : ℕ) → (slot n index).owner ≡ l.owner index
  pub settled : (index : ℕ) → (slot n index).settled ≡ l.settled index
  pub point : (index : ℕ) → (slot n index).point ≡ l.point index
  pub own : (thread : ℕ) → own_call n thread ≡ l.caller thread
  pub head_seen : (thread : ℕ) → (caller n thread).head_seen ≡ l.head_seen thread
  pub begun : n.begun ≡ l.calls
  pub calls : (call : ℕ) → whereabouts n call ≡ brief (l.standing call) (l.last call)

-- the sizes of the lists: the latest 2n visits, each slot by the index of its word, each thread, and each call
pub record Sizes (shape : Shape) (threads room : ℕ) (n : Notes) : Type 0 where
  pub heads : length n.heads ≡ 2 * shape.n
  pub tails : length n.tails ≡ 2 * shape.n
  pub slots : length n.slots ≡ 1 + shape.n * shape.k
  pub callers : length n.callers ≡ threads
  pub calls : length n.calls ≡ room
  pub begun : n.begun ≤ room
  pub head : n.head ≤ n.step
  pub tail : n.tail ≤ n.step

-- The linearizer with room for so many calls has followed this schedule
pub record Follows (threads room : ℕ) (events : List Event) (f : Follower) : Type 0 where
  pub reached : after f.shape threads events ≡ Some f.world
  pub steps : f.notes.step ≡ length events
  pub begun : f.notes.begun ≡ calls_begun events
  pub tells : Tells (ledger_after_all f.shape threads events) f.notes
  pub sizes : Sizes f.shape threads room f.notes

-- It has followed some schedule
pub record IsFollowing (f : Follower) : Type 0 where
  pub threads : ℕ
  pub room : ℕ
  pub events : List Event
  pub follows : Follows threads room events f
