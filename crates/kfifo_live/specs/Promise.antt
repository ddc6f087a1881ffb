-- What is promised of a schedule of a queue: that its calls stand in a legal order, in which few overtake.
use Rattle.std.specs.Prelude.{◌≡◌, ℕ, ◌<◌, List, Some}
use Rattle.kfifo_model.specs.Lists.{IsIn}
use Rattle.kfifo_model.specs.declared.calls.Call.{Call}
use Rattle.kfifo_model.specs.declared.effects.Effect.TheVariants.{Adds}
use Rattle.kfifo_model.specs.Histories.{does, IsLegal}
use Rattle.kfifo_model.specs.Measures.{IsDoneEnqueue, HasDistinctItems}
use Rattle.kfifo_model.specs.Overtaking.{overtaken_in, certainly_overtaken, AddsAreDistinct}
use Rattle.kfifo_machine.specs.declared.event.Event.{Event}
use Rattle.kfifo_machine.specs.Machine.{World}
use Rattle.kfifo_machine.specs.Calls.{history_of}
use Rattle.kfifo_linear.specs.Order.{order_of}
use Rattle.kfifo_live.specs.declared.view.Opening.{Opening}
use Rattle.kfifo_live.specs.Schedule.{world_after}

-- the calls of a schedule of an opening, and the order in which they stand, by number
abbrev pub calls_of : Opening → List Event → List Call
calls_of o seen = history_of o.shape o.threads seen

abbrev pub order_in : Opening → List Event → List ℕ
order_in o seen = order_of o.shape o.threads seen

-- The promise of a queue, of a schedule that was seen of it
pub record KeepsPromise (o : Opening) (seen : List Event) : Type 0 where
  -- it is a schedule of the machine
  pub world : World
  pub reached : world_after o seen ≡ Some world
  -- the order of its calls is legal: it has all finished ones, keeps each return before a call, and is a run of the
  -- k-relaxed queue
  pub legal : IsLegal o.shape.k (calls_of o seen) (order_in o seen)
  -- in that order, where its enqueues carry distinct items, each item is overtaken fewer than k times
  pub few_overtake : AddsAreDistinct (does (calls_of o seen)) (order_in o seen) → (c x : ℕ) → IsIn c (order_in o seen)
      → does (calls_of o seen) c ≡ Adds x
      → overtaken_in (calls_of o seen) (order_in o seen) c < o.shape.k
  -- by the calls alone, where items are distinct, fewer than k overtakings of the item of an enqueue that returned Done
  -- are certain
  pub few_certainly_overtake : HasDistinctItems (calls_of o seen) → (c : ℕ) → IsDoneEnqueue (calls_of o seen) c
      → certainly_overtaken (calls_of o seen) c < o.shape.k
