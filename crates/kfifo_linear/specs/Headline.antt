-- What holds of the order of every schedule of a shape and a number of threads.
use Rattle.std.specs.Prelude.{◌≡◌, ℕ, ◌+◌, ◌*◌, ◌<◌, ◌≤◌, List, Some, true}
use Rattle.kfifo_words.specs.declared.shape.Shape.{Shape}
use Rattle.kfifo_model.specs.Lists.{IsIn}
use Rattle.kfifo_model.specs.declared.calls.Call.{Call}
use Rattle.kfifo_model.specs.declared.calls.End.{End}
use Rattle.kfifo_model.specs.declared.effects.Effect.TheVariants.{Adds, Takes, FindsNone}
use Rattle.kfifo_model.specs.Histories.{call, does, IsLegal}
use Rattle.kfifo_model.specs.Measures.{IsDoneEnqueue, HasDistinctItems}
use Rattle.kfifo_model.specs.Overtaking.{overtaken_in, certainly_overtaken, AddsAreDistinct}
use Rattle.kfifo_machine.specs.declared.event.Event.{Event}
use Rattle.kfifo_machine.specs.declared.place.DequeuePhase.TheVariants as D
use Rattle.kfifo_machine.specs.declared.place.Running.TheVariants as R
use Rattle.kfifo_machine.specs.Machine.{World, word_at, place_of, after}
use Rattle.kfifo_machine.specs.Calls.{history_of}
use Rattle.kfifo_machine.specs.Laws.{head_ons, tail_ons}
use Rattle.kfifo_linear.specs.Points.{Marks, PointsFit, StandsFit, IsByPoint, IsAdd, IsTakeOf, IsNoLater}
use Rattle.kfifo_linear.specs.Order.{ledger_after_all, marks_of, order_of}

-- Every schedule has a legal order of its history: this one
abbrev pub HasLegalOrder : Shape → ℕ → Type 0
HasLegalOrder shape threads = (events : List Event) (here : World) → after shape threads events ≡ Some here
    → IsLegal shape.k (history_of shape threads events) (order_of shape threads events)

-- In that order, where the items enqueued in it are distinct, each item is overtaken fewer than k times
abbrev pub FewOvertake : Shape → ℕ → Type 0
FewOvertake shape threads = (events : List Event) (here : World) → after shape threads events ≡ Some here
    → AddsAreDistinct (does (history_of shape threads events)) (order_of shape threads events)
    → (c x : ℕ) → IsIn c (order_of shape threads events) → does (history_of shape threads events) c ≡ Adds x
    → overtaken_in (history_of shape threads events) (order_of shape threads events) c < shape.k

-- In the history of a schedule, where its items are distinct, the item of each enqueue that returned Done is certainly
-- overtaken fewer than k times
abbrev pub FewCertainlyOvertake : Shape → ℕ → Type 0
FewCertainlyOvertake shape threads = (events : List Event) (here : World) → after shape threads events ≡ Some here
    → (c : ℕ) → IsDoneEnqueue (history_of shape threads events) c → HasDistinctItems (history_of shape threads events)
    → certainly_overtaken (history_of shape threads events) c < shape.k

-- The facts about points hold of every schedule
abbrev pub PointsHold : Shape → ℕ → Type 0
PointsHold shape threads = (events : List Event) (here : World) → after shape threads events ≡ Some here
    → PointsFit shape.k (does (history_of shape threads events))
    (marks_of shape (ledger_after_all shape threads events))
    × StandsFit (history_of shape threads events) (marks_of shape (ledger_after_all shape threads events))

-- Laws of the calls in an order, told by head and tail numbers before a step.
pub record OrderLaws (h : List Call) (m : Marks) : Type 0 where
  -- no two items of one visit were put in one slot
  pub one_each : (c d : ℕ) → IsAdd (does h) m c → IsAdd (does h) m d → m.visit c ≡ m.visit d → m.slot c ≡ m.slot d
      → c ≡ d
  -- before a won take, the last step of a call that got an item, the tail has left the item's visit
  pub left_first : (g x : ℕ) (end : End) → does h g ≡ Takes x → (call h g).end ≡ Some end
      → m.visit (m.source g) < m.tail end.last
  -- at the last step of a finished enqueue the tail has reached its item's visit
  pub reached : (c x : ℕ) (end : End) → does h c ≡ Adds x → (call h c).end ≡ Some end → m.visit c ≤ m.tail end.last
  -- the head does not leave the visit of an item that nobody takes
  pub head_stays : (c p : ℕ) → IsAdd (does h) m c → ((g : ℕ) → IsTakeOf (does h) m c g → ⊥) → m.head p ≤ m.visit c
  -- each point lies within its call
  pub point_from : (c : ℕ) → m.stands c ≡ true → (call h c).first ≤ m.point c
  pub point_to : (c : ℕ) → m.stands c ≡ true → IsNoLater (m.point c) (call h c).end
  -- at the last step of a call that found the queue empty, which is its point, the tail is in the head's visit, and no
  -- enqueue of an item of that visit has its point there or before
  pub empty_point : (e : ℕ) (end : End) → does h e ≡ FindsNone → (call h e).end ≡ Some end → m.point e ≡ end.last
  pub empty_ends : (e : ℕ) (end : End) → does h e ≡ FindsNone → (call h e).end ≡ Some end
      → m.head end.last ≡ m.tail end.last
  pub empty_visit : (e c : ℕ) (end : End) → does h e ≡ FindsNone → (call h e).end ≡ Some end → IsAdd (does h) m c
      → m.visit c ≡ m.head end.last → end.last < m.point c

-- These laws hold of every schedule
abbrev pub LawsHold : Shape → ℕ → Type 0
LawsHold shape threads = (events : List Event) (here : World) → after shape threads events ≡ Some here
    → OrderLaws (history_of shape threads events) (marks_of shape (ledger_after_all shape threads events))

-- At the Recheck before an item's put the tail has not left the item's visit
abbrev pub PutsInVisit : Shape → ℕ → Type 0
PutsInVisit shape threads = (events : List Event) (here : World) → after shape threads events ≡ Some here
    → (c : ℕ) → IsAdd (does (history_of shape threads events)) (marks_of shape (ledger_after_all shape threads events))
    c
    → (marks_of shape (ledger_after_all shape threads events)).tail
    ((ledger_after_all shape threads events).recheck_before_put c)
    ≤ (marks_of shape (ledger_after_all shape threads events)).visit c

-- A take that is about to be won is of a visit from which the head has gone at most once round, and the tail at most
-- twice: the steps of the last 2n visits of head and tail have both points
abbrev pub TakesInTime : Shape → ℕ → Type 0
TakesInTime shape threads = (events : List Event) (here : World) → after shape threads events ≡ Some here
    → (thread start left ends index filled : ℕ)
    → place_of here thread ≡ Some (R.Dequeue start left (D.Take ends index filled)) → word_at here index ≡ filled
    → ((ledger_after_all shape threads events).head
    ≤ (ledger_after_all shape threads events).head_seen thread + shape.n)
    × ((ledger_after_all shape threads events).tail
    < (ledger_after_all shape threads events).head_seen thread + 2 * shape.n)

-- The ledger's numbers of head and tail are the numbers of won head-ons and tail-ons
abbrev pub NumbersAgree : Shape → ℕ → Type 0
NumbersAgree shape threads = (events : List Event) (here : World) → after shape threads events ≡ Some here
    → ((ledger_after_all shape threads events).head ≡ head_ons shape threads events)
    × ((ledger_after_all shape threads events).tail ≡ tail_ons shape threads events)

-- A list with the calls that stand, sorted by point and number, is the order
abbrev pub OneOrder : Shape → ℕ → Type 0
OneOrder shape threads = (events : List Event) (here : World) → after shape threads events ≡ Some here
    → (list : List ℕ) → IsByPoint (marks_of shape (ledger_after_all shape threads events)) list
    → list ≡ order_of shape threads events
