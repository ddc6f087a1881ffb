-- What a report says of picks.
use Rattle.std.specs.Prelude.{◌≡◌, ℕ, max, List, [], ◌∷◌, length, map, count_by, Some, is_none}
use Rattle.kfifo_words.specs.declared.shape.Shape.{Shape}
use Rattle.kfifo_model.specs.declared.calls.Call.{Call}
use Rattle.kfifo_model.specs.Histories.{call}
use Rattle.kfifo_model.specs.Ranks.{ranks_of}
use Rattle.kfifo_machine.specs.declared.event.Begin.{Begin}
use Rattle.kfifo_machine.specs.declared.event.Event.{Event}
use Rattle.kfifo_machine.specs.Calls.{history_of}
use Rattle.kfifo_linear.specs.Order.{ledger_after_all, order_of, point}
use Rattle.kfifo_replay.specs.declared.report.Report.{Report}
use Rattle.kfifo_replay.specs.Picks.{events_of}
use Rattle.kfifo_replay.specs.Player.{undos}

-- the greatest number of a list, 0 where it has none
abbrev pub greatest : List ℕ → ℕ
greatest [] = 0
greatest (x ∷ xs) = max x (greatest xs)

-- how many calls of an order are unfinished; they are enqueues
abbrev pub unfinished_in : List Call → List ℕ → ℕ
unfinished_in history order = count_by (λ n. is_none (call history n).end) order

-- a report of a schedule
pub record Reports (shape : Shape) (threads : ℕ) (events : List Event) (r : Report) : Type 0 where
  pub steps : r.steps ≡ length events
  pub order : r.order.items ≡ order_of shape threads events
  pub worst_rank : r.worst_rank ≡ greatest
      (ranks_of shape.k (history_of shape threads events) (order_of shape threads events))
  pub rollbacks : r.rollbacks ≡ undos shape threads events
  pub completed : r.completed ≡ unfinished_in (history_of shape threads events) (order_of shape threads events)

-- A report of the schedule that these picks make
pub record IsReport (shape : Shape) (scripts : List (List Begin)) (picks : List ℕ) (r : Report) : Type 0 where
  pub events : List Event
  pub made : events_of shape scripts picks ≡ Some events
  pub reports : Reports shape (length scripts) events r

-- the points of the calls in the order of the schedule that these picks make
pub record ArePoints (shape : Shape) (scripts : List (List Begin)) (picks points : List ℕ) : Type 0 where
  pub events : List Event
  pub made : events_of shape scripts picks ≡ Some events
  pub are : points ≡ map (point (ledger_after_all shape (length scripts) events))
      (order_of shape (length scripts) events)

-- the calls of that schedule
pub record IsHistoryOf (shape : Shape) (scripts : List (List Begin)) (picks : List ℕ)
    (history : List Call) : Type 0 where
  pub events : List Event
  pub made : events_of shape scripts picks ≡ Some events
  pub is : history ≡ history_of shape (length scripts) events
