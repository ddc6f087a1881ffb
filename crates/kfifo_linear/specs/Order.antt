-- The linearization order of a schedule: the calls that stand in it, in ascending order of point, and at one point of
-- number.
use Rattle.std.specs.Prelude.{ℕ, zero, suc, ◌-◌, ◌%◌, Bool, nat_lt, if◌then◌else◌, List, Option, Some, None, is_some}
use Rattle.kfifo_words.specs.declared.shape.Shape.{Shape}
use Rattle.kfifo_machine.specs.declared.event.Event.{Event}
use Rattle.kfifo_machine.specs.Machine.{opening}
use Rattle.kfifo_machine.specs.Calls.{history_of}
use Rattle.kfifo_linear.specs.Ledger.{Ledger, ledger_of, blank}
use Rattle.kfifo_linear.specs.Roles.{Role, Puts, Gets, Refused, Spot, spot}
use Rattle.kfifo_linear.specs.Points.{Marks, by_point}

-- the ledger of a schedule
abbrev pub ledger_after_all : Shape → ℕ → List Event → Ledger
ledger_after_all shape threads events = ledger_of shape (Some (opening shape threads)) events blank

-- a call stands in the order
abbrev pub stands : Ledger → ℕ → Bool
stands l c = is_some (spot l c)

-- the point of a call that stands
abbrev pub point_of : Option Spot → ℕ
point_of None = 0
point_of (Some s) = s.point

abbrev pub point : Ledger → ℕ → ℕ
point l c = point_of (spot l c)

-- The order of a schedule's calls, by their numbers in its history
abbrev pub order_of : Shape → ℕ → List Event → List ℕ
order_of shape threads events =
    by_point (stands (ledger_after_all shape threads events)) (point (ledger_after_all shape threads events))
    (ledger_after_all shape threads events).now (history_of shape threads events)

-- the role of a call that stands
abbrev pub role_of : Option Spot → Role
role_of None = Refused
role_of (Some s) = s.role

-- of a call that put an item: its visit
abbrev pub visit_of : Role → ℕ
visit_of (Puts visit index) = visit
visit_of other = 0

-- and its slot in its segment
abbrev pub slot_of : Shape → Role → ℕ
slot_of shape (Puts visit index) = (index - 1) % shape.k
slot_of shape other = 0

-- of a call that got an item: the call that put it
abbrev pub source_of : Role → ℕ
source_of (Gets call visit) = call
source_of other = 0

-- of n steps that rise, how many come before a step
abbrev pub number_at : (ℕ → ℕ) → ℕ → ℕ → ℕ
number_at steps zero p = 0
number_at steps (suc n) p = if nat_lt (steps n) p then suc n else number_at steps n p

-- what the ledger marks on the calls of a schedule, and on its steps
abbrev pub marks_of : Shape → Ledger → Marks
marks_of shape l =
    record {
      stands = stands l;
      point = point l;
      visit = λ c. visit_of (role_of (spot l c));
      slot = λ c. slot_of shape (role_of (spot l c));
      source = λ c. source_of (role_of (spot l c));
      head = number_at l.heads l.head;
      tail = number_at l.tails l.tail;
    }
