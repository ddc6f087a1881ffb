-- What may be behind a pointer of C's.
use Rattle.std.specs.Prelude.{◌≡◌, ◌==◌, ℕ, Bool, true, false, Option, Some, None}
use mathlib.Core.Path.{refl, subst}
use Rattle.kfifo_c.specs.CellLeft.{LeftSeated}
use Rattle.kfifo_c.specs.CellSeats.{CellSeated}
use Rattle.kfifo_c.specs.Seats.{Seated}
use Rattle.kfifo_c.specs.ValueSeats.{ValueSeated}

-- the seat of a handle of a queue of items, of values or of cells, or what is left of a closed queue of cells
pub data Behind : Type 0 where
  Items : Seated → Behind
  Values : ValueSeated → Behind
  Cells : CellSeated → Behind
  Left : LeftSeated → Behind

-- its number in a handle, and 0 where there is nothing
abbrev pub kind_of : Option Behind → ℕ
kind_of None = 0
kind_of (Some (Items seat)) = 1
kind_of (Some (Values seat)) = 2
kind_of (Some (Cells seat)) = 3
kind_of (Some (Left cells)) = 4

-- from how many slots a scan by the handle may begin: k, and from none by one that is closed or of another kind
abbrev pub starts_of : Option Behind → ℕ
starts_of None = 0
starts_of (Some (Items seat)) = seat.queue.opened.shape.k
starts_of (Some (Values seat)) = 0
starts_of (Some (Cells seat)) = 0
starts_of (Some (Left cells)) = 0

-- 1 where cells are held
abbrev pub left_holds_of : Option Behind → ℕ
left_holds_of None = 0
left_holds_of (Some (Items seat)) = 0
left_holds_of (Some (Values seat)) = 0
left_holds_of (Some (Cells seat)) = 0
left_holds_of (Some (Left cells)) = 1

-- the seat, if it is one of this kind
abbrev pub items_in : Option Behind → Option Seated
items_in None = None
items_in (Some (Items seat)) = Some seat
items_in (Some (Values seat)) = None
items_in (Some (Cells seat)) = None
items_in (Some (Left seat)) = None

abbrev pub values_in : Option Behind → Option ValueSeated
values_in None = None
values_in (Some (Items seat)) = None
values_in (Some (Values seat)) = Some seat
values_in (Some (Cells seat)) = None
values_in (Some (Left seat)) = None

abbrev pub cells_in : Option Behind → Option CellSeated
cells_in None = None
cells_in (Some (Items seat)) = None
cells_in (Some (Values seat)) = None
cells_in (Some (Cells seat)) = Some seat
cells_in (Some (Left seat)) = None

abbrev pub left_in : Option Behind → Option LeftSeated
left_in None = None
left_in (Some (Items seat)) = None
left_in (Some (Values seat)) = None
left_in (Some (Cells seat)) = None
left_in (Some (Left seat)) = Some seat

abbrev Holds : Bool → Type 0
Holds true = Unit {0}
Holds false = ⊥

-- what is behind a handle of this kind
pub items_found : (o : Option Behind) → kind_of o ≡ 1 → (seat : Seated) × (o ≡ Some (Items seat))
items_found None is = absurd (subst (λ n. Holds (n == 0)) is tt)
items_found (Some (Items seat)) is = (seat, refl)
items_found (Some (Values seat)) is = absurd (subst (λ n. Holds (n == 2)) is tt)
items_found (Some (Cells seat)) is = absurd (subst (λ n. Holds (n == 3)) is tt)
items_found (Some (Left seat)) is = absurd (subst (λ n. Holds (n == 4)) is tt)

pub values_found : (o : Option Behind) → kind_of o ≡ 2 → (seat : ValueSeated) × (o ≡ Some (Values seat))
values_found None is = absurd (subst (λ n. Holds (n == 0)) is tt)
values_found (Some (Items seat)) is = absurd (subst (λ n. Holds (n == 1)) is tt)
values_found (Some (Values seat)) is = (seat, refl)
values_found (Some (Cells seat)) is = absurd (subst (λ n. Holds (n == 3)) is tt)
values_found (Some (Left seat)) is = absurd (subst (λ n. Holds (n == 4)) is tt)

pub cells_found : (o : Option Behind) → kind_of o ≡ 3 → (seat : CellSeated) × (o ≡ Some (Cells seat))
cells_found None is = absurd (subst (λ n. Holds (n == 0)) is tt)
cells_found (Some (Items seat)) is = absurd (subst (λ n. Holds (n == 1)) is tt)
cells_found (Some (Values seat)) is = absurd (subst (λ n. Holds (n == 2)) is tt)
cells_found (Some (Cells seat)) is = (seat, refl)
cells_found (Some (Left seat)) is = absurd (subst (λ n. Holds (n == 4)) is tt)

pub left_found : (o : Option Behind) → kind_of o ≡ 4 → (seat : LeftSeated) × (o ≡ Some (Left seat))
left_found None is = absurd (subst (λ n. Holds (n == 0)) is tt)
left_found (Some (Items seat)) is = absurd (subst (λ n. Holds (n == 1)) is tt)
left_found (Some (Values seat)) is = absurd (subst (λ n. Holds (n == 2)) is tt)
left_found (Some (Cells seat)) is = absurd (subst (λ n. Holds (n == 3)) is tt)
left_found (Some (Left seat)) is = (seat, refl)
