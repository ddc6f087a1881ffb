-- What C is told of the calls with cells. c/include/kfifo.h has the same numbers.
use Rattle.std.specs.Prelude.{◌≡◌, ℕ, Option, Some, None, [], ◌∷◌}
use Rattle.kfifo_live.specs.declared.payload.Given.{Given}
use Rattle.kfifo_live.specs.declared.payload.Given.TheVariants as G
use Rattle.kfifo_live.specs.declared.payload.Taken.{Taken}
use Rattle.kfifo_live.specs.declared.payload.Taken.TheVariants as K
use Rattle.kfifo_renewing.specs.Cells.{ReservesNewest, ReservesOne}
use Rattle.kfifo_renewing.specs.Memory.{cell_reserved}
use Rattle.kfifo_renewing.specs.declared.memory.CellAt.{CellAt}
use Rattle.kfifo_c.specs.CellLeft.{LeftSeated}
use Rattle.kfifo_c.specs.CellSeats.{CellSeated}

-- the number of a reservation, and what it leaves in the variable of its cell
abbrev pub reservation_number : Option (Option CellAt) → ℕ
reservation_number (Some (Some cell)) = 0
reservation_number (Some None) = 1
reservation_number None = 6

abbrev pub cell_after_reserve : CellAt → Option (Option CellAt) → CellAt
cell_after_reserve old (Some (Some cell)) = cell
cell_after_reserve old other = old

-- what a `reserve` did
abbrev pub ReservesAt : Option CellAt → CellSeated → CellSeated → Type 0
ReservesAt answer = ReservesOne (cell_reserved answer)

-- what a `reserve_next` did
abbrev pub ReservesNextAt : Option CellAt → CellSeated → CellSeated → Type 0
ReservesNextAt answer = ReservesNewest (cell_reserved answer)

-- The number of what a call with a cell came to, and of one that was not made. There may be no such cell
abbrev pub call_number : Option (Given (Unit {0})) → ℕ
call_number (Some G.Done) = 0
call_number (Some (G.Full none)) = 1
call_number (Some (G.Busy none)) = 4
call_number (Some (G.Worn none)) = 5
call_number (Some (G.NoToken none)) = 6
call_number None = 6

-- what a `receive` leaves in the variable of its cell
abbrev pub cell_after : CellAt → Option (Taken CellAt) → CellAt
cell_after old (Some (K.Got cell)) = cell
cell_after old other = old

-- the number of what a look for the next cell that was left came to, and what it leaves in the variable of its cell
abbrev pub next_number : Option (Option CellAt) → ℕ
next_number (Some (Some cell)) = 0
next_number (Some None) = 3
next_number None = 6

-- The first of the cells that were left is taken from these. None: there are no more
abbrev pub TakesNext : Option CellAt → LeftSeated → LeftSeated → Type 0
TakesNext (Some cell) old new = old ≡ cell.index ∷ new
TakesNext None old new = (old ≡ []) × (new ≡ [])
