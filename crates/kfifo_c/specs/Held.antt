-- What a pointer of C's owns.
use Rattle.std.specs.Prelude.{Option, Some, None}
use Rattle.std.specs.declared.alloc.Global.{Global}
use Rattle.std.specs.contracts.impls.GlobalAllocator.TheImpl.{ghosts}
use Rattle.std_alloc.specs.Box.Ownership.{box_owns}
use base.Fml.{Fml, ftrue}
use denote.RattleType.{RattleType}
use denote.RawPtr.{Ptr}
use Rattle.kfifo_c.specs.Behind.{Behind, Items, Values, Cells, Left}
use Rattle.kfifo_c.specs.contracts.cell_queue.left_seat.LeftSeat as left
use Rattle.kfifo_c.specs.contracts.cell_queue.seat.CellSeat as cells
use Rattle.kfifo_c.specs.contracts.seat.Seat as items
use Rattle.kfifo_c.specs.contracts.value_queue.seat.ValueSeat as values

-- the global allocator: it takes no bytes, and has one value
abbrev pub heap : Global
heap = record { memory = record { seal = tt } }

-- the block of a box of the global allocator at the pointer
abbrev pub block_of : (R : RattleType) → Ptr → R.Denot → Fml
block_of R p x = box_owns (ghosts.dealloc_token heap) R p x

-- that of the seat, where there is one
abbrev pub held_owns : Ptr → Option Behind → Fml
held_owns p None = ftrue
held_owns p (Some (Items seat)) = block_of items.the_row p seat
held_owns p (Some (Values seat)) = block_of values.the_row p seat
held_owns p (Some (Cells seat)) = block_of cells.the_row p seat
held_owns p (Some (Left seat)) = block_of left.the_row p seat
