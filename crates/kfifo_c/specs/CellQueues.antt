-- What C is told of a cell's layout, and what closing a queue of cells says of its handles.
use Rattle.std.specs.Prelude.{◌≡◌, ℕ, ◌%◌, ◌==◌, ◌&&◌, Bool, not, Option, Some, List, [], ◌∷◌, ◌++◌}
use Rattle.kfifo_renewing.specs.Cells.{ClosesAllCells}
use Rattle.kfifo_renewing.specs.declared.change.Change.{Change}
use Rattle.kfifo_c.specs.AllHandles.{AreAll}
use Rattle.kfifo_c.specs.CellLeft.{LeftSeated}
use Rattle.kfifo_c.specs.CellSeats.{CellSeated}

-- A cell may have this size and alignment, in bytes: the alignment is a power of two up to 4,096, which are the numbers
-- that divide 4,096, and the size is a multiple of it
abbrev pub is_layout : ℕ → ℕ → Bool
is_layout size alignment = not (alignment == 0) && (4096 % alignment == 0) && not (size == 0) && (size % alignment == 0)

-- the cells of these generations, one generation after the other
abbrev pub all_cells : List (List ℕ) → List ℕ
all_cells [] = []
all_cells (cells ∷ generations) = cells ++ all_cells generations

-- A queue was closed by these handles, and these cells were left in it, those of the oldest generation first: all that
-- the renewing queue says of a close. The log, what was seen of the history, is not handed on to C
pub record ClosesCells (handles : List (Option CellSeated)) (left : Option LeftSeated) : Type 0 where
  pub all : AreAll handles
  pub generations : List (List ℕ)
  pub log : List Change
  pub closes : ClosesAllCells (all.others ++ all.last ∷ []) generations log
  pub left_is : left ≡ Some (all_cells generations)
