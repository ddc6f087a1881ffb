-- What the calls with cells say of where a cell lies: its number in its generation. What a pointer reaches is in no
-- clause.
use Rattle.std.specs.Prelude.{◌-◌, ℕ, List, map, Option, Some, None}
use Rattle.kfifo_live.specs.declared.payload.Taken.{Taken}
use Rattle.kfifo_live.specs.declared.payload.Taken.TheVariants as K
use Rattle.kfifo_live.specs.declared.payload.sealing.TakenOrSealed.{TakenOrSealed}
use Rattle.kfifo_live.specs.declared.payload.sealing.TakenOrSealed.TheVariants as S
use Rattle.kfifo_pool.specs.Cells.{ReceivesCell, ReceivesCellOrSeals}
use Rattle.kfifo_pool.specs.Pooled.{Pooled}
use Rattle.kfifo_renewing.specs.declared.memory.CellAt.{CellAt}

-- the number of the cell that a take got
abbrev pub cell_taken : Taken CellAt → Taken ℕ
cell_taken (K.Got at) = K.Got at.index
cell_taken K.Empty = K.Empty
cell_taken K.Busy = K.Busy
cell_taken K.Worn = K.Worn

-- what a take did in one generation of cells
abbrev pub ReceivesAt : {T : Type 0} → Taken CellAt → Pooled T → Pooled T → Type 0
ReceivesAt taken = ReceivesCell (cell_taken taken)

-- and of a take that may seal the generation
abbrev pub cell_or_sealed : TakenOrSealed CellAt → TakenOrSealed ℕ
cell_or_sealed (S.Got at) = S.Got at.index
cell_or_sealed S.Empty = S.Empty
cell_or_sealed S.Sealed = S.Sealed
cell_or_sealed S.Busy = S.Busy
cell_or_sealed S.Worn = S.Worn

abbrev pub ReceivesAtOrSeals : {T : Type 0} → TakenOrSealed CellAt → Pooled T → Pooled T → Type 0
ReceivesAtOrSeals taken = ReceivesCellOrSeals (cell_or_sealed taken)

-- the number of the cell that was reserved
abbrev pub cell_reserved : Option CellAt → Option ℕ
cell_reserved (Some at) = Some at.index
cell_reserved None = None

-- the numbers of the cells of these tokens: token x has cell x - 1
abbrev pub cells_in : List ℕ → List ℕ
cells_in = map (λ token. token - 1)
