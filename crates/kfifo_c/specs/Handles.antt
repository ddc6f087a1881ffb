-- Handles, as clauses see them.
use Rattle.std.specs.Prelude.{◌≡◌, ◌<◌, ℕ, Option, None, List, map, length, get_or}
use Rattle.kfifo_c.specs.Behind.{Behind, cells_in, items_in, values_in}
use Rattle.kfifo_c.specs.CellSeats.{CellSeated}
use Rattle.kfifo_c.specs.Fields.{AreZero, Fields}
use Rattle.kfifo_c.specs.Seats.{Seated}
use Rattle.kfifo_c.specs.ValueSeats.{ValueSeated}
use Rattle.kfifo_c.specs.declared.handle.Handle.{Handle}

-- what is behind each of these handles
abbrev pub behind : List Handle → List (Option Behind)
behind = map (λ handle. handle.held.value)

-- as handles of one kind: one of another kind counts as closed
abbrev pub items_behind : List Handle → List (Option Seated)
items_behind handles = map items_in (behind handles)

abbrev pub values_behind : List Handle → List (Option ValueSeated)
values_behind handles = map values_in (behind handles)

abbrev pub cells_behind : List Handle → List (Option CellSeated)
cells_behind handles = map cells_in (behind handles)

-- what stands in a handle
abbrev pub fields_of : Handle → Fields
fields_of handle = record {
  inside = handle.held.at;
  address = handle.address;
  starts = handle.starts;
  kind = handle.kind;
  mark = handle.mark;
  size = handle.size;
  alignment = handle.alignment;
}

-- and in each of these
abbrev pub all_fields : List Handle → List Fields
all_fields = map (λ handle. fields_of handle)

-- the handle is closed
abbrev pub IsClosed : Handle → Type 0
IsClosed handle = (handle.held.value ≡ None) × AreZero (fields_of handle)

-- A handle of this kind was closed. One that is closed, or of another kind, is as it was
abbrev pub WasClosed : ℕ → Handle → Handle → Type 0
WasClosed kind old new = (old.kind ≡ kind → IsClosed new) × (¬ (old.kind ≡ kind) → new ≡ old)

-- each of these was
abbrev pub WereClosed : ℕ → List Handle → List Handle → Type 0
WereClosed kind old new = (length new ≡ length old)
    × ((i : ℕ) (d : Handle) → i < length old → WasClosed kind (get_or old i d) (get_or new i d))
