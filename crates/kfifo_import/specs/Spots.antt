-- How a reader of rows goes over a text, as the state machine of `csv` does. Whatever comes after the bytes that it has
-- taken is left: a clause holds for any text that goes on behind them.
use Rattle.std.specs.Prelude.{◌≡◌, ◌≢◌, ◌≤◌, ◌<◌, ◌+◌, ◌-◌, ◌==◌, ◌||◌, ⊤, true, false, ℕ, Bool, List, [], ◌∷◌, ◌++◌}
use Rattle.std.specs.Prelude.{None, Some, drop, length, take}
use Rattle.csv.specs.Machine.{next_record}
use Rattle.csv.specs.Reading.{default_config}
use Rattle.csv.specs.Records.{fields_of, partial_of}
use Rattle.csv.specs.declared.parser.State.{State}
use Rattle.csv.specs.declared.parser.State.TheVariants as st
use Rattle.kfifo_import.specs.Rows.{behind_ends, first_row, line_feeds}
use Rattle.kfifo_import.specs.declared.walk.RowReader.{RowReader}
use Rattle.kfifo_import.specs.declared.walk.Spot.{Spot}
use Rattle.kfifo_import.specs.declared.walk.Spot.TheVariants as spots

-- whether a byte ends a line
abbrev pub ends_line : ℕ → Bool
ends_line byte = (byte == 13) || (byte == 10)

-- whether a byte ends a field without quotation marks
abbrev pub ends_field : ℕ → Bool
ends_field byte = (byte == 44) || ends_line byte

-- none of these bytes ends a field without quotation marks
unfoldable pub ArePlain : List ℕ → Type 0
ArePlain [] = ⊤
ArePlain (byte ∷ rest) = (ends_field byte ≡ false) × ArePlain rest

-- the bytes from a place to another
abbrev pub part : List ℕ → ℕ → ℕ → List ℕ
part text at end = take (end - at) (drop at text)

-- the state of the machine at a spot; where the row has ended there is none
abbrev pub state_at : Spot → State
state_at spots.Row = st.StartRecord
state_at spots.Field = st.StartField
state_at spots.Plain = st.InField
state_at spots.Quoted = st.InQuoted
state_at spots.Quote = st.AfterQuote
state_at spots.Over = st.StartRecord

-- The row at the front of a rest of the text was taken up to what is left. It has ended with these fields; or it goes
-- on with these fields, and these bytes of the field that has not ended.
abbrev pub Goes : Spot → List (List ℕ) → List ℕ → List ℕ → List ℕ → Type 0
Goes spots.Over fields bytes rest left = (s : State) × (first_row rest ≡ Some (fields, s, left)) × (bytes ≡ [])
Goes spot fields bytes rest left = first_row rest ≡ next_record default_config (state_at spot) fields bytes left

-- the row begins in this line, if it has begun
abbrev pub BeginsIn : Spot → ℕ → List ℕ → List ℕ → List ℕ → Type 0
BeginsIn spots.Row front text rest left = behind_ends rest ≡ behind_ends left
BeginsIn _ front text rest left = (1 ≤ front) × (front + line_feeds (behind_ends rest) ≡ line_feeds text + 1)

-- Of a text, the row that begins with the rest was taken up to what is left.
pub record StandsAt (spot : Spot) (fields : List (List ℕ)) (some bytes : List ℕ) (line front : ℕ)
    (text rest left : List ℕ) : Type 0 where
  pub goes : Goes spot fields bytes rest left
  pub none : some ≡ []
  pub first : 1 ≤ line
  pub counts : line + line_feeds left ≡ line_feeds text + 1
  pub begins : BeginsIn spot front text rest left

-- the same of a reader
abbrev pub Stands : RowReader → List ℕ → List ℕ → List ℕ → Type 0
Stands r text rest left =
    StandsAt r.spot (fields_of r.row) (partial_of r.row) r.field.items r.line r.front text rest left

-- a byte can be taken at a spot: between rows, one that ends a line
abbrev pub CanTake : Spot → ℕ → Type 0
CanTake spots.Row byte = ends_line byte ≡ true
CanTake spots.Over byte = ⊥
CanTake _ byte = ⊤

-- a byte is the next of a field without quotation marks, or ends a field
abbrev pub MayBePlain : Spot → ℕ → Type 0
MayBePlain spots.Field byte = (byte == 34) ≡ false
MayBePlain spots.Plain byte = ⊤
MayBePlain spots.Quote byte = (byte == 34) ≡ false
MayBePlain _ byte = ⊥

-- a byte is none of those: an end of a line between rows, a quotation mark, or one between quotation marks
abbrev pub IsMarked : Spot → ℕ → Type 0
IsMarked spots.Row byte = ends_line byte ≡ true
IsMarked spots.Field byte = (byte == 34) ≡ true
IsMarked spots.Quoted byte = ⊤
IsMarked spots.Quote byte = (byte == 34) ≡ true
IsMarked _ byte = ⊥

-- a reader took these bytes, whatever comes after them
abbrev pub HasTaken : RowReader → RowReader → List ℕ → List ℕ → Type 0
HasTaken before after bytes left = (text rest : List ℕ) → Stands before text rest bytes → Stands after text rest left

-- a reader took a part of these bytes, up to this place
pub record TakesTo (before after : RowReader) (bytes : List ℕ) (at end : ℕ) : Type 0 where
  pub some : at < end
  pub within : end ≤ length bytes
  pub taken : (more : List ℕ) → HasTaken before after (drop at bytes ++ more) (drop end bytes ++ more)

-- a reader went on behind a byte that ended a field, which is the last of the fields that have ended
abbrev pub Parts : RowReader → RowReader → ℕ → Type 0
Parts before after byte = (fields : List (List ℕ)) (bytes text rest left : List ℕ)
    → fields_of before.row ≡ fields ++ bytes ∷ [] → partial_of before.row ≡ [] → before.field.items ≡ []
    → StandsAt spots.Plain fields [] bytes before.line before.front text rest (byte ∷ left)
    → Stands after text rest left

-- the row has not ended
abbrev pub IsOpen : RowReader → Type 0
IsOpen r = r.spot ≢ spots.Over

-- at the end of the text the row ends, or there is none
pub record EndsThere (before after : RowReader) (text rest : List ℕ) : Type 0 where
  pub row : after.spot ≡ spots.Over → Stands after text rest []
  pub none : IsOpen after → first_row rest ≡ None
