-- The texts of records.
use Rattle.std.specs.Prelude.{ℕ, ◌≡◌, ◌≢◌, ◌⊎◌, ◌<◌, ◌≤◌, ◌++◌, List, [], Option, None, IfSome, length, slice_index}
use Rattle.std.specs.Io.KnownBytes.{Consumes}
use Rattle.std.specs.Str.{IsUtf8}
use Rattle.serde_json.specs.Data.{Data}
use Rattle.serde_json.specs.Read.{read}
use Rattle.kfifo_judge.specs.declared.streams.TheConstants.{MAX_BYTES}
use Rattle.kfifo_judge.specs.declared.streams.Begun.{Begun}
use Rattle.kfifo_judge.specs.declared.streams.Begun.TheVariants.{Whole, Log}
use Rattle.kfifo_model.specs.declared.history.RecordFault.{RecordFault}
use Rattle.kfifo_model.specs.Records.{IsReadFault}
use Rattle.kfifo_model.specs.RecordTexts.{IsJson}

-- a space, a tab, a line feed or a carriage return
abbrev pub IsSpace : ℕ → Type 0
IsSpace byte = (byte ≡ 32) ⊎ (byte ≡ 9) ⊎ (byte ≡ 10) ⊎ (byte ≡ 13)

-- the first bytes, so many, are white space
abbrev pub AreSpaces : List ℕ → ℕ → Type 0
AreSpaces bytes count = (n : ℕ) → n < count → IsSpace (slice_index bytes n)

-- the first byte that is no white space stands there, or the text ends
pub record EndsSpaces (bytes : List ℕ) (place : ℕ) : Type 0 where
  pub inside : place ≤ length bytes
  pub spaces : AreSpaces bytes place
  pub other : place < length bytes → ¬ (IsSpace (slice_index bytes place))

-- The first byte that is no white space is `[`: the input is a record in JSON. Any other input with a byte is a log in
-- CSV.
pub record BeginsRecord (bytes : List ℕ) : Type 0 where
  pub place : ℕ
  pub inside : place < length bytes
  pub bracket : slice_index bytes place ≡ 91
  pub spaces : AreSpaces bytes place

-- the input is a record of over 16,777,216 bytes: a log may have any number
abbrev pub IsLongRecord : List ℕ → Type 0
IsLongRecord bytes = BeginsRecord bytes × (MAX_BYTES < length bytes)

-- whatever comes behind these bytes, of which there are some, they begin no record
abbrev pub BeginsLog : List ℕ → Type 0
BeginsLog bytes = (bytes ≢ []) × ((more : List ℕ) → ¬ (BeginsRecord (bytes ++ more)))

-- what was read of an input is all of it, and no record that is too long, or the first bytes of a log
abbrev pub IsBegun : Option (List ℕ) → Option (List ℕ) → Begun → Type 0
IsBegun before after (Whole bytes) = IfSome before (λ given. given ≡ bytes.items) × ¬ (IsLongRecord bytes.items)
IsBegun before after (Log bytes) = Consumes before after bytes.items × BeginsLog bytes.items

-- the bytes are no JSON text
abbrev pub IsNoJson : List ℕ → Type 0
IsNoJson bytes = (IsUtf8 bytes → ⊥) ⊎ (read bytes ≡ None)

-- the bytes are a JSON text whose first fault as a record is this one
abbrev pub IsFaultyText : List ℕ → RecordFault → Type 0
IsFaultyText bytes f = (d : Data) × IsJson bytes d × IsReadFault d f
