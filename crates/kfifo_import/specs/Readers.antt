-- How far a reader has read a log. Whatever comes after the bytes that it has taken is left.
use Rattle.std.specs.Prelude.{◌≡◌, ◌≤◌, ◌<◌, ◌++◌, ℕ, List, Option, Some, None, length, option_map}
use Rattle.csv.specs.Reading.{strip_bom}
use Rattle.kfifo_import.specs.declared.reader.LogReader.{LogReader}
use Rattle.kfifo_import.specs.declared.wrong.Refusal.{Refusal}
use Rattle.kfifo_import.specs.Rows.{first_row}
use Rattle.kfifo_import.specs.Spots.{Stands}
use Rattle.kfifo_import.specs.Tables.{Holds, IsTextFault}
use Rattle.kfifo_import.specs.Wrong.{TellsWrong}

-- Of a text without a byte order mark, some rows are in the table, and the next one was taken up to what is left.
pub record Reads (r : LogReader) (text left : List ℕ) : Type 0 where
  pub rest : List ℕ
  pub row : Stands r.row text rest left
  pub holds : Holds text r.table.columns r.table.lines.items r.width rest
  pub few : length r.table.lines.items ≤ r.most

-- The whole text was read: some rows are in the table, and behind them comes none.
pub record HasReadAll (r : LogReader) (text : List ℕ) : Type 0 where
  pub rest : List ℕ
  pub holds : Holds text r.table.columns r.table.lines.items r.width rest
  pub few : length r.table.lines.items ≤ r.most
  pub ended : first_row rest ≡ None

-- the bytes that may be part of a byte order mark are held back
abbrev pub ReadsBehind : Option (List ℕ) → LogReader → List ℕ → List ℕ → Type 0
ReadsBehind None r text left = Reads r (strip_bom text) left
ReadsBehind (Some head) r text left = (text ≡ head ++ left) × (length head < 3) × ((any : List ℕ) → Reads r any any)

-- Of a text the reader took what comes before the bytes that are left, and these may be any.
abbrev pub IsReading : LogReader → List ℕ → List ℕ → Type 0
IsReading r text left = ReadsBehind (option_map (λ head. head.items) r.head) r text left

-- the text is refused, by its first fault
abbrev pub Refuses : ℕ → List ℕ → Refusal → Type 0
Refuses most text refusal = IsTextFault most text refusal.fault × TellsWrong text refusal.wrong refusal.fault
