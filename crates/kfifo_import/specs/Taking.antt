-- What one row more does to a table, and why it is not taken.
use Rattle.std.specs.Prelude.{◌≡◌, ◌++◌, ◌∷◌, [], ◌<◌, ◌≤◌, ℕ, List, Option, Some, None, length}
use Rattle.kfifo_import.specs.declared.log.ImportFault.{ImportFault}
use Rattle.kfifo_import.specs.declared.log.ImportFault.TheVariants.{Csv, TooMany, NotACall, Memory}
use Rattle.kfifo_import.specs.declared.log.Line.{Line}
use Rattle.kfifo_import.specs.declared.table.Columns.{Columns}
use Rattle.kfifo_import.specs.declared.wrong.WrongField.{WrongField}
use Rattle.kfifo_import.specs.Fields.{HasColumns}
use Rattle.kfifo_import.specs.Rows.{Row}
use Rattle.kfifo_import.specs.Tables.{IsLineOf, IsNoCall, LacksColumns}
use Rattle.kfifo_import.specs.Wrong.{IsFirstWrong}

-- a row with these fields, which begins at this line
abbrev pub row_at : ℕ → List (List ℕ) → Row
row_at number fields = record { number = number; fields = fields }

-- a row is taken as the header, or as one more line of so many at most
abbrev pub Takes : ℕ → Option Columns → List Line → ℕ → List (List ℕ) → Option Columns → List Line → Type 0
Takes most None lines number fields None after = ⊥
Takes most None lines number fields (Some columns) after = HasColumns fields columns × (after ≡ lines)
Takes most (Some columns) lines number fields now after = (now ≡ Some columns) × (length lines < most)
    × (line : Line) × IsLineOf columns (length fields) (row_at number fields) line × (after ≡ lines ++ line ∷ [])

-- why a row is not taken
abbrev pub IsNotTaken : ℕ → Option Columns → List Line → ℕ → List (List ℕ) → ImportFault → Type 0
IsNotTaken most columns lines number fields Memory = Unit {0}
IsNotTaken most None lines number fields (Csv n) = (n ≡ number) × LacksColumns fields
IsNotTaken most None lines number fields _ = ⊥
IsNotTaken most (Some columns) lines number fields TooMany = most ≤ length lines
IsNotTaken most (Some columns) lines number fields (NotACall n) = (n ≡ number) × (length lines < most)
    × IsNoCall columns fields
IsNotTaken most (Some columns) lines number fields _ = ⊥

-- the wrong field that comes with a fault is the first one of the row, which is no call
abbrev pub IsWrongIn : Option Columns → ℕ → List (List ℕ) → Option WrongField → ImportFault → Type 0
IsWrongIn columns number fields None fault = Unit {0}
IsWrongIn (Some columns) number fields (Some wrong) (NotACall n) = (wrong.line ≡ number)
    × IsFirstWrong columns fields wrong.field wrong.allowed
IsWrongIn _ number fields (Some wrong) _ = ⊥
