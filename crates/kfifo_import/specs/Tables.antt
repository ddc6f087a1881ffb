-- What a log in CSV gives.
use Rattle.std.specs.Prelude.{◌≡◌, ◌≢◌, ◌<◌, ◌⊎◌, ℕ, List, [], ◌∷◌, Option, Some, None, length}
use Rattle.kfifo_model.specs.declared.reading.TheConstants.{MAX_CALLS}
use Rattle.csv.specs.Reading.{strip_bom}
use Rattle.csv.specs.Records.{field_at}
use Rattle.kfifo_model.specs.declared.calls.Call.{Call}
use Rattle.kfifo_import.specs.declared.log.ImportFault.{ImportFault}
use Rattle.kfifo_import.specs.declared.log.ImportFault.TheVariants.{Csv, TooMany, NotACall, NumberOutOfRange}
use Rattle.kfifo_import.specs.declared.log.ImportFault.TheVariants.{WrongAnswer, EndsEarly, Overlap, Memory}
use Rattle.kfifo_import.specs.declared.log.Line.{Line}
use Rattle.kfifo_model.specs.declared.logged.LoggedCall.{LoggedCall}
use Rattle.kfifo_import.specs.declared.table.Columns.{Columns}
use Rattle.kfifo_import.specs.Fields.{Gives, HasColumns, IsCallOf, WritesWhole}
use Rattle.kfifo_import.specs.Logs.{IsImportFault, IsLogOf}
use Rattle.kfifo_import.specs.Rows.{AreRows, IsNextRow, Row, first_row}

-- a line has the number, the call and the item of a row, which has as many fields as the header
abbrev pub IsLineOf : Columns → ℕ → Row → Line → Type 0
IsLineOf columns width row line = (length row.fields ≡ width) × (line.number ≡ row.number)
    × IsCallOf columns row.fields line.call
    × Gives WritesWhole (field_at row.fields columns.item) line.item

-- each line is one of the row in its place
abbrev pub AreLines : Columns → ℕ → List Row → List Line → Type 0
AreLines columns width [] [] = Unit {0}
AreLines columns width [] (line ∷ lines) = ⊥
AreLines columns width (row ∷ rows) [] = ⊥
AreLines columns width (row ∷ rows) (line ∷ lines) = IsLineOf columns width row line × AreLines columns width rows lines

-- A text was read up to this rest: a header, so many fields wide and with the six fields in these columns alone, and a
-- row for each of these lines.
pub record HasRead (text : List ℕ) (columns : Columns) (width : ℕ) (lines : List Line) (rest : List ℕ) : Type 0 where
  pub header : Row
  pub rows : List Row
  pub are_rows : AreRows text text (header ∷ rows) rest
  pub is_wide : length header.fields ≡ width
  pub has_columns : HasColumns header.fields columns
  pub are_lines : AreLines columns width rows lines

-- what was read of a text so far: nothing, or a header, which is as wide as a row must be, and lines
abbrev pub Holds : List ℕ → Option Columns → List Line → Option ℕ → List ℕ → Type 0
Holds text None lines wide rest = (rest ≡ text) × (lines ≡ []) × (wide ≡ None)
Holds text (Some columns) lines wide rest = (width : ℕ) × (wide ≡ Some width) × HasRead text columns width lines rest

-- The lines are those of a table in CSV: a header with the six fields, and below it a row for each line, with its
-- number and its call. A byte order mark is no part of the table.
pub record ReadsLog (bytes : List ℕ) (lines : List Line) : Type 0 where
  pub columns : Columns
  pub width : ℕ
  pub rest : List ℕ
  pub read : HasRead (strip_bom bytes) columns width lines rest
  pub ended : first_row rest ≡ None

-- this header does not have each of the six fields once
abbrev pub LacksColumns : List (List ℕ) → Type 0
LacksColumns names = (columns : Columns) → ¬ (HasColumns names columns)

-- no call has these fields
abbrev pub IsNoCall : Columns → List (List ℕ) → Type 0
IsNoCall columns fields = (c : Call) → ¬ (IsCallOf columns fields c)

-- what is wrong with a row that comes behind these lines, where so many lines may be there at most
abbrev pub IsRowFault : ℕ → Columns → ℕ → List Line → Row → ImportFault → Type 0
IsRowFault most columns width lines row (Csv n) = (n ≡ row.number) × (length row.fields ≢ width)
IsRowFault most columns width lines row TooMany = (length row.fields ≡ width) × (length lines ≡ most)
IsRowFault most columns width lines row (NotACall n) = (n ≡ row.number) × (length row.fields ≡ width)
    × (length lines < most)
    × IsNoCall columns row.fields
IsRowFault most columns width lines row _ = ⊥

-- The first row of a text that has a fault has this one: the rows before it are a header and lines.
pub record IsFirstFault (most : ℕ) (text : List ℕ) (fault : ImportFault) : Type 0 where
  pub columns : Columns
  pub width : ℕ
  pub lines : List Line
  pub rest : List ℕ
  pub read : HasRead text columns width lines rest
  pub row : Row
  pub next : IsNextRow text rest row
  pub is : IsRowFault most columns width lines row fault

-- a text has no header: its first row, at this line, lacks a field or has one twice, or it has no row, which is said of
-- line 1
abbrev pub HasNoHeader : List ℕ → ℕ → Type 0
HasNoHeader text n = ((row : Row) × IsNextRow text text row × (n ≡ row.number) × LacksColumns row.fields)
    ⊎ ((first_row text ≡ None) × (n ≡ 1))

-- a fault that comes before records' faults, where so many lines may be there at most
abbrev pub IsTextFault : ℕ → List ℕ → ImportFault → Type 0
IsTextFault most text (Csv n) = HasNoHeader text n ⊎ IsFirstFault most text (Csv n)
IsTextFault most text TooMany = IsFirstFault most text TooMany
IsTextFault most text (NotACall n) = IsFirstFault most text (NotACall n)
IsTextFault most text Memory = Unit {0}
IsTextFault most text _ = ⊥

-- The history is the record of the lines of a text, and its calls stand in it and were as these say.
pub record IsReadLog (bytes : List ℕ) (h : List Call) (calls : List LoggedCall) : Type 0 where
  pub lines : List Line
  pub read : ReadsLog bytes lines
  pub log : IsLogOf lines h calls

-- the history is the record of a text
abbrev pub IsImported : List ℕ → List Call → Type 0
IsImported bytes h = (calls : List LoggedCall) × IsReadLog bytes h calls

-- the lines of a text have this fault
abbrev pub IsOfLines : List ℕ → ImportFault → Type 0
IsOfLines bytes fault = (lines : List Line) × ReadsLog bytes lines × IsImportFault lines fault

-- why a text gives no log of so many lines at most: the first fault of its rows, or the first of its lines, whose rows
-- have none
abbrev pub IsNoLog : ℕ → List ℕ → ImportFault → Type 0
IsNoLog most bytes (Csv n) = IsTextFault most (strip_bom bytes) (Csv n)
IsNoLog most bytes TooMany = IsTextFault most (strip_bom bytes) TooMany
IsNoLog most bytes (NotACall n) = IsTextFault most (strip_bom bytes) (NotACall n)
IsNoLog most bytes (NumberOutOfRange n) = IsOfLines bytes (NumberOutOfRange n)
IsNoLog most bytes (WrongAnswer n) = IsOfLines bytes (WrongAnswer n)
IsNoLog most bytes (EndsEarly n) = IsOfLines bytes (EndsEarly n)
IsNoLog most bytes (Overlap n) = IsOfLines bytes (Overlap n)
IsNoLog most bytes Memory = Unit {0}

-- why a text gives no record
abbrev pub IsUnimported : List ℕ → ImportFault → Type 0
IsUnimported bytes fault = IsNoLog MAX_CALLS bytes fault
