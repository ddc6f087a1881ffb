-- Which field makes a line of a log no call.
use Rattle.std.specs.Prelude.{◌≡◌, ◌≢◌, ◌<◌, ◌⊎◌, ℕ, List, [], ◌∷◌, ◌++◌, Option, Some, None, codes, decimal}
use Rattle.std.specs.Prelude.{length}
use Rattle.csv.specs.Records.{field_at}
use Rattle.kfifo_model.specs.declared.calls.Answer.TheVariants as answers
use Rattle.kfifo_model.specs.declared.calls.Op.TheVariants as ops
use Rattle.kfifo_model.specs.Words.{answer_word, op_word}
use Rattle.kfifo_import.specs.declared.log.ImportFault.{ImportFault}
use Rattle.kfifo_import.specs.declared.log.ImportFault.TheVariants.{NotACall}
use Rattle.kfifo_import.specs.declared.log.Line.{Line}
use Rattle.kfifo_import.specs.declared.table.Columns.{Columns}
use Rattle.kfifo_import.specs.declared.wrong.Allowed.{Allowed}
use Rattle.kfifo_import.specs.declared.wrong.Allowed.TheVariants as may
use Rattle.kfifo_import.specs.declared.wrong.Field.{Field}
use Rattle.kfifo_import.specs.declared.wrong.Field.TheVariants.{Thread, Op, Item, First, Last, Answer}
use Rattle.kfifo_import.specs.declared.wrong.WrongField.{WrongField}
use Rattle.kfifo_import.specs.Fields.{WritesWhole, name_of}
use Rattle.kfifo_import.specs.Rows.{IsNextRow, Row}
use Rattle.kfifo_import.specs.Tables.{HasRead}

abbrev pub all_fields : List Field
all_fields = Thread ∷ Op ∷ Item ∷ First ∷ Last ∷ Answer ∷ []

-- the texts that are allowed, in words
abbrev pub words_of : Allowed → List ℕ
words_of may.Number = codes "allowed are whole numbers below 2^64"
words_of may.NumberOrNothing = codes "allowed are whole numbers below 2^64 and nothing"
words_of may.Nothing = codes "allowed is nothing, since the call got no item"
words_of may.Operation = codes "allowed are enq and deq"
words_of may.Answer = codes "allowed are done, full, got, empty, busy and worn"
words_of may.Anything = codes "allowed is any text"

-- what is said of a wrong field with this text
abbrev pub wrong_text : ℕ → Field → List ℕ → Allowed → List ℕ
wrong_text line field text allowed = codes "line " ++ decimal line ++ codes ": " ++ name_of field ++ codes " is "
    ++ text ++ codes ", " ++ words_of allowed

-- the place of a field in a line
abbrev pub column : Columns → Field → ℕ
column columns Thread = columns.thread
column columns Op = columns.op
column columns Item = columns.item
column columns First = columns.first
column columns Last = columns.last
column columns Answer = columns.answer

abbrev pub or_nothing : Option (List ℕ) → List ℕ
or_nothing None = []
or_nothing (Some text) = text

-- what stands at a place of a line, nothing behind its end
abbrev pub text_in : List (List ℕ) → ℕ → List ℕ
text_in fields place = or_nothing (field_at fields place)

abbrev pub IsWhole : List ℕ → Type 0
IsWhole text = (number : ℕ) × WritesWhole text number

-- a text is among those that are allowed
abbrev pub Fits : Allowed → List ℕ → Type 0
Fits may.Number text = IsWhole text
Fits may.NumberOrNothing text = (text ≡ []) ⊎ IsWhole text
Fits may.Nothing text = text ≡ []
Fits may.Operation text = (text ≡ op_word (ops.Enqueue 0)) ⊎ (text ≡ op_word ops.Dequeue)
Fits may.Answer text = text ≢ []
Fits may.Anything text = Unit {0}

-- An enqueue has an item, and a dequeue has one where it got it. Of no operation an item may be there or not.
abbrev pub IsItemRule : List ℕ → List ℕ → Allowed → Type 0
IsItemRule op answer may.Number = (op ≡ op_word (ops.Enqueue 0))
    ⊎ ((op ≡ op_word ops.Dequeue) × (answer ≡ answer_word (answers.Got 0)))
IsItemRule op answer may.Nothing = (op ≡ op_word ops.Dequeue) × (answer ≢ answer_word (answers.Got 0))
IsItemRule op answer may.NumberOrNothing = (op ≢ op_word (ops.Enqueue 0)) × (op ≢ op_word ops.Dequeue)
IsItemRule op answer _ = ⊥

-- a call with an answer has a last time
abbrev pub IsLastRule : List ℕ → Allowed → Type 0
IsLastRule answer may.Number = answer ≢ []
IsLastRule answer may.NumberOrNothing = answer ≡ []
IsLastRule answer _ = ⊥

-- a call with a last time has an answer
abbrev pub IsAnswerRule : List ℕ → Allowed → Type 0
IsAnswerRule last may.Answer = last ≢ []
IsAnswerRule last may.Anything = last ≡ []
IsAnswerRule last _ = ⊥

-- what a field of a line may hold
abbrev pub IsRule : Columns → List (List ℕ) → Field → Allowed → Type 0
IsRule columns fields Thread allowed = allowed ≡ may.Number
IsRule columns fields Op allowed = allowed ≡ may.Operation
IsRule columns fields Item allowed = IsItemRule (text_in fields columns.op) (text_in fields columns.answer) allowed
IsRule columns fields First allowed = allowed ≡ may.Number
IsRule columns fields Last allowed = IsLastRule (text_in fields columns.answer) allowed
IsRule columns fields Answer allowed = IsAnswerRule (text_in fields columns.last) allowed

-- a field holds what it may
abbrev pub FitsRule : Columns → List (List ℕ) → Field → Type 0
FitsRule columns fields field = (allowed : Allowed) × IsRule columns fields field allowed
    × Fits allowed (text_in fields (column columns field))

-- a field may hold this alone, and does not
abbrev pub Misses : Columns → List (List ℕ) → Field → Allowed → Type 0
Misses columns fields field allowed = IsRule columns fields field allowed
    × ¬ (Fits allowed (text_in fields (column columns field)))

-- it is the first one in the order of the header
abbrev pub IsFirstWrong : Columns → List (List ℕ) → Field → Allowed → Type 0
IsFirstWrong columns fields field allowed = Misses columns fields field allowed
    × ((other : Field) → column columns other < column columns field → FitsRule columns fields other)

-- The row comes behind a header with these columns and lines that are calls, and is as wide as the header.
pub record IsRowBehind (text : List ℕ) (columns : Columns) (row : Row) : Type 0 where
  pub width : ℕ
  pub lines : List Line
  pub rest : List ℕ
  pub read : HasRead text columns width lines rest
  pub next : IsNextRow text rest row
  pub is_wide : length row.fields ≡ width

-- the line that is the first of a text to be no call has this number and this field, the first wrong one
abbrev pub IsWrongField : List ℕ → ℕ → Field → Allowed → Type 0
IsWrongField text line field allowed = (columns : Columns) × (row : Row) × IsRowBehind text columns row
    × (line ≡ row.number) × IsFirstWrong columns row.fields field allowed

-- what comes beside a fault: the wrong field of the line that is no call, or nothing
abbrev pub TellsWrong : List ℕ → Option WrongField → ImportFault → Type 0
TellsWrong text None fault = Unit {0}
TellsWrong text (Some wrong) (NotACall n) = (wrong.line ≡ n) × IsWrongField text wrong.line wrong.field wrong.allowed
TellsWrong text (Some wrong) _ = ⊥
