-- The fields of a log's lines.
use Rattle.std.specs.Prelude.{◌≡◌, ◌≢◌, ℕ, ◌^◌, ◌<◌, ◌≤◌, List, [], Option, Some, None, EachIndex, codes, length, min}
use Rattle.std.specs.Prelude.{slice_index}
use Rattle.std.specs.Int.{IsInRange}
use Rattle.std.specs.Str.Parse.{digits_value}
use Rattle.csv.specs.Records.{field_at}
use Rattle.kfifo_model.specs.declared.calls.Answer.{Answer}
use Rattle.kfifo_model.specs.declared.calls.Answer.TheVariants.{Done, Full, Got, Empty, Busy, Worn}
use Rattle.kfifo_model.specs.declared.calls.Call.{Call}
use Rattle.kfifo_model.specs.declared.calls.End.{End}
use Rattle.kfifo_model.specs.declared.calls.Op.{Op}
use Rattle.kfifo_model.specs.declared.calls.Op.TheVariants.{Enqueue, Dequeue}
use Rattle.kfifo_model.specs.Words.{answer_word, op_word}
use Rattle.kfifo_import.specs.declared.table.Columns.{Columns}
use Rattle.kfifo_import.specs.declared.wrong.Field.{Field}
use Rattle.kfifo_import.specs.declared.wrong.Field.TheVariants as fields

-- the name of a field in the header
abbrev pub name_of : Field → List ℕ
name_of fields.Thread = codes "thread"
name_of fields.Op = codes "op"
name_of fields.Item = codes "item"
name_of fields.First = codes "first"
name_of fields.Last = codes "last"
name_of fields.Answer = codes "answer"

-- a header has a field of this name at this place, and at no other
pub record IsOnlyAt (names : List (List ℕ)) (name : List ℕ) (place : ℕ) : Type 0 where
  pub here : field_at names place ≡ Some name
  pub alone : (other : ℕ) → field_at names other ≡ Some name → other ≡ place

-- the header has each of the six fields once, at its place
pub record HasColumns (names : List (List ℕ)) (columns : Columns) : Type 0 where
  pub thread : IsOnlyAt names (name_of fields.Thread) columns.thread
  pub op : IsOnlyAt names (name_of fields.Op) columns.op
  pub item : IsOnlyAt names (name_of fields.Item) columns.item
  pub first : IsOnlyAt names (name_of fields.First) columns.first
  pub last : IsOnlyAt names (name_of fields.Last) columns.last
  pub answer : IsOnlyAt names (name_of fields.Answer) columns.answer

-- each byte is a decimal digit
abbrev pub IsDigits : List ℕ → Type 0
IsDigits text = EachIndex text (λ i. IsInRange 48 57 (slice_index text i))

-- decimal digits write this number, which has at most 64 bits
pub record WritesWhole (text : List ℕ) (number : ℕ) : Type 0 where
  pub some : 1 ≤ length text
  pub digits : IsDigits text
  pub value : number ≡ digits_value 10 text
  pub fits : number < 2 ^ 64

-- a number as one of 32 bits: one of more bits, which is out of every range, is taken as the greatest
abbrev pub small : ℕ → ℕ
small number = min number 4294967295

-- decimal digits write this number as one of 32 bits
abbrev pub WritesSmall : List ℕ → ℕ → Type 0
WritesSmall text number = (whole : ℕ) × WritesWhole text whole × (number ≡ small whole)

-- a field that does not apply is empty, or is not there
abbrev pub DoesNotApply : Option (List ℕ) → Type 0
DoesNotApply None = Unit {0}
DoesNotApply (Some text) = text ≡ []

-- the text of a field, none where it does not apply
abbrev pub GivesText : Option (List ℕ) → Option (List ℕ) → Type 0
GivesText given None = DoesNotApply given
GivesText given (Some text) = (given ≡ Some text) × (1 ≤ length text)

-- the number of a field, none where it does not apply
abbrev pub Gives : (List ℕ → ℕ → Type 0) → Option (List ℕ) → Option ℕ → Type 0
Gives Writes given None = DoesNotApply given
Gives Writes given (Some number) = (text : List ℕ) × (given ≡ Some text) × Writes text number

-- the text of an operation, beside the item
abbrev pub IsOp : List ℕ → Option ℕ → Op → Type 0
IsOp text item (Enqueue x) = (text ≡ op_word (Enqueue x)) × (item ≡ Some x)
IsOp text item Dequeue = text ≡ op_word Dequeue

-- no enqueue has this answer
abbrev pub IsNoPutAnswer : List ℕ → Type 0
IsNoPutAnswer text = (text ≢ answer_word Done) × (text ≢ answer_word Full) × (text ≢ answer_word Busy)
    × (text ≢ answer_word Worn)

-- no dequeue that got nothing has this answer
abbrev pub IsNoTakeAnswer : List ℕ → Type 0
IsNoTakeAnswer text = (text ≢ answer_word (Got 0)) × (text ≢ answer_word Empty) × (text ≢ answer_word Busy)
    × (text ≢ answer_word Worn)

-- the text of an enqueue's answer; Empty, which no enqueue returns, stands for other texts
abbrev pub IsPutAnswer : List ℕ → Answer → Type 0
IsPutAnswer text Done = text ≡ answer_word Done
IsPutAnswer text Full = text ≡ answer_word Full
IsPutAnswer text (Got x) = ⊥
IsPutAnswer text Empty = IsNoPutAnswer text
IsPutAnswer text Busy = text ≡ answer_word Busy
IsPutAnswer text Worn = text ≡ answer_word Worn

-- the text of a dequeue's answer, beside the item; Done, which no dequeue returns, stands for other texts
abbrev pub IsTakeAnswer : List ℕ → Option ℕ → Answer → Type 0
IsTakeAnswer text item Done = IsNoTakeAnswer text × (item ≡ None)
IsTakeAnswer text item Full = ⊥
IsTakeAnswer text item (Got x) = (text ≡ answer_word (Got x)) × (item ≡ Some x)
IsTakeAnswer text item Empty = (text ≡ answer_word Empty) × (item ≡ None)
IsTakeAnswer text item Busy = (text ≡ answer_word Busy) × (item ≡ None)
IsTakeAnswer text item Worn = (text ≡ answer_word Worn) × (item ≡ None)

abbrev pub IsAnswer : Op → List ℕ → Option ℕ → Answer → Type 0
IsAnswer (Enqueue x) text item answer = IsPutAnswer text answer
IsAnswer Dequeue text item answer = IsTakeAnswer text item answer

-- an unfinished dequeue has no item
abbrev pub IsUnfinished : Op → Option ℕ → Type 0
IsUnfinished (Enqueue x) item = Unit {0}
IsUnfinished Dequeue item = item ≡ None

-- a call ends where it has a last time and an answer, and is unfinished where it has neither
abbrev pub IsEnd : Op → Option ℕ → Option (List ℕ) → Option ℕ → Option End → Type 0
IsEnd op last answer item (Some end) = (text : List ℕ) × (last ≡ Some end.last) × (answer ≡ Some text)
    × IsAnswer op text item end.answer
IsEnd op last answer item None = (last ≡ None) × (answer ≡ None) × IsUnfinished op item

-- The fields of a line are the call's, whose steps are times.
pub record IsCallOf (columns : Columns) (fields : List (List ℕ)) (c : Call) : Type 0 where
  pub thread : Gives WritesSmall (field_at fields columns.thread) (Some c.thread)
  pub first : Gives WritesWhole (field_at fields columns.first) (Some c.first)
  pub item : Option ℕ
  pub item_given : Gives WritesSmall (field_at fields columns.item) item
  pub last : Option ℕ
  pub last_given : Gives WritesWhole (field_at fields columns.last) last
  pub op_text : List ℕ
  pub op_given : field_at fields columns.op ≡ Some op_text
  pub op : IsOp op_text item c.op
  pub answer : Option (List ℕ)
  pub answer_given : GivesText (field_at fields columns.answer) answer
  pub end : IsEnd c.op last answer item c.end
