-- The texts of records, and the one that is written: compact JSON in one line, the keys of each call in order of bytes.
use Rattle.std.specs.Prelude.{ℕ, ◌≡◌, List, [], ◌∷◌, ◌++◌, map, Option, Some, None, option_map, codes}
use Rattle.std.specs.Str.{IsUtf8}
use Rattle.serde_json.specs.Data.{Data, number, unsigned, string, array, object, Members, no_members, member}
use Rattle.serde_json.specs.Read.{read}
use Rattle.serde_json.specs.View.{items_of}
use Rattle.serde_json.specs.Written.{compact_text}
use Rattle.kfifo_model.specs.declared.calls.Answer.{Answer}
use Rattle.kfifo_model.specs.declared.calls.Answer.TheVariants.{Done, Full, Got, Empty, Busy, Worn}
use Rattle.kfifo_model.specs.declared.calls.Call.{Call}
use Rattle.kfifo_model.specs.declared.calls.End.{End}
use Rattle.kfifo_model.specs.declared.calls.Op.{Op}
use Rattle.kfifo_model.specs.declared.calls.Op.TheVariants.{Enqueue, Dequeue}
use Rattle.kfifo_model.specs.Records.{IsRecordOf}
use Rattle.kfifo_model.specs.Validity.{IsHistory}
use Rattle.kfifo_model.specs.Words.{answer_word, op_word}

-- the item that an answer gives
abbrev pub item_got : Answer → Option ℕ
item_got Done = None
item_got Full = None
item_got (Got item) = Some item
item_got Empty = None
item_got Busy = None
item_got Worn = None

-- the item that a call puts, or that it got
abbrev pub item_of : Op → Option End → Option ℕ
item_of (Enqueue item) end = Some item
item_of Dequeue None = None
item_of Dequeue (Some end) = item_got end.answer

abbrev pub whole : ℕ → Data
whole n = number (unsigned n)

-- a member before others, where there is something to say
abbrev pub member_if : List ℕ → Option Data → Members → Members
member_if key None others = others
member_if key (Some value) others = member key value others

-- the object of a call
abbrev pub call_value : Call → Data
call_value c = object
    (member_if (codes "answer") (option_map (λ (e : End). string (answer_word e.answer)) c.end)
    (member (codes "first") (whole c.first)
    (member_if (codes "item") (option_map whole (item_of c.op c.end))
    (member_if (codes "last") (option_map (λ (e : End). whole e.last) c.end)
    (member (codes "op") (string (op_word c.op))
    (member (codes "thread") (whole c.thread) no_members))))))

-- the array of calls
abbrev pub record_value : List Call → Data
record_value calls = array (items_of (map call_value calls))

-- The text of a record
abbrev pub record_text : List Call → List ℕ
record_text calls = compact_text (record_value calls)

-- a line ends with a line feed
abbrev pub line : List ℕ → List ℕ
line text = text ++ 10 ∷ []

-- the bytes are a JSON text of this value
abbrev pub IsJson : List ℕ → Data → Type 0
IsJson bytes d = IsUtf8 bytes × (read bytes ≡ Some d)

-- The bytes are the record of this history.
pub record IsRecordText (bytes : List ℕ) (h : List Call) : Type 0 where
  pub value : Data
  pub json : IsJson bytes value
  pub calls : IsRecordOf value h
  pub valid : IsHistory h
