-- Records of histories: JSON arrays whose members are objects, one for each call.
use Rattle.std.specs.Prelude.{ℕ, ◌≡◌, ◌^◌, ◌<◌, ◌≤◌, ◌&&◌, ◌||◌, Bool, true, false, not, if◌then◌else◌, nat_lt}
use Rattle.std.specs.Prelude.{List, [], ◌∷◌, ◌++◌, Option, Some, None, Result, Ok, Err, length, codes, slice_index_or}
use Rattle.std.specs.Prelude.{option_and_then}
use Rattle.std.specs.Option.{option_map}
use Rattle.std.specs.Str.{bytes_eq}
use Rattle.kfifo_model.specs.declared.calls.TheConstants.{MAX_THREADS}
use Rattle.kfifo_model.specs.declared.reading.TheConstants.{MAX_CALLS}
use Rattle.serde_json.specs.Data.{Data, null, boolean, number, string, array, object, Items, no_items, item, Members}
use Rattle.serde_json.specs.Data.{no_members, member}
use Rattle.serde_json.specs.Find.{get, as_number, as_u64, as_str, as_array}
use Rattle.kfifo_model.specs.declared.calls.Op.{Op}
use Rattle.kfifo_model.specs.declared.calls.Op.TheVariants as ops
use Rattle.kfifo_model.specs.declared.calls.Answer.{Answer}
use Rattle.kfifo_model.specs.declared.calls.Answer.TheVariants as answers
use Rattle.kfifo_model.specs.declared.calls.End.{End}
use Rattle.kfifo_model.specs.declared.calls.Call.{Call}
use Rattle.kfifo_model.specs.declared.history.RecordFault.{RecordFault}
use Rattle.kfifo_model.specs.declared.history.RecordFault.TheVariants as faults
use Rattle.kfifo_model.specs.declared.spellings.OpWord.{OpWord}
use Rattle.kfifo_model.specs.declared.spellings.OpWord.TheVariants.{Enq, Deq}
use Rattle.kfifo_model.specs.declared.spellings.AnswerWord.{AnswerWord}
use Rattle.kfifo_model.specs.declared.spellings.AnswerWord.TheVariants.{Done, Full, Got, Empty, Busy, Worn, Other}
use Rattle.kfifo_model.specs.declared.reading.Ending.{Ending}
use Rattle.kfifo_model.specs.declared.reading.Entry.{Entry}
use Rattle.kfifo_model.specs.declared.reading.Flaw.{Flaw}
use Rattle.kfifo_model.specs.declared.reading.Flaw.TheVariants as flaws
use Rattle.kfifo_model.specs.Histories.{call}
use Rattle.kfifo_model.specs.Validity.{IsHistory, IsFault}
use Rattle.kfifo_model.specs.Words.{IsAnswerWord, op_text}

-- ---- one object

abbrev pub is_key : List ℕ → Bool
is_key k =
    bytes_eq k (codes "thread") || (bytes_eq k (codes "op")
    || (bytes_eq k (codes "item") || (bytes_eq k (codes "first")
    || (bytes_eq k (codes "last") || bytes_eq k (codes "answer")))))

abbrev pub are_keys : Members → Bool
are_keys no_members = true
are_keys (member k d ms) = is_key k && are_keys ms

-- an object with no other keys
abbrev pub has_known_keys : Data → Bool
has_known_keys null = false
has_known_keys (boolean b) = false
has_known_keys (number n) = false
has_known_keys (string s) = false
has_known_keys (array ds) = false
has_known_keys (object ms) = are_keys ms

-- the whole number from 0 to 2^64 - 1 at a key
abbrev pub number_at : List ℕ → Data → Option ℕ
number_at key d = option_and_then as_u64 (option_and_then as_number (get key d))

abbrev pub text_at : List ℕ → Data → Option (List ℕ)
text_at key d = option_and_then as_str (get key d)

-- this number is at the key, or the key is not there
abbrev pub HasNumber : List ℕ → Data → Option ℕ → Type 0
HasNumber key d None = get key d ≡ None
HasNumber key d (Some n) = number_at key d ≡ Some n

abbrev pub HasOp : Data → OpWord → Type 0
HasOp d w = text_at (codes "op") d ≡ Some (op_text w)

-- `last` and `answer` stand both or neither
abbrev pub HasEnding : Data → Option Ending → Type 0
HasEnding d None = (get (codes "last") d ≡ None) × (get (codes "answer") d ≡ None)
HasEnding d (Some e) = (number_at (codes "last") d ≡ Some e.last) × (t : List ℕ) × (text_at (codes "answer") d ≡ Some t)
    × IsAnswerWord t e.answer

abbrev pub is_got_word : AnswerWord → Bool
is_got_word Done = false
is_got_word Full = false
is_got_word Got = true
is_got_word Empty = false
is_got_word Busy = false
is_got_word Worn = false
is_got_word Other = false

abbrev pub is_got : Option Ending → Bool
is_got None = false
is_got (Some e) = is_got_word e.answer

-- an item stands in each enqueue, and in a dequeue exactly where the answer is `got`
abbrev pub item_fits : OpWord → Option Ending → Option ℕ → Bool
item_fits Enq e (Some x) = true
item_fits Enq e None = false
item_fits Deq e (Some x) = is_got e
item_fits Deq e None = not (is_got e)

-- The object says this.
pub record IsEntry (d : Data) (e : Entry) : Type 0 where
  pub keys : has_known_keys d ≡ true
  pub thread : number_at (codes "thread") d ≡ Some e.thread
  pub op : HasOp d e.op
  pub first : number_at (codes "first") d ≡ Some e.first
  pub item : HasNumber (codes "item") d e.item
  pub ending : HasEnding d e.ending
  pub fits : item_fits e.op e.ending e.item ≡ true

-- ---- the call that an object says

abbrev pub is_item_number : Option ℕ → Bool
is_item_number None = true
is_item_number (Some x) = nat_lt 0 x && nat_lt x (2 ^ 24)

abbrev pub is_in_range : Entry → Bool
is_in_range e = nat_lt e.thread MAX_THREADS && is_item_number e.item

-- the answer, where it is one of the operation's
abbrev pub answer_of : OpWord → AnswerWord → Option ℕ → Option Answer
answer_of Enq Done x = Some answers.Done
answer_of Enq Full x = Some answers.Full
answer_of Enq Got x = None
answer_of Enq Empty x = None
answer_of Enq Busy x = Some answers.Busy
answer_of Enq Worn x = Some answers.Worn
answer_of Enq Other x = None
answer_of Deq Done x = None
answer_of Deq Full x = None
answer_of Deq Got (Some x) = Some (answers.Got x)
answer_of Deq Got None = None
answer_of Deq Empty x = Some answers.Empty
answer_of Deq Busy x = Some answers.Busy
answer_of Deq Worn x = Some answers.Worn
answer_of Deq Other x = None

abbrev pub op_of : OpWord → Option ℕ → Op
op_of Enq (Some x) = ops.Enqueue x
op_of Enq None = ops.Dequeue
op_of Deq x = ops.Dequeue

abbrev pub ending_of : OpWord → Option Ending → Option ℕ → Option (Option End)
ending_of w None x = Some None
ending_of w (Some e) x = option_map (λ a. Some (record { last = e.last; answer = a })) (answer_of w e.answer x)

abbrev pub with_ending : Entry → Option (Option End) → Result Call Flaw
with_ending e None = Err flaws.WrongAnswer
with_ending e (Some end) = Ok (record { thread = e.thread; op = op_of e.op e.item; first = e.first; end = end })

abbrev pub call_of : Entry → Result Call Flaw
call_of e = if is_in_range e then with_ending e (ending_of e.op e.ending e.item) else Err flaws.NumberOutOfRange

-- an object is read as a call, or has a flaw
abbrev pub IsRead : Data → Result Call Flaw → Type 0
IsRead d (Ok c) = (e : Entry) × IsEntry d e × (call_of e ≡ Ok c)
IsRead d (Err flaws.NotACall) = (e : Entry) → IsEntry d e → ⊥
IsRead d (Err flaws.NumberOutOfRange) = (e : Entry) × IsEntry d e × (call_of e ≡ Err flaws.NumberOutOfRange)
IsRead d (Err flaws.WrongAnswer) = (e : Entry) × IsEntry d e × (call_of e ≡ Err flaws.WrongAnswer)

-- ---- a whole record

abbrev pub list_of : Items → List Data
list_of no_items = []
list_of (item d ds) = d ∷ list_of ds

-- the members of an array
abbrev pub members : Data → Option (List Data)
members d = option_map list_of (as_array d)

abbrev pub at : List Data → ℕ → Data
at ds n = slice_index_or ds n null

-- the first calls of a record
abbrev pub AreRead : List Data → List Call → Type 0
AreRead ds h = (n : ℕ) → n < length h → IsRead (at ds n) (Ok (call h n))

-- The members before n are the calls of a history.
pub record IsReadTo (ds : List Data) (n : ℕ) (h : List Call) : Type 0 where
  pub inside : n < length ds
  pub sized : length h ≡ n
  pub read : AreRead ds h
  pub valid : IsHistory h

-- member n has this flaw, and no member before it has a fault
abbrev pub HasFlaw : List Data → ℕ → Flaw → Type 0
HasFlaw ds n f = (h : List Call) × IsReadTo ds n h × IsRead (at ds n) (Err f)

-- member n is a call that with those before it has this fault
abbrev pub HasFault : List Data → ℕ → RecordFault → Type 0
HasFault ds n f = (h : List Call) × (c : Call) × IsReadTo ds n h × IsRead (at ds n) (Ok c) × IsFault (h ++ c ∷ []) f

-- the first fault of the members
abbrev pub IsMemberFault : List Data → RecordFault → Type 0
IsMemberFault ds faults.NotAList = ⊥
IsMemberFault ds faults.TooMany = ⊥
IsMemberFault ds (faults.NotACall n) = HasFlaw ds n flaws.NotACall
IsMemberFault ds (faults.NumberOutOfRange n) = HasFlaw ds n flaws.NumberOutOfRange
IsMemberFault ds (faults.WrongAnswer n) = HasFlaw ds n flaws.WrongAnswer
IsMemberFault ds (faults.EndsEarly n) = HasFault ds n (faults.EndsEarly n)
IsMemberFault ds (faults.OutOfOrder n) = HasFault ds n (faults.OutOfOrder n)
IsMemberFault ds (faults.Overlap n) = HasFault ds n (faults.Overlap n)
IsMemberFault ds faults.Memory = Unit {0}

-- the record is one of these calls
abbrev pub IsRecordOf : Data → List Call → Type 0
IsRecordOf d h = (ds : List Data) × (members d ≡ Some ds) × (length ds ≤ MAX_CALLS) × (length h ≡ length ds)
    × AreRead ds h

-- the record's first fault. Memory may be refused wherever there are members to keep
abbrev pub IsReadFault : Data → RecordFault → Type 0
IsReadFault d faults.NotAList = members d ≡ None
IsReadFault d faults.TooMany = (ds : List Data) × (members d ≡ Some ds) × (MAX_CALLS < length ds)
IsReadFault d f = (ds : List Data) × (members d ≡ Some ds) × (length ds ≤ MAX_CALLS) × IsMemberFault ds f
