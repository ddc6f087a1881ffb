-- A verdict as data, in JSON.
use Rattle.std.specs.Prelude.{ℕ, ◌≡◌, Bool, true, false, List, Option, Some, None, codes, length, map, string_bytes}
use Rattle.serde_json.specs.Data.{Data, null, string, array, object, no_members, member}
use Rattle.serde_json.specs.View.{items_of}
use Rattle.serde_json.specs.Written.{compact_text}
use Rattle.kfifo_model.specs.declared.calls.Call.{Call}
use Rattle.kfifo_model.specs.declared.calls.End.{End}
use Rattle.kfifo_model.specs.declared.effects.Effect.{Effect}
use Rattle.kfifo_model.specs.declared.effects.Effect.TheVariants.{Adds, Takes, FindsNone, Refused, Wrong}
use Rattle.kfifo_model.specs.declared.logged.LoggedCall.{LoggedCall}
use Rattle.kfifo_model.specs.Histories.{effect_of}
use Rattle.kfifo_model.specs.RecordTexts.{line, whole}
use Rattle.kfifo_model.specs.Words.{answer_word, op_word}
use Rattle.kfifo_verdict.specs.declared.verdicts.Bounds.{Bounds}
use Rattle.kfifo_verdict.specs.declared.verdicts.Evidence.{Evidence}
use Rattle.kfifo_verdict.specs.declared.verdicts.Judgement.{Judgement}
use Rattle.kfifo_verdict.specs.declared.verdicts.Judgement.TheVariants.{Legal, NoOrder, Undecided}
use Rattle.kfifo_verdict.specs.Judging.{tries_made}
use Rattle.kfifo_judge.specs.declared.judgement.Judged.{Judged}
use Rattle.kfifo_judge.specs.declared.named.NamedCall.{NamedCall}
use Rattle.kfifo_judge.specs.declared.outcome.Outcome.{Outcome}
use Rattle.kfifo_judge.specs.Headlines.{headline_text, kind_name, kind_number}
use Rattle.kfifo_judge.specs.Judgements.{IsJudged, outcome}
use Rattle.kfifo_judge.specs.Named.{named_call}
use Rattle.kfifo_judge.specs.Reasons.{named_by}

abbrev pub number_or_null : Option ℕ → Data
number_or_null (Some n) = whole n
number_or_null None = null

abbrev pub text_or_null : Option (List ℕ) → Data
text_or_null (Some text) = string text
text_or_null None = null

-- the answer of a call that has ended
abbrev pub answer_or_null : Option End → Data
answer_or_null (Some end) = string (answer_word end.answer)
answer_or_null None = null

-- the item of a call that does this
abbrev pub moved_item : Effect → ℕ → Data
moved_item (Adds x) item = whole item
moved_item (Takes x) item = whole item
moved_item FindsNone item = null
moved_item Refused item = null
moved_item Wrong item = null

-- the item that a call put or got, as its log has it
abbrev pub item_or_null : NamedCall → Data
item_or_null c = moved_item (effect_of c.call) c.item

-- a call that a reason names
abbrev pub named_value : NamedCall → Data
named_value c = object
    (member (codes "answer") (answer_or_null c.call.end)
    (member (codes "first") (whole c.first)
    (member (codes "item") (item_or_null c)
    (member (codes "last") (number_or_null c.last)
    (member (codes "line") (number_or_null c.line)
    (member (codes "number") (whole c.number)
    (member (codes "op") (string (op_word c.call.op))
    (member (codes "thread") (whole c.call.thread) no_members))))))))

-- the calls with these numbers
abbrev pub named_values : List LoggedCall → List Call → List ℕ → Data
named_values logged h numbers = array (items_of (map (λ n. named_value (named_call logged h n)) numbers))

-- evidence: its kind by number and name, what it says of the queue, and the calls that it names
abbrev pub evidence_value : List LoggedCall → List Call → Evidence → Data
evidence_value logged h found = object
    (member (codes "headline") (string (headline_text logged h found))
    (member (codes "kind") (whole (kind_number found))
    (member (codes "name") (string (kind_name found))
    (member (codes "named") (named_values logged h (named_by h found)) no_members))))

-- the evidence of a verdict
abbrev pub evidence_in : List LoggedCall → List Call → Judgement → Data
evidence_in logged h (Legal order) = null
evidence_in logged h (NoOrder found) = evidence_value logged h found
evidence_in logged h (Undecided stuck) = null

-- the order that was found, where it is to be shown
abbrev pub order_in : Bool → Judgement → Data
order_in true (Legal order) = array (items_of (map whole order.items))
order_in false (Legal order) = null
order_in show (NoOrder found) = null
order_in show (Undecided stuck) = null

-- after how many tries the search for an order gave up
abbrev pub tries_in : Judgement → Data
tries_in (Legal order) = null
tries_in (NoOrder found) = null
tries_in (Undecided stuck) = whole (tries_made stuck)

-- the verdict in words
abbrev pub status_of : Judgement → List ℕ
status_of (Legal order) = codes "legal"
status_of (NoOrder found) = codes "no order"
status_of (Undecided stuck) = codes "undecided"

abbrev pub bounds_value : Bounds → Data
bounds_value bounds = object
    (member (codes "at_least") (whole bounds.at_least)
    (member (codes "at_most") (number_or_null bounds.at_most) no_members))

-- the bounds of the least k, where they are said
abbrev pub least_in : Option Bounds → Data
least_in (Some bounds) = bounds_value bounds
least_in None = null

-- the object of a verdict on the history in the file with this name, if it is one
abbrev pub report_value : Option (List ℕ) → ℕ → Bool → List LoggedCall → List Call → Judged → Data
report_value file k show logged h j = object
    (member (codes "calls") (whole (length h))
    (member (codes "evidence") (evidence_in logged h j.judgement)
    (member (codes "file") (text_or_null file)
    (member (codes "k") (whole k)
    (member (codes "least") (least_in j.bounds)
    (member (codes "left") (whole j.left)
    (member (codes "order") (order_in show j.judgement)
    (member (codes "status") (string (status_of j.judgement))
    (member (codes "text") (string (string_bytes j.text))
    (member (codes "tries") (tries_in j.judgement) no_members))))))))))

-- its text, compact and with the keys in order of bytes
abbrev pub report_text : Option (List ℕ) → ℕ → Bool → List LoggedCall → List Call → Judged → List ℕ
report_text file k show logged h j = compact_text (report_value file k show logged h j)

-- this is the line and the outcome of a verdict on a history
abbrev pub IsReport : Option (List ℕ) → ℕ → Bool → List LoggedCall → List Call → List ℕ → Outcome → Type 0
IsReport file k show logged h text said = (judged : Judged) × IsJudged k show logged h judged
    × (text ≡ line (report_text file k show logged h judged)) × (said ≡ outcome judged.judgement)

-- the object of the file with this name, which has no verdict: the fault, and what is wrong in words
abbrev pub fault_value : List ℕ → List ℕ → List ℕ → Data
fault_value file fault words = object
    (member (codes "fault") (string fault)
    (member (codes "file") (string file)
    (member (codes "status") (string (codes "fault"))
    (member (codes "words") (string words) no_members))))

-- its line
abbrev pub fault_report : List ℕ → List ℕ → List ℕ → List ℕ
fault_report file fault words = line (compact_text (fault_value file fault words))
