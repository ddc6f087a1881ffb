-- Logs that are to be judged. A get of an item that no call can put is no fault of the log, but one of its queue.
use Rattle.std.specs.Prelude.{ℕ, ◌≡◌, ◌≢◌, ◌&&◌, not, ltb, leb, Bool, true, false, cond, List, [], ◌∷◌, map, option_map}
use Rattle.std.specs.Prelude.{unwrap_or}
use Rattle.std.specs.List.{All, flat_map, list_any}
use Rattle.csv.specs.Reading.{strip_bom}
use Rattle.kfifo_model.specs.declared.calls.Answer.{Answer}
use Rattle.kfifo_model.specs.declared.calls.Answer.TheVariants.{Got}
use Rattle.kfifo_model.specs.declared.calls.Call.{Call}
use Rattle.kfifo_model.specs.declared.calls.End.{End}
use Rattle.kfifo_model.specs.declared.calls.TheConstants.{MAX_ITEM}
use Rattle.kfifo_model.specs.declared.calls.Op.{Op}
use Rattle.kfifo_model.specs.declared.calls.Op.TheVariants.{Enqueue, Dequeue}
use Rattle.kfifo_model.specs.Validity.{IsItem}
use Rattle.kfifo_import.specs.declared.log.TheConstants.{MAX_LOG_CALLS}
use Rattle.kfifo_import.specs.declared.log.ImportFault.{ImportFault}
use Rattle.kfifo_import.specs.declared.log.ImportFault.TheVariants.{Csv, TooMany, NotACall, NumberOutOfRange}
use Rattle.kfifo_import.specs.declared.log.ImportFault.TheVariants.{WrongAnswer, EndsEarly, Overlap, Memory}
use Rattle.kfifo_import.specs.declared.log.Line.{Line}
use Rattle.kfifo_model.specs.declared.logged.LoggedCall.{LoggedCall}
use Rattle.kfifo_import.specs.Logs.{IsImportFault, IsLogOf}
use Rattle.kfifo_import.specs.Tables.{IsTextFault, ReadsLog}

-- whether a call can put the item: it is 1 to 2^24 - 1
abbrev pub is_puttable : ℕ → Bool
is_puttable x = ltb 0 x && leb x MAX_ITEM

abbrev pub items_asked : Op → List ℕ
items_asked (Enqueue x) = x ∷ []
items_asked Dequeue = []

-- the items that the calls of the lines are asked to put
abbrev pub items_put : List Line → List ℕ
items_put lines = flat_map (λ line. items_asked line.call.op) lines

-- the answer, but for a dequeue's Got of an item that no call can put: that has this item in its place
abbrev pub answer_with : ℕ → Op → Answer → Answer
answer_with free Dequeue (Got x) = Got (cond (is_puttable x) x free)
answer_with free op answer = answer

abbrev pub end_with : ℕ → Op → End → End
end_with free op end = record { last = end.last; answer = answer_with free op end.answer }

abbrev pub call_with : ℕ → Call → Call
call_with free c = record { thread = c.thread; op = c.op; first = c.first; end = option_map (end_with free c.op) c.end }

-- the line, where a get of an item that no call can put has got this item in its place
abbrev pub line_with : ℕ → Line → Line
line_with free line = record { number = line.number; call = call_with free line.call; item = line.item }

-- whether the answer is a dequeue's Got of an item that no call can put
abbrev pub is_foreign_answer : Op → Answer → Bool
is_foreign_answer Dequeue (Got x) = not (is_puttable x)
is_foreign_answer op answer = false

-- whether the call of the line got an item that no call can put
abbrev pub is_foreign : Line → Bool
is_foreign line = unwrap_or (option_map (λ end. is_foreign_answer line.call.op end.answer) line.call.end) false

-- In the lines to be judged an item that a call can put, but that no line puts, stands for those that no call can put,
-- where a call got such.
abbrev pub AreToJudge : List Line → List Line → Type 0
AreToJudge lines judged = (free : ℕ)
    × (list_any is_foreign lines ≡ true → IsItem free × All (λ x. x ≢ free) (items_put lines))
    × (judged ≡ map (line_with free) lines)

-- The history is the record of these lines of a log, to be judged, and its calls stand in it and were as these say.
pub record IsLogToJudge (lines : List Line) (h : List Call) (calls : List LoggedCall) : Type 0 where
  pub judged : List Line
  pub to_judge : AreToJudge lines judged
  pub log : IsLogOf judged h calls

-- these lines of a log, to be judged, have this fault
abbrev pub HasFaultToJudge : List Line → ImportFault → Type 0
HasFaultToJudge lines fault = (judged : List Line) × AreToJudge lines judged × IsImportFault judged fault

-- why at most MAX_LOG_CALLS lines give no record to be judged
abbrev pub IsFaultToJudge : List Line → ImportFault → Type 0
IsFaultToJudge lines (Csv n) = ⊥
IsFaultToJudge lines TooMany = ⊥
IsFaultToJudge lines (NotACall n) = ⊥
IsFaultToJudge lines (NumberOutOfRange n) = HasFaultToJudge lines (NumberOutOfRange n)
IsFaultToJudge lines (WrongAnswer n) = HasFaultToJudge lines (WrongAnswer n)
IsFaultToJudge lines (EndsEarly n) = HasFaultToJudge lines (EndsEarly n)
IsFaultToJudge lines (Overlap n) = HasFaultToJudge lines (Overlap n)
IsFaultToJudge lines Memory = Unit {0}

-- The history is the record of the lines of a text, to be judged, and its calls stand in it and were as these say.
pub record IsJudgedLog (bytes : List ℕ) (h : List Call) (calls : List LoggedCall) : Type 0 where
  pub lines : List Line
  pub read : ReadsLog bytes lines
  pub log : IsLogToJudge lines h calls

-- the lines of a text, to be judged, have this fault
abbrev pub IsOfJudged : List ℕ → ImportFault → Type 0
IsOfJudged bytes fault = (lines : List Line) × ReadsLog bytes lines × HasFaultToJudge lines fault

-- why a text gives no record to be judged: the first fault of its rows, or of its lines, whose rows have none
abbrev pub IsUnjudged : List ℕ → ImportFault → Type 0
IsUnjudged bytes (Csv n) = IsTextFault MAX_LOG_CALLS (strip_bom bytes) (Csv n)
IsUnjudged bytes TooMany = IsTextFault MAX_LOG_CALLS (strip_bom bytes) TooMany
IsUnjudged bytes (NotACall n) = IsTextFault MAX_LOG_CALLS (strip_bom bytes) (NotACall n)
IsUnjudged bytes (NumberOutOfRange n) = IsOfJudged bytes (NumberOutOfRange n)
IsUnjudged bytes (WrongAnswer n) = IsOfJudged bytes (WrongAnswer n)
IsUnjudged bytes (EndsEarly n) = IsOfJudged bytes (EndsEarly n)
IsUnjudged bytes (Overlap n) = IsOfJudged bytes (Overlap n)
IsUnjudged bytes Memory = Unit {0}
