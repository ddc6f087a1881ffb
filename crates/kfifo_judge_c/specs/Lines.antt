-- The calls of C as the lines of a log in CSV, which has a header and then a line for each call.
use Rattle.std.specs.Prelude.{ℕ, ◌≡◌, ◌+◌, ◌<◌, ◌≤◌, ◌||◌, List, Bool, Option, Some, None, cond}
use Rattle.std.specs.Prelude.{eqb, ltb, length, map, position}
use Rattle.std.specs.List.{enumerate_from}
use Rattle.kfifo_model.specs.declared.calls.Answer.{Answer}
use Rattle.kfifo_model.specs.declared.spellings.AnswerWord.{AnswerWord}
use Rattle.kfifo_model.specs.declared.spellings.AnswerWord.TheVariants as words
use Rattle.kfifo_model.specs.declared.calls.Call.{Call}
use Rattle.kfifo_model.specs.declared.calls.End.{End}
use Rattle.kfifo_model.specs.declared.calls.Op.{Op}
use Rattle.kfifo_model.specs.declared.calls.Op.TheVariants.{Enqueue, Dequeue}
use Rattle.kfifo_import.specs.declared.log.TheConstants.{MAX_LOG_CALLS}
use Rattle.kfifo_import.specs.declared.log.ImportFault.{ImportFault}
use Rattle.kfifo_import.specs.declared.log.ImportFault.TheVariants.{Csv, TooMany, NotACall, NumberOutOfRange}
use Rattle.kfifo_import.specs.declared.log.ImportFault.TheVariants.{WrongAnswer, EndsEarly, Overlap, Memory}
use Rattle.kfifo_import.specs.declared.log.Line.{Line}
use Rattle.kfifo_model.specs.declared.logged.LoggedCall.{LoggedCall}
use Rattle.kfifo_import.specs.Answers.{put_answer, take_answer}
use Rattle.kfifo_import.specs.Fields.{small}
use Rattle.kfifo_import.specs.Foreign.{HasFaultToJudge, IsLogToJudge}
use Rattle.kfifo_judge_c.specs.declared.calls.LogCall.{LogCall}
use Rattle.kfifo_judge_c.specs.declared.calls.TheConstants as answers
use Rattle.kfifo_judge_c.specs.declared.calls.TheConstants.{PUT, GET, UNFINISHED}

-- the word of an answer's number
abbrev pub word_of : ℕ → AnswerWord
word_of n = cond (eqb n answers.DONE) words.Done (cond (eqb n answers.FULL) words.Full
    (cond (eqb n answers.GOT) words.Got (cond (eqb n answers.EMPTY) words.Empty
    (cond (eqb n answers.BUSY) words.Busy (cond (eqb n answers.WORN) words.Worn words.Other)))))

abbrev pub answer_of : LogCall → Answer
answer_of c = cond (eqb c.op PUT) (put_answer (word_of c.answer)) (take_answer (word_of c.answer) (small c.item))

abbrev pub op_of : LogCall → Op
op_of c = cond (eqb c.op PUT) (Enqueue (small c.item)) Dequeue

abbrev pub end_of : LogCall → Option End
end_of c = cond (eqb c.answer UNFINISHED) None (Some (record { last = c.last; answer = answer_of c }))

-- the item in the line of a call: of a put, or got
abbrev pub item_of : LogCall → Option ℕ
item_of c = cond (eqb c.op PUT || eqb c.answer answers.GOT) (Some c.item) None

-- the call in the line with this number
abbrev pub line_of : ℕ → LogCall → Line
line_of number c = record {
  number = number;
  call = record { thread = c.thread; op = op_of c; first = c.first; end = end_of c };
  item = item_of c;
}

-- the lines after the header, which is line 1
abbrev pub lines_of : List LogCall → List Line
lines_of calls = map (λ e. line_of (e.0 + 2) e.1) (enumerate_from 0 calls)

-- the call is neither a put nor a get
abbrev pub is_unknown : LogCall → Bool
is_unknown c = ltb GET c.op

-- no call among the first MAX_LOG_CALLS is unknown
abbrev pub AreKnownToTheLimit : List LogCall → Type 0
AreKnownToTheLimit calls = (place : ℕ) → position is_unknown calls ≡ Some place → MAX_LOG_CALLS ≤ place

-- The history is the record of these calls, to be judged, and this is what the log says of its calls.
pub record IsLogOfCalls (calls : List LogCall) (h : List Call) (logged : List LoggedCall) : Type 0 where
  pub known : position is_unknown calls ≡ None
  pub log : IsLogToJudge (lines_of calls) h logged

-- no call is unknown, and the lines of these calls, to be judged, have this fault
abbrev pub IsFaultOfLines : List LogCall → ImportFault → Type 0
IsFaultOfLines calls fault = (position is_unknown calls ≡ None) × HasFaultToJudge (lines_of calls) fault

-- Why the calls are no log: first of those that may be read one that is neither a put nor a get, then too many, and
-- then the first fault of the lines.
abbrev pub IsCallsFault : List LogCall → ImportFault → Type 0
IsCallsFault calls (NotACall n) = (place : ℕ) × (position is_unknown calls ≡ Some place) × (place < MAX_LOG_CALLS)
    × (n ≡ place + 2)
IsCallsFault calls TooMany = (MAX_LOG_CALLS < length calls) × AreKnownToTheLimit calls
IsCallsFault calls (Csv n) = ⊥
IsCallsFault calls (NumberOutOfRange n) = IsFaultOfLines calls (NumberOutOfRange n)
IsCallsFault calls (WrongAnswer n) = IsFaultOfLines calls (WrongAnswer n)
IsCallsFault calls (EndsEarly n) = IsFaultOfLines calls (EndsEarly n)
IsCallsFault calls (Overlap n) = IsFaultOfLines calls (Overlap n)
IsCallsFault calls Memory = Unit {0}
