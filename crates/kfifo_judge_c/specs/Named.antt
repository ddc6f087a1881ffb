-- The calls that a reason names, as C has them.
use Rattle.std.specs.Prelude.{ℕ, List, Option, Some, None, map, unwrap_or}
use Rattle.kfifo_model.specs.declared.calls.Answer.{Answer}
use Rattle.kfifo_model.specs.declared.calls.Answer.TheVariants.{Done, Full, Got, Empty, Busy, Worn}
use Rattle.kfifo_model.specs.declared.calls.Call.{Call}
use Rattle.kfifo_model.specs.declared.calls.End.{End}
use Rattle.kfifo_model.specs.declared.calls.Op.{Op}
use Rattle.kfifo_model.specs.declared.calls.Op.TheVariants.{Enqueue, Dequeue}
use Rattle.kfifo_model.specs.declared.logged.LoggedCall.{LoggedCall}
use Rattle.kfifo_judge.specs.declared.named.NamedCall as told
use Rattle.kfifo_judge.specs.Named.{named_call}
use Rattle.kfifo_judge_c.specs.declared.calls.TheConstants as answers
use Rattle.kfifo_judge_c.specs.declared.calls.TheConstants.{PUT, GET, UNFINISHED}
use Rattle.kfifo_judge_c.specs.declared.named.NamedCall.{NamedCall}

abbrev pub op_number : Op → ℕ
op_number (Enqueue x) = PUT
op_number Dequeue = GET

abbrev pub number_of : Answer → ℕ
number_of Done = answers.DONE
number_of Full = answers.FULL
number_of (Got x) = answers.GOT
number_of Empty = answers.EMPTY
number_of Busy = answers.BUSY
number_of Worn = answers.WORN

abbrev pub answer_number : Option End → ℕ
answer_number None = UNFINISHED
answer_number (Some end) = number_of end.answer

-- a call that is named, as C has it
abbrev pub in_c : told.NamedCall → NamedCall
in_c c = record {
  number = c.number;
  line = unwrap_or c.line 0;
  call = record {
    first = c.first;
    last = unwrap_or c.last 0;
    item = c.item;
    thread = c.call.thread;
    op = op_number c.call.op;
    answer = answer_number c.call.end;
  };
}

-- call n of a history, with its line, its times and its item as the log has them
abbrev pub named_of : List LoggedCall → List Call → ℕ → NamedCall
named_of logged h n = in_c (named_call logged h n)

-- the calls with these numbers
abbrev pub calls_named : List LoggedCall → List Call → List ℕ → List NamedCall
calls_named logged h numbers = map (named_of logged h) numbers
