-- The calls of a schedule: what each thread asked for and what came back, with the places of its first and last events.
use Rattle.std.specs.Prelude.{ℕ, ◌+◌, List, [], ◌∷◌, ◌++◌, length, get_or, set, replicate, Option, Some, None, Result}
use Rattle.std.specs.Prelude.{Ok, Err}
use Rattle.kfifo_words.specs.declared.shape.Shape.{Shape}
use Rattle.kfifo_model.specs.declared.calls.Answer.{Answer}
use Rattle.kfifo_model.specs.declared.calls.Op.{Op}
use Rattle.kfifo_model.specs.declared.calls.Op.TheVariants as O
use Rattle.kfifo_model.specs.declared.calls.Call.{Call}
use Rattle.kfifo_model.specs.Histories.{call}
use Rattle.kfifo_machine.specs.declared.event.Begin.{Begin}
use Rattle.kfifo_machine.specs.declared.event.Begin.TheVariants as B
use Rattle.kfifo_machine.specs.declared.event.Event.{Event}
use Rattle.kfifo_machine.specs.declared.event.Outcome.{Outcome}
use Rattle.kfifo_machine.specs.declared.event.Outcome.TheVariants.{Went, Ended}
use Rattle.kfifo_machine.specs.declared.event.NotEnabled.{NotEnabled}
use Rattle.kfifo_machine.specs.Machine.{World, opening, step, world_of}

-- the calls so far by their first events, and for each thread the number of the call that it began last
pub record Log : Type 0 where
  pub calls : List Call
  pub latest : List ℕ

-- a thread begins a call at this place
abbrev pub begins : ℕ → ℕ → Op → Log → Log
begins place thread op log =
    record {
      calls = log.calls ++ (record { thread = thread; op = op; first = place; end = None }) ∷ [];
      latest = set log.latest thread (length log.calls);
    }

-- what a call asks for. A tick and a seal are no calls
abbrev pub op_asked : Begin → Op
op_asked (B.Enqueue item start turns) = O.Enqueue item
op_asked (B.Dequeue start turns) = O.Dequeue
op_asked B.Tick = O.Dequeue
op_asked B.Seal = O.Dequeue

-- a call with this end
abbrev pub ended : Call → ℕ → Answer → Call
ended c place answer = record {
  thread = c.thread;
  op = c.op;
  first = c.first;
  end = Some (record { last = place; answer = answer });
}

-- a thread's call ends at this place
abbrev pub ends : ℕ → ℕ → Answer → Log → Log
ends place thread answer log =
    record {
      calls = set log.calls (get_or log.latest thread 0)
          (ended (call log.calls (get_or log.latest thread 0)) place answer);
      latest = log.latest;
    }

-- the event at this place was made, and came to this. A tick and a seal are no calls
abbrev pub logged : ℕ → ℕ → Option Begin → Outcome → Log → Log
logged place thread (Some (B.Enqueue item start turns)) outcome log = begins place thread (O.Enqueue item) log
logged place thread (Some (B.Dequeue start turns)) outcome log = begins place thread O.Dequeue log
logged place thread (Some B.Tick) outcome log = log
logged place thread (Some B.Seal) outcome log = log
logged place thread None Went log = log
logged place thread None (Ended answer) log = ends place thread answer log

abbrev pub logged_by : ℕ → Event → Result (World × Outcome) NotEnabled → Log → Log
logged_by place event (Ok (world, outcome)) log = logged place event.thread event.begin outcome log
logged_by place event (Err fault) log = log

-- the log after events that begin at this place
abbrev pub log_from : Shape → Option World → ℕ → List Event → Log → Log
log_from shape world place [] log = log
log_from shape None place (event ∷ events) log = log
log_from shape (Some world) place (event ∷ events) log =
    log_from shape (world_of (step shape world event)) (place + 1) events
    (logged_by place event (step shape world event) log)

abbrev pub blank : ℕ → Log
blank threads = record { calls = []; latest = replicate threads 0 }

-- the log of a schedule, and its history: the calls by their first events
abbrev pub log_of : Shape → ℕ → List Event → Log
log_of shape threads events = log_from shape (Some (opening shape threads)) 0 events (blank threads)

abbrev pub history_of : Shape → ℕ → List Event → List Call
history_of shape threads events = (log_of shape threads events).calls
