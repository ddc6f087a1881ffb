-- Stamped calls: a tick of the clock, one complete execution of a call, and a tick again; and what a pass has logged of
-- them.
use Rattle.std.specs.Prelude.{◌≡◌, ◌==◌, ◌+◌, filter, map, ℕ, ◌*◌, ◌<◌, ◌≤◌, List, [], ◌∷◌, ◌++◌, length, Some, Ok}
use Rattle.std.specs.Prelude.{IsPermutation}
use Rattle.kfifo_words.specs.Ring.{clock_at}
use Rattle.kfifo_model.specs.declared.calls.Answer.{Answer}
use Rattle.kfifo_model.specs.declared.calls.Call.{Call}
use Rattle.kfifo_model.specs.declared.calls.Op.{Op}
use Rattle.std.specs.List.{AllByRecursion}
use Rattle.kfifo_model.specs.Lists.{EachPair}
use Rattle.kfifo_model.specs.Histories.{call, EndsBelow, IsLegal}
use Rattle.kfifo_model.specs.Measures.{HasDistinctItems, IsDoneEnqueue}
use Rattle.kfifo_model.specs.Overtaking.{certainly_overtaken}
use Rattle.kfifo_machine.specs.declared.event.Begin.{Begin}
use Rattle.kfifo_machine.specs.declared.event.Begin.TheVariants.{Tick}
use Rattle.kfifo_machine.specs.declared.event.Event.{Event}
use Rattle.kfifo_machine.specs.declared.event.Outcome.TheVariants.{Went}
use Rattle.kfifo_machine.specs.Machine.{World, step, ticked, word_at}
use Rattle.kfifo_machine.specs.Calls.{op_asked}
use Rattle.kfifo_machine.specs.Laws.{most_events}
use Rattle.kfifo_machine.specs.Runs.{event, own}
use Rattle.kfifo_live.specs.declared.view.Opening.{Opening}
use Rattle.kfifo_live.specs.Schedule.{ticks, world_after}
use Rattle.kfifo_live.specs.Promise.{calls_of}
use Rattle.kfifo_live.specs.Pass.{PassView, IsSamePass}
use Rattle.kfifo_live.specs.Calls.{MakesCall, added}

-- a pass, and the calls that it has logged
pub record Logged : Type 0 where
  pub pass : PassView
  pub log : List Call

abbrev pub logged_by : PassView → List Call → Logged
logged_by pass log = record { pass = pass; log = log }

-- the calls of all logs, one log after the other
abbrev pub all_logs : List Logged → List Call
all_logs [] = []
all_logs (p ∷ ps) = p.log ++ all_logs ps

-- the calls of a thread
abbrev pub calls_by : ℕ → List Call → List Call
calls_by thread calls = filter (λ c. c.thread == thread) calls

-- the passes alone
abbrev pub passes_of : List Logged → List PassView
passes_of ps = map (λ p. p.pass) ps

-- the pass drew this stamp: after events of others the clock had it, and then the pass ticked
pub record Draws (stamp : ℕ) (old new : PassView) : Type 0 where
  pub between : List Event
  pub here : World
  pub others : own old.thread between ≡ []
  pub reached : world_after old.opened (old.seen ++ between) ≡ Some here
  pub stamp_is : stamp ≡ word_at here (clock_at old.opened.shape.k old.opened.shape.n)
  pub made : step old.opened.shape here (event old.thread (Some Tick)) ≡ Ok (ticked old.opened.shape here, Went)
  pub same : IsSamePass old new
  pub new_is : new.seen ≡ (old.seen ++ between) ++ event old.thread (Some Tick) ∷ []

-- a call of this thread, its stamps and its answer
abbrev pub stamped_call : ℕ → Op → ℕ → ℕ → Answer → Call
stamped_call thread op first last answer =
    record { thread = thread; op = op; first = first; end = Some (record { last = last; answer = answer }) }

-- its own events are at most `turns * (2k + 9)`, and the two ticks
abbrev pub TakesFewStampedSteps : Begin → PassView → PassView → Type 0
TakesFewStampedSteps begin old new = length (own old.thread (added old new)) ≤ most_events old.opened.shape begin + 2

-- A stamped call: a tick, a call of the pass with this answer, and a tick; the log has one call more, whose first and
-- last are what the ticks drew
pub record MakesStamped (begin : Begin) (answer : Answer) (old new : Logged) : Type 0 where
  pub room : length old.log < old.pass.opened.calls
  pub begun : PassView
  pub ended : PassView
  pub first : ℕ
  pub last : ℕ
  pub draws_first : Draws first old.pass begun
  pub call : MakesCall begin answer begun ended
  pub draws_last : Draws last ended new.pass
  pub few_steps : TakesFewStampedSteps begin old.pass new.pass
  pub log_is : new.log ≡ old.log ++ stamped_call old.pass.thread (op_asked begin) first last answer ∷ []

-- A logged call is a call of the schedule under other stamps: its first is what a tick drew that stands before the
-- first event of the call, with no event of the thread between; its last is what a tick drew that stands after the last
-- event
pub record IsStamped (all : List Event) (logged made : Call) : Type 0 where
  pub thread : logged.thread ≡ made.thread
  pub op : logged.op ≡ made.op
  pub before : List Event
  pub between : List Event
  pub begin : Event
  pub rest : List Event
  pub split : all ≡ (before ++ event logged.thread (Some Tick) ∷ between) ++ begin ∷ rest
  pub quiet : own logged.thread between ≡ []
  pub own_begin : begin.thread ≡ logged.thread
  pub first_is : logged.first ≡ ticks before
  pub made_first : made.first ≡ length (before ++ event logged.thread (Some Tick) ∷ between)
  pub upto : List Event
  pub later : List Event
  pub answer : Answer
  pub step : ℕ
  pub split_last : all ≡ upto ++ event logged.thread (Some Tick) ∷ later
  pub logged_end : logged.end ≡ Some (record { last = ticks upto; answer = answer })
  pub made_end : made.end ≡ Some (record { last = step; answer = answer })
  pub ended : step < length upto

-- the log has the calls of this thread in the schedule
pub record HasCalls (o : Opening) (all : List Event) (thread : ℕ) (log : List Call) : Type 0 where
  pub made : (i : ℕ) → i < length log → (n : ℕ) × (n < length (calls_of o all))
      × ((call (calls_of o all) n).thread ≡ thread)
      × IsStamped all (call log i) (call (calls_of o all) n)
  pub logged : (n : ℕ) → n < length (calls_of o all) → (call (calls_of o all) n).thread ≡ thread → (i : ℕ)
      × (i < length log)
      × IsStamped all (call log i) (call (calls_of o all) n)

-- What is always so of a log: it has the calls of the pass in the schedule that it has seen, each between two ticks of
-- its own, one after the other, and the pass has made no tick but these
pub record IsLogIn (o : Opening) (thread : ℕ) (seen : List Event) (log : List Call) : Type 0 where
  pub count : ticks (own thread seen) ≡ 2 * length log
  pub room : length log ≤ o.calls
  pub mine : AllByRecursion (λ c. c.thread ≡ thread) log
  pub in_turn : EachPair (λ c d. EndsBelow c.end d.first) log
  pub past : AllByRecursion (λ c. EndsBelow c.end (ticks seen)) log
  pub calls : HasCalls o seen thread log

abbrev pub IsLog : PassView → List Call → Type 0
IsLog p log = IsLogIn p.opened p.thread p.seen log

-- the passes of an opening, whose logs are empty
abbrev pub new_logs : List PassView → List Logged
new_logs ps = map (λ p. logged_by p []) ps

-- What is gathered of a queue: all logged calls in ascending order of their first stamps, each thread's in the order of
-- its log. They are a history with a legal order. By that history alone, where items are distinct, fewer than k
-- overtakings of the item of an enqueue that returned Done are certain
pub record Gathers (o : Opening) (ps : List Logged) (h : List Call) : Type 0 where
  pub each_once : IsPermutation (all_logs ps) h
  pub rising : (i j : ℕ) → i < j → j < length h → (call h i).first < (call h j).first
  pub each_log : AllByRecursion (λ p. calls_by p.pass.thread h ≡ p.log) ps
  pub order : List ℕ
  pub legal : IsLegal o.shape.k h order
  pub few_certainly_overtake : HasDistinctItems h → (c : ℕ) → IsDoneEnqueue h c → certainly_overtaken h c < o.shape.k
