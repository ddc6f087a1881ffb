-- Scripts that threads run on a stamped queue, and the record of the run.
use Rattle.std.specs.Prelude.{◌≡◌, ℕ, suc, ◌<◌, ◌≤◌, List, [], ◌∷◌, length, map, max, All, get_or, IsSome, Vec}
use Rattle.std.specs.List.{fold, AllByRecursion}
use Rattle.kfifo_live.specs.declared.stamped.TheConstants.{MAX_STAMPED_CALLS}
use Rattle.kfifo_words.specs.declared.shape.Shape.{Shape}
use Rattle.kfifo_words.specs.declared.word.TheConstants.{VALUES}
use Rattle.kfifo_model.specs.declared.calls.Answer.{Answer}
use Rattle.kfifo_model.specs.declared.calls.Call.{Call}
use Rattle.kfifo_machine.specs.declared.event.Begin.{Begin}
use Rattle.kfifo_machine.specs.declared.event.Begin.TheVariants as B
use Rattle.kfifo_machine.specs.Calls.{op_asked}
use Rattle.kfifo_live.specs.Schedule.{stamped_opening}
use Rattle.kfifo_live.specs.Pass.{IsPassOf, IsSamePass, OpenQueue, new_passes}
use Rattle.kfifo_live.specs.Stamps.{Gathers, Logged, MakesStamped, calls_by, new_logs}

-- a call with its start below k, at least one round, and an item from 1 to 2^24 - 1. A tick and a
-- seal are none
abbrev pub IsCall : Shape → Begin → Type 0
IsCall shape (B.Enqueue item start turns) = (1 ≤ item) × (item < VALUES) × (start < shape.k) × (1 ≤ turns)
IsCall shape (B.Dequeue start turns) = (start < shape.k) × (1 ≤ turns)
IsCall shape B.Tick = ⊥
IsCall shape B.Seal = ⊥

-- the calls of each script
abbrev pub scripts_in : {A : Type 0} → List (Vec Begin A) → List (List Begin)
scripts_in scripts = map (λ script. script.items) scripts

-- scripts of such calls, in any number and of any length
abbrev pub AreScripts : Shape → List (List Begin) → Type 0
AreScripts shape scripts = All (λ script. All (IsCall shape) script) scripts

-- the script of a thread; no calls where it has none
abbrev pub script_of : List (List Begin) → ℕ → List Begin
script_of scripts thread = get_or scripts thread []

-- the number of calls of the longest script
abbrev pub longest : List (List Begin) → ℕ
longest scripts = fold (λ most script. max most (length script)) 0 scripts

-- how many calls each log has room for
abbrev pub room_for : List (List Begin) → ℕ
room_for scripts = max 1 (longest scripts)

-- a pass makes this stamped call, with some answer
abbrev pub MakesOne : Begin → Logged → Logged → Type 0
MakesOne begin old new = IsSamePass old.pass new.pass × ((answer : Answer) × MakesStamped begin answer old new)

-- a pass makes the calls of a script in turn, and the gate says of each that it was passed with its number, from this
-- one on
abbrev pub MakesInTurn : (ℕ → Type 0) → ℕ → List Begin → Logged → Logged → Type 0
MakesInTurn Passed number [] old new = new ≡ old
MakesInTurn Passed number (begin ∷ script) old new = (next : Logged) × Passed number × MakesOne begin old next
    × MakesInTurn Passed (suc number) script next new

-- each pass makes the calls of the script at its place, from call number 1, and passes the gate with its thread
abbrev pub EachMakes : (ℕ → ℕ → Type 0) → List (List Begin) → List Logged → List Logged → Type 0
EachMakes passed [] [] [] = Unit {0}
EachMakes passed (script ∷ scripts) (old ∷ olds) (new ∷ news) = MakesInTurn (passed old.pass.thread) 1 script old new
    × EachMakes passed scripts olds news
EachMakes passed scripts olds news = ⊥

-- these are the passes of a queue of this shape, opened with one for each script and room for its calls, before any
-- call
pub record IsOpenFor (shape : Shape) (scripts : List (List Begin)) (queue : OpenQueue)
    (passes : List Logged) : Type 0 where
  pub opened : queue.opened ≡ stamped_opening shape (length scripts) (room_for scripts)
  pub passes_are : passes ≡ new_logs (new_passes queue 0 (length scripts))

-- a pass may run the script of its thread
pub record MayRun (queue : OpenQueue) (scripts : List (List Begin)) (pass : Logged) : Type 0 where
  pub of : IsPassOf queue pass.pass
  pub fresh : pass.log ≡ []
  pub has_script : pass.pass.thread < length scripts
  pub calls : All (IsCall queue.opened.shape) (script_of scripts pass.pass.thread)
  pub room : length (script_of scripts pass.pass.thread) ≤ queue.opened.calls
  pub few : queue.opened.calls ≤ MAX_STAMPED_CALLS

-- What the run of scripts came to: of one queue, pass t made the calls of script t in turn, each between two stamps.
-- Before each call it passed the gate, by its thread's number and the call's own. The history has the calls in
-- ascending order of their first stamps, all of them ended. The calls of thread t are script t in its order, and no
-- other thread made a call. The history has a legal order, and little overtakes (`Gathers`)
pub record IsRecord (passed : ℕ → ℕ → Type 0) (shape : Shape) (scripts : List (List Begin)) (h : List Call)
    : Type 0 where
  pub queue : OpenQueue
  pub fresh : List Logged
  pub opened : IsOpenFor shape scripts queue fresh
  pub passes : List Logged
  pub made : EachMakes passed scripts fresh passes
  pub gathers : Gathers (stamped_opening shape (length scripts) (room_for scripts)) passes h
  pub ops : (thread : ℕ) → map (λ c. c.op) (calls_by thread h) ≡ map op_asked (script_of scripts thread)
  pub ended : AllByRecursion (λ c. IsSome c.end) h
