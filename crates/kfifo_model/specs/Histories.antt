-- Histories, and the orders of their calls: linearizability, as Herlihy and Wing defined it ("Linearizability: a
-- correctness condition for concurrent objects", TOPLAS 1990). A history is a list of calls with their first and last
-- steps; an order is one list of its finished calls and some unfinished enqueues, which keeps what precedes what.
use Rattle.std.specs.Prelude.{ℕ, ◌≢◌, ◌<◌, List, [], Option, Some, None, map, slice_index_or}
use Rattle.kfifo_model.specs.declared.calls.Op.{Op}
use Rattle.kfifo_model.specs.declared.calls.Op.TheVariants.{Enqueue, Dequeue}
use Rattle.kfifo_model.specs.declared.calls.End.{End}
use Rattle.kfifo_model.specs.declared.calls.Call.{Call}
use Rattle.std.specs.List.{AllByRecursion}
use Rattle.kfifo_model.specs.Lists.{IsIn, EachPair}
use Rattle.kfifo_model.specs.declared.effects.Effect.{Effect}
use Rattle.kfifo_model.specs.declared.effects.Effect.TheVariants.{Adds, Wrong}
use Rattle.kfifo_model.specs.Relaxed.{effect, IsRun}

-- an unfinished enqueue is taken as Done; an unfinished dequeue stands in no order
abbrev pub effect_unfinished : Op → Effect
effect_unfinished (Enqueue x) = Adds x
effect_unfinished Dequeue = Wrong

abbrev pub effect_at : Op → Option End → Effect
effect_at op (Some end) = effect op end.answer
effect_at op None = effect_unfinished op

abbrev pub no_call : Call
no_call = record { thread = 0; op = Dequeue; first = 0; end = None }

-- the call with a number: its place in the history. Past the history there is none
abbrev pub call : List Call → ℕ → Call
call h n = slice_index_or h n no_call

abbrev pub effect_of : Call → Effect
effect_of c = effect_at c.op c.end

abbrev pub does : List Call → ℕ → Effect
does h n = effect_of (call h n)

abbrev pub HasEnd : Option End → Type 0
HasEnd (Some end) = Unit {0}
HasEnd None = ⊥

abbrev pub IsFinished : List Call → ℕ → Type 0
IsFinished h n = HasEnd (call h n).end

abbrev pub EndsBelow : Option End → ℕ → Type 0
EndsBelow (Some end) step = end.last < step
EndsBelow None step = ⊥

-- c returned before d was called (Herlihy and Wing's order of a history's operations)
abbrev pub Precedes : List Call → ℕ → ℕ → Type 0
Precedes h c d = EndsBelow (call h c).end (call h d).first

abbrev pub CanStand : Option End → Op → Type 0
CanStand (Some end) op = Unit {0}
CanStand None (Enqueue x) = Unit {0}
CanStand None Dequeue = ⊥

-- no number stands twice
abbrev pub HasNoRepeats : List ℕ → Type 0
HasNoRepeats order = EachPair (λ c d. c ≢ d) order

-- a finished call or an unfinished enqueue has each number
abbrev pub HasOnlyCalls : List Call → List ℕ → Type 0
HasOnlyCalls h order = AllByRecursion (λ c. CanStand (call h c).end (call h c).op) order

-- each finished call stands
abbrev pub HasEachFinished : List Call → List ℕ → Type 0
HasEachFinished h order = (c : ℕ) → IsFinished h c → IsIn c order

-- no call stands before one that precedes it
abbrev pub KeepsBefore : List Call → List ℕ → Type 0
KeepsBefore h order = EachPair (λ c d. Precedes h d c → ⊥) order

-- An order of a history: a linearization, but for the answers.
pub record IsOrder (h : List Call) (order : List ℕ) : Type 0 where
  pub distinct : HasNoRepeats order
  pub calls : HasOnlyCalls h order
  pub complete : HasEachFinished h order
  pub before : KeepsBefore h order

-- A legal order: one in which the calls are a run of the k-relaxed queue.
pub record IsLegal (k : ℕ) (h : List Call) (order : List ℕ) : Type 0 where
  pub is_order : IsOrder h order
  pub is_run : IsRun k [] (map (does h) order)
