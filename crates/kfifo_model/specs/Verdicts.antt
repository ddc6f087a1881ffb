-- What the checker returns.
use Rattle.std.specs.Prelude.{ℕ, ◌≡◌, ◌+◌, ◌<◌, ◌↔◌, Bool, false, IsTrue, List, [], ◌∷◌, Option, Some, None}
use Rattle.std.specs.Prelude.{map, take, length, slice_index_or}
use Rattle.kfifo_model.specs.Lists.{IsIn}
use Rattle.kfifo_model.specs.declared.calls.Call.{Call}
use Rattle.kfifo_model.specs.declared.orders.Verdict.{Verdict}
use Rattle.kfifo_model.specs.declared.orders.Verdict.TheVariants.{Legal, Repeats, NotACall, LeavesOut, BreaksBefore}
use Rattle.kfifo_model.specs.declared.orders.Verdict.TheVariants.{NotARun}
use Rattle.kfifo_model.specs.declared.orders.Tried.{Tried}
use Rattle.kfifo_model.specs.declared.orders.Tried.TheVariants.{NotLegal, Went, Took}
use Rattle.kfifo_model.specs.declared.effects.Effect.{Effect}
use Rattle.kfifo_model.specs.Relaxed.{IsRun, next}
use Rattle.kfifo_model.specs.Ranks.{rank}
use Rattle.kfifo_model.specs.Histories.{does, HasNoRepeats, HasOnlyCalls, HasEachFinished, KeepsBefore, IsOrder}
use Rattle.kfifo_model.specs.Histories.{IsLegal}

-- the verdict is Legal for a legal order, else the first fault
abbrev pub IsVerdict : ℕ → List Call → List ℕ → Verdict → Type 0
IsVerdict k h order Legal = IsLegal k h order
IsVerdict k h order Repeats = HasNoRepeats order → ⊥
IsVerdict k h order NotACall = HasNoRepeats order × (HasOnlyCalls h order → ⊥)
IsVerdict k h order LeavesOut = HasNoRepeats order × HasOnlyCalls h order × (HasEachFinished h order → ⊥)
IsVerdict k h order BreaksBefore = HasNoRepeats order × HasOnlyCalls h order × HasEachFinished h order
    × (KeepsBefore h order → ⊥)
IsVerdict k h order (NotARun p) = IsOrder h order × (p < length order) × IsRun k [] (map (does h) (take p order))
    × (IsRun k [] (map (does h) (take (p + 1) order)) → ⊥)

-- the marks are true at the numbers that stand in the order
abbrev pub AreMarks : List Bool → List ℕ → Type 0
AreMarks marks order = (c : ℕ) → IsTrue (slice_index_or marks c false) ↔ IsIn c order

-- what became of a call's effect that was tried in the list before
abbrev pub IsTried : ℕ → List ℕ → List ℕ → Effect → Tried → Type 0
IsTried k before after e NotLegal = next k before e ≡ None
IsTried k before after e Went = (next k before e ≡ Some after) × (rank before e ≡ [])
IsTried k before after e (Took p) = (next k before e ≡ Some after) × (rank before e ≡ p ∷ [])

-- the number of a verdict's fault
abbrev pub verdict_number : Verdict → Option ℕ
verdict_number Legal = None
verdict_number Repeats = Some 1
verdict_number NotACall = Some 2
verdict_number LeavesOut = Some 3
verdict_number BreaksBefore = Some 4
verdict_number (NotARun p) = Some 5
