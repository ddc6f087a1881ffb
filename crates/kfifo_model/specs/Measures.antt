-- What the calls that measure return.
use Rattle.std.specs.Prelude.{ℕ, zero, suc, ◌≡◌, ◌<◌, ◌⊎◌, List, [], ◌∷◌, ◌++◌, Option, Some, None}
use Rattle.kfifo_model.specs.declared.calls.Op.{Op}
use Rattle.kfifo_model.specs.declared.calls.Op.TheVariants.{Enqueue, Dequeue}
use Rattle.kfifo_model.specs.declared.calls.Answer.{Answer}
use Rattle.kfifo_model.specs.declared.calls.Answer.TheVariants.{Done, Full, Got, Empty, Busy, Worn}
use Rattle.kfifo_model.specs.declared.calls.End.{End}
use Rattle.kfifo_model.specs.declared.calls.Call.{Call}
use Rattle.kfifo_model.specs.declared.measures.RankFault.{RankFault}
use Rattle.kfifo_model.specs.declared.measures.RankFault.TheVariants.{NotLegal, Memory}
use Rattle.kfifo_model.specs.declared.measures.OvertakenFault.{OvertakenFault}
use Rattle.kfifo_model.specs.declared.measures.OvertakenFault.TheVariants.{NotAnEnqueue, RepeatedItem}
use Rattle.kfifo_model.specs.declared.overtakings.Overtaken.{Overtaken}
use Rattle.kfifo_model.specs.declared.overtakings.MeasureFault.{MeasureFault}
use Rattle.kfifo_model.specs.declared.overtakings.MeasureFault.TheVariants as measuring
use Rattle.kfifo_model.specs.declared.effects.Effect.{Effect}
use Rattle.kfifo_model.specs.declared.effects.Effect.TheVariants.{Adds, Takes}
use Rattle.kfifo_model.specs.Histories.{call, does, IsLegal}
use Rattle.kfifo_model.specs.Overtaking.{numbers_of, certainly_overtaken, AddsAreDistinct, TakesAreDistinct}

-- why there are no ranks
abbrev pub IsRankFault : ℕ → List Call → List ℕ → RankFault → Type 0
IsRankFault k h order NotLegal = IsLegal k h order → ⊥
IsRankFault k h order Memory = Unit {0}

abbrev pub EndsDone : Op → Option End → Type 0
EndsDone (Enqueue x) (Some end) = end.answer ≡ Done
EndsDone (Enqueue x) None = ⊥
EndsDone Dequeue end = ⊥

-- a finished enqueue with answer Done
abbrev pub IsDoneEnqueue : List Call → ℕ → Type 0
IsDoneEnqueue h c = EndsDone (call h c).op (call h c).end

-- no two enqueues, Done or unfinished, carry one item, and no two dequeues got one
abbrev pub HasDistinctItems : List Call → Type 0
HasDistinctItems h = AddsAreDistinct (does h) (numbers_of h) × TakesAreDistinct (does h) (numbers_of h)

-- both add one item, or both take one
abbrev pub SharesItem : Effect → Effect → Type 0
SharesItem a b = ((x : ℕ) × (a ≡ Adds x) × (b ≡ Adds x)) ⊎ ((x : ℕ) × (a ≡ Takes x) × (b ≡ Takes x))

-- an earlier call than n adds or takes the same item
abbrev pub RepeatsEarlier : List Call → ℕ → Type 0
RepeatsEarlier h n = (j : ℕ) × (j < n) × SharesItem (does h n) (does h j)

abbrev pub IsOvertakenFault : List Call → ℕ → OvertakenFault → Type 0
IsOvertakenFault h c NotAnEnqueue = IsDoneEnqueue h c → ⊥
IsOvertakenFault h c RepeatedItem = IsDoneEnqueue h c × (HasDistinctItems h → ⊥)

abbrev pub done_item_of : Answer → ℕ → Option ℕ
done_item_of Done x = Some x
done_item_of Full x = None
done_item_of (Got y) x = None
done_item_of Empty x = None
done_item_of Busy x = None
done_item_of Worn x = None

-- the item of a finished enqueue with answer Done
abbrev pub done_item : Op → Option End → Option ℕ
done_item (Enqueue x) (Some end) = done_item_of end.answer x
done_item (Enqueue x) None = None
done_item Dequeue end = None

abbrev pub measure_of : ℕ → ℕ → Option ℕ → List Overtaken
measure_of n count None = []
measure_of n count (Some x) = record { call = n; item = x; count = count } ∷ []

-- the overtakings of the items of the first n calls, in their order
abbrev pub measured : List Call → ℕ → List Overtaken
measured h zero = []
measured h (suc n) = measured h n ++ measure_of n (certainly_overtaken h n) (done_item (call h n).op (call h n).end)

abbrev pub IsMeasureFault : List Call → MeasureFault → Type 0
IsMeasureFault h measuring.RepeatedItem = ((n : ℕ) × IsDoneEnqueue h n) × (HasDistinctItems h → ⊥)
IsMeasureFault h measuring.Memory = Unit {0}

-- the numbers of these faults
abbrev pub rank_fault_number : RankFault → ℕ
rank_fault_number NotLegal = 1
rank_fault_number Memory = 2

abbrev pub overtaken_fault_number : OvertakenFault → ℕ
overtaken_fault_number NotAnEnqueue = 1
overtaken_fault_number RepeatedItem = 2

abbrev pub measure_fault_number : MeasureFault → ℕ
measure_fault_number measuring.RepeatedItem = 2
measure_fault_number measuring.Memory = 3
