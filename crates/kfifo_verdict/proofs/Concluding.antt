-- What evidence says of orders, and what the lower bound of k does.
use Rattle.std.proofs.Common.{ℕ, ◌-◌, ◌<◌, ◌≤◌, List, arith, Option, Some, None, Result, Ok}
use Rattle.std.proofs.Common.{Err}
use Rattle.std.specs.Result.{IfOk}
use Rattle.std.specs.Option.{MatchOption, OnSome}
use Rattle.kfifo_verdict.proofs.Types.{Call}
use Rattle.kfifo_model.specs.Validity.{IsHistory}
use Rattle.kfifo_model.specs.Searching.{HasOrder}
use Rattle.kfifo_verdict.specs.declared.verdicts.Evidence.{Evidence}
use Rattle.kfifo_verdict.specs.declared.verdicts.Evidence.TheVariants.{NeverPut, TakenTwice, NotEmpty, TooYoung}
use Rattle.kfifo_verdict.specs.declared.verdicts.Evidence.TheVariants.{TakenTooSoon, ItemsLeft, OlderLeft}
use Rattle.kfifo_verdict.specs.Judging.{HasNoEvidence, IsFirstEvidence, HasNoneForEachK, IsFirstForEachK, IsFirstTo3}
use Rattle.kfifo_verdict.specs.Judging.{IsLowerBound}
use Rattle.kfifo_verdict.proofs.Refuting.{never_put_refutes, taken_twice_refutes, not_empty_refutes, too_young_refutes}
use Rattle.kfifo_verdict.proofs.Refuting.{too_soon_refutes}
use Rattle.kfifo_verdict.proofs.Passing.{older_left_refutes}
use Rattle.kfifo_verdict.proofs.Remaining.{items_left_refutes}

pub first_refutes : (k : ℕ) (h : List Call) (v : Evidence) → IsHistory h → IsFirstEvidence k h v → HasOrder k h → ⊥
first_refutes k h (NeverPut get) v f = never_put_refutes k h get f.0
first_refutes k h (TakenTwice get) v f = taken_twice_refutes k h get f.1
first_refutes k h (NotEmpty empty puts) v f = not_empty_refutes k h empty puts.items v f.2
first_refutes k h (TooYoung get puts) v f = too_young_refutes k k h get puts.items v (omega arith) f.3
first_refutes k h (TakenTooSoon get) v f = too_soon_refutes k h get f.4
first_refutes k h (ItemsLeft empty) v f = items_left_refutes k h empty v f.5
first_refutes k h (OlderLeft get puts) v f = older_left_refutes k h get puts.items v f.6

option_refutes : (k : ℕ) (h : List Call) (o : Option Evidence) → IsHistory h
    → MatchOption o (HasNoEvidence k h) (IsFirstEvidence k h)
    → OnSome o (HasOrder k h → ⊥)
option_refutes k h None v m = tt
option_refutes k h (Some found) v m = first_refutes k h found v m

pub found_refutes : {E : Type 0} (k : ℕ) (h : List Call) (r : Result (Option Evidence) E) → IsHistory h
    → IfOk r (λ found. MatchOption found (HasNoEvidence k h) (IsFirstEvidence k h))
    → IfOk r (λ found. OnSome found (HasOrder k h → ⊥))
found_refutes k h (Ok o) v m = option_refutes k h o v m
found_refutes k h (Err e) v m = tt

-- ---- evidence for each k

-- the kinds 1 to 3 come before the others
pub to_3_first : (k : ℕ) (h : List Call) (v : Evidence) → IsFirstTo3 h v → IsFirstEvidence k h v
to_3_first k h (NeverPut get) f = f
to_3_first k h (TakenTwice get) f = f
to_3_first k h (NotEmpty empty puts) f = f
to_3_first k h (TooYoung get puts) f = absurd f
to_3_first k h (TakenTooSoon get) f = absurd f
to_3_first k h (ItemsLeft empty) f = absurd f
to_3_first k h (OlderLeft get puts) f = absurd f

pub to_3_for_each : (h : List Call) (v : Evidence) → IsFirstTo3 h v → IsFirstForEachK h v
to_3_for_each h (NeverPut get) f = f
to_3_for_each h (TakenTwice get) f = f
to_3_for_each h (NotEmpty empty puts) f = f
to_3_for_each h (TooYoung get puts) f = absurd f
to_3_for_each h (TakenTooSoon get) f = absurd f
to_3_for_each h (ItemsLeft empty) f = absurd f
to_3_for_each h (OlderLeft get puts) f = absurd f

pub each_refutes : (k : ℕ) (h : List Call) (v : Evidence) → IsHistory h → IsFirstForEachK h v → HasOrder k h → ⊥
each_refutes k h (NeverPut get) v f = never_put_refutes k h get f.0
each_refutes k h (TakenTwice get) v f = taken_twice_refutes k h get f.1
each_refutes k h (NotEmpty empty puts) v f = not_empty_refutes k h empty puts.items v f.2
each_refutes k h (TooYoung get puts) v f = absurd f
each_refutes k h (TakenTooSoon get) v f = too_soon_refutes k h get f.3
each_refutes k h (ItemsLeft empty) v f = items_left_refutes k h empty v f.4
each_refutes k h (OlderLeft get puts) v f = absurd f

option_refutes_each : (h : List Call) (o : Option Evidence) → IsHistory h
    → MatchOption o (HasNoneForEachK h) (IsFirstForEachK h)
    → OnSome o ((k : ℕ) → HasOrder k h → ⊥)
option_refutes_each h None v m = tt
option_refutes_each h (Some found) v m = λ k. each_refutes k h found v m

pub found_refutes_each : {E : Type 0} (h : List Call) (r : Result (Option Evidence) E) → IsHistory h
    → IfOk r (λ found. MatchOption found (HasNoneForEachK h) (IsFirstForEachK h))
    → IfOk r (λ found. OnSome found ((k : ℕ) → HasOrder k h → ⊥))
found_refutes_each h (Ok o) v m = option_refutes_each h o v m
found_refutes_each h (Err e) v m = tt

-- no k below the bound has a legal order
pub bound_refutes : (h : List Call) (bound k : ℕ) → IsHistory h → IsLowerBound h bound → 1 ≤ k → k < bound
    → HasOrder k h → ⊥
bound_refutes h bound k v b positive lt =
    let a = b.attained (omega (arith, positive, lt)) in
    too_young_refutes k (bound - 1) h a.0 a.1.0 v (omega (arith, lt)) a.1.1
