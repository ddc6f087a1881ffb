-- What the calls return.
use Rattle.std.specs.Prelude.{ℕ, ◌-◌, ◌<◌, ◌≤◌, List, Option, Some, None, length}
use Rattle.kfifo_model.specs.declared.calls.Call.{Call}
use Rattle.kfifo_model.specs.Histories.{IsFinished, IsLegal}
use Rattle.kfifo_model.specs.Searching.{HasOrder}
use Rattle.kfifo_verdict.specs.declared.verdicts.Evidence.{Evidence}
use Rattle.kfifo_verdict.specs.declared.verdicts.Evidence.TheVariants.{NeverPut, TakenTwice, NotEmpty, TooYoung}
use Rattle.kfifo_verdict.specs.declared.verdicts.Evidence.TheVariants.{TakenTooSoon, ItemsLeft, OlderLeft}
use Rattle.kfifo_verdict.specs.declared.verdicts.Judgement.{Judgement}
use Rattle.kfifo_verdict.specs.declared.verdicts.Judgement.TheVariants.{Legal, NoOrder, Undecided}
use Rattle.kfifo_verdict.specs.declared.verdicts.GivenUp.{GivenUp}
use Rattle.kfifo_verdict.specs.declared.verdicts.GivenUp.TheVariants.{TriesRanOut, NothingLeft}
use Rattle.kfifo_verdict.specs.declared.verdicts.Bounds.{Bounds}
use Rattle.kfifo_verdict.specs.Evidence.{Puts, IsSingle, IsNeverPut, IsTakenTwice, IsNotEmpty, IsTooYoung}
use Rattle.kfifo_verdict.specs.Evidence.{IsTakenTooSoon, HasItemsLeft, IsOlderLeft}

-- some puts show it of this call
abbrev pub FoundNotEmpty : List Call → ℕ → Type 0
FoundNotEmpty h c = (puts : List ℕ) × IsNotEmpty h c puts

abbrev pub GotTooYoung : ℕ → List Call → ℕ → Type 0
GotTooYoung k h c = (puts : List ℕ) × IsTooYoung k h c puts

abbrev pub GotOlderLeft : ℕ → List Call → ℕ → Type 0
GotOlderLeft k h c = (puts : List ℕ) × IsOlderLeft k h c puts

-- no call has it
abbrev pub Never : (ℕ → Type 0) → Type 0
Never P = (c : ℕ) → P c → ⊥

-- no call before n has it
abbrev pub NeverBefore : (ℕ → Type 0) → ℕ → Type 0
NeverBefore P n = (c : ℕ) → c < n → P c → ⊥

-- there is none of the seven kinds of evidence
abbrev pub HasNoEvidence : ℕ → List Call → Type 0
HasNoEvidence k h = Never (IsNeverPut h) × Never (IsTakenTwice h) × Never (FoundNotEmpty h) × Never (GotTooYoung k h)
    × Never (IsTakenTooSoon h) × Never (HasItemsLeft h) × Never (GotOlderLeft k h)

-- there is none of the kinds 1 to 3
abbrev pub HasNoneTo3 : List Call → Type 0
HasNoneTo3 h = Never (IsNeverPut h) × Never (IsTakenTwice h) × Never (FoundNotEmpty h)

-- evidence of the kinds 1 to 3: of the least number that is there, and of that number the one with the least call
abbrev pub IsFirstTo3 : List Call → Evidence → Type 0
IsFirstTo3 h (NeverPut get) = IsNeverPut h get × NeverBefore (IsNeverPut h) get
IsFirstTo3 h (TakenTwice get) = Never (IsNeverPut h) × IsTakenTwice h get × NeverBefore (IsTakenTwice h) get
IsFirstTo3 h (NotEmpty empty puts) =
    Never (IsNeverPut h) × Never (IsTakenTwice h) × IsNotEmpty h empty puts.items × NeverBefore (FoundNotEmpty h) empty
IsFirstTo3 h (TooYoung get puts) = ⊥
IsFirstTo3 h (TakenTooSoon get) = ⊥
IsFirstTo3 h (ItemsLeft empty) = ⊥
IsFirstTo3 h (OlderLeft get puts) = ⊥

-- evidence of the least number that is there, and of that number the one with the least call
abbrev pub IsFirstEvidence : ℕ → List Call → Evidence → Type 0
IsFirstEvidence k h (TooYoung get puts) =
    Never (IsNeverPut h) × Never (IsTakenTwice h) × Never (FoundNotEmpty h) × IsTooYoung k h get puts.items
    × NeverBefore (GotTooYoung k h) get
IsFirstEvidence k h (TakenTooSoon get) =
    Never (IsNeverPut h) × Never (IsTakenTwice h) × Never (FoundNotEmpty h) × Never (GotTooYoung k h)
    × IsTakenTooSoon h get
    × NeverBefore (IsTakenTooSoon h) get
IsFirstEvidence k h (ItemsLeft empty) =
    Never (IsNeverPut h) × Never (IsTakenTwice h) × Never (FoundNotEmpty h) × Never (GotTooYoung k h)
    × Never (IsTakenTooSoon h) × HasItemsLeft h empty × NeverBefore (HasItemsLeft h) empty
IsFirstEvidence k h (OlderLeft get puts) =
    Never (IsNeverPut h) × Never (IsTakenTwice h) × Never (FoundNotEmpty h) × Never (GotTooYoung k h)
    × Never (IsTakenTooSoon h) × Never (HasItemsLeft h)
    × IsOlderLeft k h get puts.items × NeverBefore (GotOlderLeft k h) get
IsFirstEvidence k h found = IsFirstTo3 h found

-- there is no evidence but of the kinds 4 and 7, which are about one k
abbrev pub HasNoneForEachK : List Call → Type 0
HasNoneForEachK h = Never (IsNeverPut h) × Never (IsTakenTwice h) × Never (FoundNotEmpty h) × Never (IsTakenTooSoon h)
    × Never (HasItemsLeft h)

-- evidence of another kind than 4 and 7: of the least number that is there, and of that number the one with the least
-- call
abbrev pub IsFirstForEachK : List Call → Evidence → Type 0
IsFirstForEachK h (TakenTooSoon get) =
    Never (IsNeverPut h) × Never (IsTakenTwice h) × Never (FoundNotEmpty h) × IsTakenTooSoon h get
    × NeverBefore (IsTakenTooSoon h) get
IsFirstForEachK h (ItemsLeft empty) =
    Never (IsNeverPut h) × Never (IsTakenTwice h) × Never (FoundNotEmpty h) × Never (IsTakenTooSoon h)
    × HasItemsLeft h empty × NeverBefore (HasItemsLeft h) empty
IsFirstForEachK h found = IsFirstTo3 h found

-- each item that is put is single, and each call has ended
abbrev pub IsPlain : List Call → Type 0
IsPlain h = ((x p : ℕ) → Puts h x p → IsSingle h x p) × ((c : ℕ) → c < length h → IsFinished h c)

-- a verdict
abbrev pub IsJudgement : ℕ → List Call → Judgement → Type 0
IsJudgement k h (Legal order) = IsLegal k h order.items
IsJudgement k h (NoOrder found) = IsFirstEvidence k h found × (HasOrder k h → ⊥)
IsJudgement k h (Undecided stuck) = HasNoEvidence k h

-- how many choices the search had undone when it stopped
abbrev pub tries_made : GivenUp → ℕ
tries_made (TriesRanOut tries) = tries
tries_made (NothingLeft tries) = tries

-- where there is no verdict, no more tries were made than were allowed
abbrev pub KeepsTries : ℕ → Judgement → Type 0
KeepsTries tries (Legal order) = Unit {0}
KeepsTries tries (NoOrder found) = Unit {0}
KeepsTries tries (Undecided stuck) = tries_made stuck ≤ tries

-- the verdict says whether there is a legal order
abbrev pub IsDecided : Judgement → Type 0
IsDecided (Legal order) = Unit {0}
IsDecided (NoOrder found) = Unit {0}
IsDecided (Undecided stuck) = ⊥

-- one more than the greatest number of items that are certainly older and there at a get of a single item
pub record IsLowerBound (h : List Call) (bound : ℕ) : Type 0 where
  pub positive : 1 ≤ bound
  pub above : (n c : ℕ) → GotTooYoung n h c → n < bound
  pub attained : 1 < bound → (c : ℕ) × GotTooYoung (bound - 1) h c

abbrev pub IsUpperBound : List Call → ℕ → Option ℕ → Type 0
IsUpperBound h low (Some k) = (low ≤ k) × (k ≤ 64) × HasOrder k h
IsUpperBound h low None = Unit {0}

pub record AreBounds (h : List Call) (b : Bounds) : Type 0 where
  pub lower : IsLowerBound h b.at_least
  pub refuted : (k : ℕ) → 1 ≤ k → k < b.at_least → HasOrder k h → ⊥
  pub upper : IsUpperBound h b.at_least b.at_most
