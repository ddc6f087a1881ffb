-- What `least` says of a history.
use Rattle.std.specs.Prelude.{ℕ, ◌≡◌, ◌⊎◌, List, [], ◌++◌, Option, Some, None, codes, decimal}
use Rattle.kfifo_model.specs.declared.calls.Call.{Call}
use Rattle.kfifo_model.specs.Searching.{HasOrder}
use Rattle.kfifo_verdict.specs.declared.verdicts.Bounds.{Bounds}
use Rattle.kfifo_verdict.specs.declared.verdicts.Evidence.{Evidence}
use Rattle.kfifo_verdict.specs.Judging.{AreBounds, HasNoneForEachK, IsFirstForEachK}
use Rattle.kfifo_verdict.specs.Naming.{IsForEachK}
use Rattle.kfifo_model.specs.declared.logged.LoggedCall.{LoggedCall}
use Rattle.kfifo_model.specs.RecordTexts.{line}
use Rattle.kfifo_judge.specs.declared.outcome.Outcome.{Outcome}
use Rattle.kfifo_judge.specs.declared.outcome.Outcome.TheVariants.{Answered, Unordered, Undecided}
use Rattle.kfifo_judge.specs.Reasons.{reason_lines}

abbrev pub at_most_line : Option ℕ → List ℕ
at_most_line (Some k) = line (codes "k at most " ++ decimal k)
at_most_line None = line (codes "k unknown")

abbrev pub bounds_text : Bounds → List ℕ
bounds_text b = line (codes "k at least " ++ decimal b.at_least) ++ at_most_line b.at_most

abbrev pub no_least_text : List LoggedCall → List Call → Evidence → List ℕ
no_least_text logged h found = line (codes "no order") ++ reason_lines logged h found

-- There is evidence of another kind than 4 and 7, so no k has an order; it is told.
pub record HasNoLeast (logged : List LoggedCall) (h : List Call) (text : List ℕ) : Type 0 where
  pub found : Evidence
  pub first : IsFirstForEachK h found
  pub refuted : (k : ℕ) → HasOrder k h → ⊥
  pub told : text ≡ no_least_text logged h found

-- There is none, and these bounds of the least k are told.
pub record HasBounds (h : List Call) (bounds : Bounds) (text : List ℕ) : Type 0 where
  pub none : HasNoneForEachK h
  pub are : AreBounds h bounds
  pub told : text ≡ bounds_text bounds

-- this is the text and the outcome for a history
abbrev pub IsLeastAnswer : List LoggedCall → List Call → List ℕ → Outcome → Type 0
IsLeastAnswer logged h text Unordered = HasNoLeast logged h text
IsLeastAnswer logged h text Answered = (bounds : Bounds) × HasBounds h bounds text
IsLeastAnswer logged h text Undecided = ⊥

-- these bounds are told, or where there are none that no k has an order
abbrev pub AreToldBounds : List LoggedCall → List Call → List ℕ → Option Bounds → Type 0
AreToldBounds logged h text None = HasNoLeast logged h text
AreToldBounds logged h text (Some bounds) = HasBounds h bounds text

-- what follows the evidence against one k: what `least` says, with its bounds, unless the evidence is for each k
abbrev pub FollowsReason : List LoggedCall → List Call → Evidence → List ℕ → Option Bounds → Type 0
FollowsReason logged h found text bounds = (IsForEachK found × (text ≡ []) × (bounds ≡ None))
    ⊎ ((IsForEachK found → ⊥) × AreToldBounds logged h text bounds)
