use Rattle.std.proofs.Common.{ℕ, ◌≡◌, List, length, subst}
use Rattle.std.specs.Result.{MatchResult}
use Rattle.kfifo_model.proofs.Types.{Call}
use Rattle.kfifo_model.specs.Measures.{IsDoneEnqueue, HasDistinctItems}
use Rattle.kfifo_model.specs.Measures.{measured, IsMeasureFault}
use Rattle.kfifo_model.proofs.overtakings.measure.Goals as goal

pub returns : goal.returns
returns c =
    let P : List Call → Type 0 = λ h. MatchResult c.measure_among.result
    (λ v. (v.items ≡ measured h (length h)) × ((n : ℕ) → IsDoneEnqueue h n → HasDistinctItems h)) (IsMeasureFault h) in
    subst P c.calls.ensures.calls c.measure_among.ensures
