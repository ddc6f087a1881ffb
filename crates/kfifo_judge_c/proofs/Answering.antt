-- The answers of the exports.
use Rattle.std.proofs.Common.{ℕ, ◌≡◌, IfOk, List, MatchResult, Result, Ok, Err, inl, inr}
use Rattle.kfifo_judge_c.specs.declared.named.NamedCall.{NamedCall}
use Rattle.kfifo_judge_c.specs.declared.report.Found.{Found}
use Rattle.kfifo_judge_c.specs.declared.report.Report.{Report}
use Rattle.kfifo_judge_c.specs.declared.status.TheConstants.{NO_MEMORY}
use Rattle.kfifo_judge_c.specs.Reports.{Answers, IsHanded, IsUnwritten}

-- where the arguments are in range, what is handed over is an export's answer
pub answered : {E : Type 0} (InRange : Type 0) (P : Report → Type 0) (report : Result Report E) (status : ℕ)
    (old_text new_text old_headline new_headline : List ℕ) (old_named new_named : List NamedCall)
    (old_found new_found : Found) → InRange → IfOk report P
    → MatchResult report
    (λ r. IsHanded r status old_text new_text old_headline new_headline old_named new_named new_found)
    (λ _. (status ≡ NO_MEMORY)
    × IsUnwritten old_text new_text old_headline new_headline old_named new_named old_found new_found)
    → Answers InRange P status old_text new_text old_headline new_headline old_named new_named old_found new_found
answered InRange P (Ok r) status _ _ _ _ _ _ _ _ in_range is handed = inr (inr (in_range, (r, is, handed)))
answered InRange P (Err e) status _ _ _ _ _ _ _ _ in_range is handed = inr (inl (in_range, handed.0, handed.1))
