-- Reports of pictures.
use Rattle.std.proofs.Common.{ℕ, ◌≡◌, Bool, List, IfOk, MatchResult, Result, Ok, Err, inl, inr, length}
use Rattle.kfifo_model.specs.declared.calls.Call.{Call}
use Rattle.kfifo_model.specs.declared.logged.LoggedCall.{LoggedCall}
use Rattle.kfifo_draw.specs.declared.part.Part.{Part}
use Rattle.kfifo_draw.specs.declared.picture.DrawFault.{DrawFault}
use Rattle.kfifo_draw.specs.declared.picture.DrawFault.TheVariants.{TooMany}
use Rattle.kfifo_draw.specs.Drawing.{AreFew, AreMany, IsInPart}
use Rattle.kfifo_judge_c.specs.declared.report.Report.{Report}
use Rattle.kfifo_judge_c.specs.declared.status.TheConstants.{DRAWN, FAULT}
use Rattle.kfifo_judge_c.specs.Pictures.{HasStatus, IsPart, IsPictureOn}

-- a report of what came of drawing this part
pub pictured : {S E : Type 0} (k : ℕ) (evidence : Bool) (h : List Call) (logged : List LoggedCall) (part : Part)
    → IsPart k evidence h part → (drawn : Result S DrawFault)
    → MatchResult drawn (λ _. AreFew (IsInPart h logged part) (length h))
    (λ fault. fault ≡ TooMany → AreMany (IsInPart h logged part) (length h))
    → (r : Result Report E)
    → IfOk r (λ r. MatchResult drawn (λ _. HasStatus DRAWN r) (λ fault. (fault ≡ TooMany) × HasStatus FAULT r))
    → IfOk r (IsPictureOn k evidence h logged)
pictured k evidence h logged part is (Ok text) few (Ok r) has = record {
  part = part;
  part_is = is;
  drawn = inl (has, few);
}
pictured k evidence h logged part is (Err fault) many (Ok r) has =
    record { part = part; part_is = is; drawn = inr (has.1, many has.0) }
pictured k evidence h logged part is drawn number (Err e) has = tt
