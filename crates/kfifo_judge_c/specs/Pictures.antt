-- Pictures of the calls of C. How a picture looks is not said.
use Rattle.std.specs.Prelude.{ℕ, ◌≡◌, ◌⊎◌, List, Bool, true, false, length}
use denote.Ref.{Bor}
use Rattle.kfifo_model.specs.declared.calls.Call.{Call}
use Rattle.kfifo_model.specs.declared.logged.LoggedCall.{LoggedCall}
use Rattle.kfifo_verdict.specs.declared.verdicts.Evidence.{Evidence}
use Rattle.kfifo_verdict.specs.Judging.{HasNoEvidence, IsFirstEvidence}
use Rattle.kfifo_judge.specs.Reasons.{named_by}
use Rattle.kfifo_draw.specs.Drawing.{AreFew, AreMany, IsInPart}
use Rattle.kfifo_draw.specs.declared.part.Part.{Part}
use Rattle.kfifo_draw.specs.declared.part.Part.TheVariants.{All, Near}
use Rattle.kfifo_judge_c.specs.declared.drawing.TheConstants.{AROUND}
use Rattle.kfifo_judge_c.specs.declared.report.Report.{Report}
use Rattle.kfifo_judge_c.specs.declared.status.TheConstants.{DRAWN, FAULT}
use Rattle.kfifo_judge_c.specs.Reports.{HasNoBounds, HasNoReason}

-- The part of a history that is drawn: all of it; or, where the evidence is asked for and there is some, the calls near
-- those that it names.
abbrev pub IsPart : ℕ → Bool → List Call → Part → Type 0
IsPart k false h part = part ≡ All
IsPart k true h part = (HasNoEvidence k h × (part ≡ All))
    ⊎ ((found : Evidence) × IsFirstEvidence k h found
    × ((named : Bor (List ℕ)) × (named.now ≡ named_by h found) × (part ≡ Near named AROUND)))

-- the report has this status, and a text alone
abbrev pub HasStatus : ℕ → Report → Type 0
HasStatus status r = (r.status ≡ status) × (r.fault ≡ 0) × (r.place ≡ 0) × HasNoReason r × HasNoBounds r

-- The report is a picture of that part, or says that it has too many calls.
pub record IsPictureOn (k : ℕ) (evidence : Bool) (h : List Call) (logged : List LoggedCall) (r : Report) : Type 0 where
  pub part : Part
  pub part_is : IsPart k evidence h part
  pub drawn : (HasStatus DRAWN r × AreFew (IsInPart h logged part) (length h))
      ⊎ (HasStatus FAULT r × AreMany (IsInPart h logged part) (length h))
