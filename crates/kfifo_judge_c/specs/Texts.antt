-- What is found of a text: a log in CSV, or a record in JSON.
use Rattle.std.specs.Prelude.{ℕ, ◌≡◌, ◌⊎◌, ⊤, List, [], unwrap_or}
use Rattle.kfifo_model.specs.declared.calls.Call.{Call}
use Rattle.kfifo_model.specs.declared.history.RecordFault.TheVariants as records
use Rattle.kfifo_model.specs.FaultNumbers.{fault_call, fault_number}
use Rattle.kfifo_import.specs.declared.log.ImportFault.{ImportFault}
use Rattle.kfifo_model.specs.declared.logged.LoggedCall.{LoggedCall}
use Rattle.kfifo_import.specs.Foreign.{IsJudgedLog, IsUnjudged}
use Rattle.kfifo_judge.specs.declared.record.StreamFault.{StreamFault}
use Rattle.kfifo_judge.specs.declared.record.StreamFault.TheVariants.{Input, NotJson, Record, Search, RepeatedItem}
use Rattle.kfifo_judge.specs.declared.record.StreamFault.TheVariants.{Memory, Output}
use Rattle.kfifo_judge.specs.Inputs.{BeginsRecord}
use Rattle.kfifo_model.specs.RecordTexts.{IsRecordText}
use Rattle.kfifo_judge.specs.TextFaults.{IsTextFault}
use Rattle.kfifo_judge_c.specs.declared.report.Report.{Report}
use Rattle.kfifo_judge_c.specs.declared.status.TheConstants.{FAULT}
use Rattle.kfifo_judge_c.specs.Reports.{HasNoBounds, HasNoReason, IsFaultReport, IsVerdictOn}

-- The calls of the text are judged.
abbrev pub IsJudgedText : ℕ → List ℕ → Report → Type 0
IsJudgedText k bytes r = (BeginsRecord bytes × ((h : List Call) × IsRecordText bytes h × IsVerdictOn k h [] r))
    ⊎ (¬ (BeginsRecord bytes)
    × ((h : List Call) × (logged : List LoggedCall) × IsJudgedLog bytes h logged × IsVerdictOn k h logged r))

-- the number of a fault of a record, and the call that has it; 0 for none
abbrev pub record_place : StreamFault → ℕ × ℕ
record_place (Record fault) = (fault_number fault, unwrap_or (fault_call fault) 0)
record_place Input = (0, 0)
record_place NotJson = (0, 0)
record_place (Search fault) = (0, 0)
record_place RepeatedItem = (0, 0)
record_place Memory = (0, 0)
record_place Output = (0, 0)

-- the fault is not that an allocation failed, in reading the text or in reading the record
abbrev pub IsOfText : StreamFault → Type 0
IsOfText (Record fault) = ¬ (fault ≡ records.Memory)
IsOfText Memory = ⊥
IsOfText Input = ⊤
IsOfText NotJson = ⊤
IsOfText (Search fault) = ⊤
IsOfText RepeatedItem = ⊤
IsOfText Output = ⊤

-- the report is of this fault of a record
pub record IsRecordReport (fault : StreamFault) (r : Report) : Type 0 where
  pub of_text : IsOfText fault
  pub status_is : r.status ≡ FAULT
  pub place_is : (r.fault, r.place) ≡ record_place fault
  pub no_reason : HasNoReason r
  pub no_bounds : HasNoBounds r

-- The text has a fault as a record, or as a log.
abbrev pub IsFaultyText : List ℕ → Report → Type 0
IsFaultyText bytes r =
    (BeginsRecord bytes × ((fault : StreamFault) × IsTextFault bytes fault × IsRecordReport fault r))
    ⊎ (¬ (BeginsRecord bytes) × ((fault : ImportFault) × IsUnjudged bytes fault × IsFaultReport fault r))

-- what is found of a text for one k
abbrev pub IsFoundOfText : ℕ → List ℕ → Report → Type 0
IsFoundOfText k bytes r = IsJudgedText k bytes r ⊎ IsFaultyText bytes r
