-- Reports of texts that are no logs.
use Rattle.std.proofs.Common.{ℕ, IfOk, List, Result, Ok, Err, inr}
use Rattle.kfifo_import.specs.declared.log.ImportFault.{ImportFault}
use Rattle.kfifo_import.specs.Foreign.{IsUnjudged}
use Rattle.kfifo_judge.specs.Inputs.{BeginsRecord}
use Rattle.kfifo_judge_c.specs.declared.report.Report.{Report}
use Rattle.kfifo_judge_c.specs.Reports.{IsFaultReport}
use Rattle.kfifo_judge_c.specs.Texts.{IsFoundOfText}

-- the report of a fault that a text has as a log
pub unjudged : {E : Type 0} (k : ℕ) (bytes : List ℕ) (fault : ImportFault) → ¬ (BeginsRecord bytes)
    → IsUnjudged bytes fault → (report : Result Report E) → IfOk report (IsFaultReport fault)
    → IfOk report (IsFoundOfText k bytes)
unjudged k bytes fault no_record is (Ok r) told = inr (inr (no_record, (fault, is, told)))
unjudged k bytes fault no_record is (Err e) told = tt
