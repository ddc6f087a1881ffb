-- What the commands come to, and how the program ends.
use Rattle.std.specs.Prelude.{◌≡◌, ◌≢◌, ◌⊎◌, ◌≤◌, ℕ, List, Option}
use Rattle.kfifo_cli_texts.specs.declared.fault.Fault.{Fault}
use Rattle.kfifo_cli_texts.specs.declared.fault.Fault.TheVariants.{Input, Memory}
use Rattle.kfifo_cli_requests.specs.declared.requests.Request.{Request}
use Rattle.kfifo_cli_requests.specs.declared.requests.Request.TheVariants.{Run, Check, Measure, Replay, Judge}
use Rattle.kfifo_cli_requests.specs.declared.requests.Request.TheVariants.{JudgeFiles, Least, Record, Import, Draw}
use Rattle.kfifo_cli_requests.specs.declared.requests.Request.TheVariants.{Dispatch, Explain}
use Rattle.kfifo_cli_commands.specs.Dispatches.{IsDispatch, IsDispatchRefusal}
use Rattle.kfifo_cli_texts.specs.Faults.{fault_line}
use Rattle.kfifo_cli_texts.specs.Printing.{Nothing, Part, Tells, Whole, Written}
use Rattle.kfifo_cli_commands.specs.Explanations.{IsExplainRefusal}
use Rattle.kfifo_cli_commands.specs.FileVerdicts.{IsJudgeFiles}
use Rattle.kfifo_cli_commands.specs.Imports.{IsImport, IsImportRefusal}
use Rattle.kfifo_cli_commands.specs.Inputs.{IsCallsRefusal, read_from}
use Rattle.kfifo_cli_commands.specs.Pictures.{IsDraw, IsDrawRefusal}
use Rattle.kfifo_cli_commands.specs.Records.{IsCheck, IsCheckRefusal, IsMeasure, IsMeasureRefusal}
use Rattle.kfifo_cli_commands.specs.RealRuns.{IsRealRun, IsRealRunRefusal}
use Rattle.kfifo_cli_commands.specs.Replays.{IsReplayAnswer, IsReplayRefusal}
use Rattle.kfifo_cli_commands.specs.Runs.{IsRunAnswer, IsRunRefusal}
use Rattle.kfifo_cli_commands.specs.Verdicts.{IsJudge, IsLeast}

-- the text for a request, and its status
abbrev pub Answers : Request → Option (List ℕ) → List ℕ → ℕ → Type 0
Answers (Run options) input text status = IsRunAnswer options text × (status ≡ 0)
Answers (Check options) input text status = IsCheck options input text status
Answers Measure input text status = IsMeasure input text × (status ≡ 0)
Answers (Replay options) input text status = IsReplayAnswer options text × (status ≡ 0)
Answers (Judge options) input text status = IsJudge options (read_from options.file input) text status
Answers (JudgeFiles options) input text status = IsJudgeFiles options text status
Answers (Least options) input text status = IsLeast (read_from options.file input) text status
Answers (Record options) input text status = IsRealRun options text × (status ≡ 0)
Answers (Import options) input text status = IsImport (read_from options.file input) text × (status ≡ 0)
Answers (Draw options) input text status = IsDraw options (read_from options.file input) × (status ≡ 0)
Answers (Dispatch options) input text status = IsDispatch options text × (status ≡ 0)
Answers (Explain options) input text status = status ≡ 0

-- the same, and no read failed
abbrev pub IsAnswered : Request → Option (List ℕ) → ℕ → ℕ → List ℕ → ℕ → Type 0
IsAnswered request input before after text status = Answers request input text status × (after ≡ before)

-- why a request has no answer, by its input and the numbers of failed reads before and after
abbrev pub IsCause : Request → Option (List ℕ) → ℕ → ℕ → Fault → Type 0
IsCause (Run options) input before after fault = IsRunRefusal options fault
IsCause (Check options) input before after fault = IsCheckRefusal options input before after fault
IsCause Measure input before after fault = IsMeasureRefusal input before after fault
IsCause (Replay options) input before after fault = IsReplayRefusal options fault
IsCause (Judge options) input before after fault = IsCallsRefusal (read_from options.file input) before after fault
IsCause (JudgeFiles options) input before after fault = fault ≡ Memory
IsCause (Least options) input before after fault = IsCallsRefusal (read_from options.file input) before after fault
IsCause (Record options) input before after fault = IsRealRunRefusal options fault
IsCause (Import options) input before after fault = IsImportRefusal (read_from options.file input) before after fault
IsCause (Draw options) input before after fault = IsDrawRefusal options (read_from options.file input) before after
    fault
IsCause (Dispatch options) input before after fault = IsDispatchRefusal options fault
IsCause (Explain options) input before after fault = IsExplainRefusal fault

-- the same, and no read failed but where that is the fault
abbrev pub IsRefused : Request → Option (List ℕ) → ℕ → ℕ → Fault → Type 0
IsRefused request input before after fault = IsCause request input before after fault × (fault ≢ Input → after ≡ before)

-- How a run ends with a status. A failure is a text that broke off, a fault that is told in place of one, or a whole
-- text that has faults in it, as of several files. `answers` says which texts go with which status, `causes` which
-- faults are the cause of a failure, `misuse` when the command line is at fault; `output` and `faults` say what was
-- written to either writer.
pub record Ends (answers : List ℕ → ℕ → Type 0) (causes : Fault → Type 0) (misuse : Type 0)
    (output faults : Written → Type 0) (status : ℕ) : Type 0 where
  pub known : status ≤ 4
  pub printed : (status ≡ 0) ⊎ (status ≡ 3) ⊎ (status ≡ 4) → faults Nothing
      × ((text : List ℕ) × answers text status × output (Whole text))
  pub failed : status ≡ 1 →
      (faults Nothing × ((text : List ℕ) × (planned : ℕ) × answers text planned × output (Part text)))
      ⊎ (output Nothing × ((fault : Fault) × causes fault × Tells faults (fault_line fault)))
      ⊎ (faults Nothing × ((text : List ℕ) × answers text status × output (Whole text)))
  pub misused : status ≡ 2 → output Nothing × misuse
