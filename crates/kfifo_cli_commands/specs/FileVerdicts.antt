-- What the command `judge` says of several files. Of what is in a file nothing is known.
use Rattle.std.specs.Prelude.{ℕ, ◌≡◌, ◌⊎◌, Bool, List, [], ◌++◌, Some, MatchBool, codes, cond, map}
use Rattle.std.specs.Prelude.{string_bytes}
use Rattle.std.specs.List.{All, FoldsTo}
use denote.Ref.{Bor}
use Rattle.kfifo_model.specs.declared.calls.Call.{Call}
use Rattle.kfifo_model.specs.declared.logged.LoggedCall.{LoggedCall}
use Rattle.kfifo_model.specs.RecordTexts.{line}
use Rattle.kfifo_judge.specs.Briefs.{IsBrief}
use Rattle.kfifo_judge.specs.Inputs.{IsLongRecord}
use Rattle.kfifo_judge.specs.Reports.{IsReport, fault_report}
use Rattle.kfifo_judge.specs.declared.outcome.Outcome.{Outcome}
use Rattle.kfifo_cli_texts.specs.Faults.{fault_text}
use Rattle.kfifo_cli_texts.specs.declared.fault.Fault.{Fault}
use Rattle.kfifo_cli_texts.specs.declared.fault.Fault.TheVariants.{Input, Memory}
use Rattle.kfifo_cli_requests.specs.declared.requests.JudgeFilesOptions.{JudgeFilesOptions}
use Rattle.kfifo_cli_commands.specs.declared.commands.judge_files.Pending.{Pending}
use Rattle.kfifo_cli_commands.specs.declared.tally.Found.{Found}
use Rattle.kfifo_cli_commands.specs.declared.tally.Found.TheVariants.{Judged, Unjudged}
use Rattle.kfifo_cli_commands.specs.declared.tally.Tally.{Tally}
use Rattle.kfifo_cli_commands.specs.Inputs.{IsNoCalls}
use Rattle.kfifo_cli_commands.specs.Statuses.{status_number}
use Rattle.kfifo_cli_commands.specs.Tallies.{none, summary, tallied, tally_status}
use Rattle.kfifo_cli_commands.specs.Verdicts.{AnswersCalls}

-- the line of what is said of the file with this name
abbrev pub named_line : List ℕ → List ℕ → List ℕ
named_line name said = name ++ (codes ": " ++ (said ++ codes "\n"))

-- the line of a verdict on these calls, and its outcome
abbrev pub IsFileVerdict : JudgeFilesOptions → List ℕ → List LoggedCall → List Call → List ℕ → Outcome → Type 0
IsFileVerdict options name logged history text said = MatchBool options.json
    (IsReport (Some name) options.k options.show logged history text said)
    ((brief : List ℕ) × IsBrief options.k logged history brief said × (text ≡ named_line name brief))

-- The same on the calls of some bytes, which the file had.
abbrev pub HasVerdict : JudgeFilesOptions → List ℕ → List ℕ → Outcome → Type 0
HasVerdict options name text said = (bytes : List ℕ) × ¬ (IsLongRecord bytes)
    × AnswersCalls (IsFileVerdict options name) bytes text said

-- why a file has no verdict: memory was refused, it was not read whole, or its bytes have no calls
abbrev pub IsFileFault : Fault → Type 0
IsFileFault fault = (fault ≡ Memory) ⊎ (fault ≡ Input)
    ⊎ ((bytes : List ℕ) × ¬ (IsLongRecord bytes) × IsNoCalls bytes fault)

-- a fault, and what is wrong in words
abbrev pub fault_said : List ℕ → List ℕ → List ℕ
fault_said fault words = fault ++ (codes " (" ++ (words ++ codes ")"))

-- The line of a fault, with some words behind it.
abbrev pub IsFaultLine : Bool → List ℕ → Fault → List ℕ → Type 0
IsFaultLine json name fault text = (words : List ℕ) × (text ≡ cond json (fault_report name (fault_text fault) words)
    (named_line name (fault_said (fault_text fault) words)))

-- the line of what came of a file
abbrev pub IsFileLine : JudgeFilesOptions → List ℕ → Found → List ℕ → Type 0
IsFileLine options name (Judged said) text = HasVerdict options name text said
IsFileLine options name (Unjudged fault) text = IsFileFault fault × IsFaultLine options.json name fault text

-- one more file is judged: it has a line more, and it is counted
abbrev pub JudgesOne : JudgeFilesOptions → List ℕ × Tally → List ℕ → List ℕ × Tally → Type 0
JudgesOne options before name after = (found : Found) × (text : List ℕ) × IsFileLine options name found text
    × (after ≡ (before.0 ++ text, tallied before.1 found))

-- these are the lines of the files with these names, in their order, and how many had which verdict
abbrev pub AreJudged : JudgeFilesOptions → List (Bor (List ℕ)) → List ℕ → Tally → Type 0
AreJudged options names lines tally =
    FoldsTo (JudgesOne options) ([], none) (map (λ name. name.now) names) (lines, tally)

-- the text and the status of `judge` for several files
pub record IsJudgeFiles (options : JudgeFilesOptions) (text : List ℕ) (status : ℕ) : Type 0 where
  pub lines : List ℕ
  pub tally : Tally
  pub judged : AreJudged options options.files.now lines tally
  pub text_is : text ≡ lines ++ summary options tally
  pub ended : status ≡ status_number (tally_status tally)

-- the spare line of a file says that memory ran out
abbrev pub IsSpare : JudgeFilesOptions → Pending → Type 0
IsSpare options file = IsFaultLine options.json file.name.now Memory (string_bytes file.spare)

-- these are the files that the options name, with their spare lines
abbrev pub ArePending : JudgeFilesOptions → List Pending → Type 0
ArePending options pending = (map (λ file. file.name.now) pending ≡ map (λ name. name.now) options.files.now)
    × All (IsSpare options) pending
