-- What the commands `judge` and `least` come to, by their options, their input and its failed reads.
use Rattle.std.specs.Prelude.{◌≡◌, ℕ, List, MatchBool, Option, option_map}
use Rattle.kfifo_model.specs.declared.calls.Call.{Call}
use Rattle.kfifo_model.specs.declared.logged.LoggedCall.{LoggedCall}
use Rattle.kfifo_judge.specs.declared.outcome.Outcome.{Outcome}
use Rattle.kfifo_judge.specs.Bounds.{IsLeastAnswer}
use Rattle.kfifo_judge.specs.Judgements.{IsJudgeAnswer}
use Rattle.kfifo_judge.specs.Reports.{IsReport}
use Rattle.kfifo_cli_texts.specs.declared.fault.Fault.{Fault}
use Rattle.kfifo_cli_texts.specs.declared.fault.Fault.TheVariants.{Input, Memory}
use Rattle.kfifo_cli_requests.specs.declared.requests.JudgeOptions.{JudgeOptions}
use Rattle.kfifo_cli_commands.specs.Inputs.{IsCalls, IsCallsInput, logged_calls}
use Rattle.kfifo_cli_commands.specs.Statuses.{outcome_status, status_number}

-- This is the text and the outcome for the calls of these bytes, as `IsAnswer` says of calls with what a log says of
-- them.
pub record AnswersCalls (IsAnswer : List LoggedCall → List Call → List ℕ → Outcome → Type 0) (bytes text : List ℕ)
    (said : Outcome) : Type 0 where
  pub history : List Call
  pub logged : Option (List LoggedCall)
  pub calls : IsCalls bytes history logged
  pub answer : IsAnswer (logged_calls logged) history text said

-- the same with the status that shows the outcome
abbrev pub EndsCalls : (List LoggedCall → List Call → List ℕ → Outcome → Type 0) → List ℕ → List ℕ → ℕ → Type 0
EndsCalls IsAnswer bytes text status = (said : Outcome) × AnswersCalls IsAnswer bytes text said
    × (status ≡ status_number (outcome_status said))

-- the text and the outcome of `judge` for calls: the lines of a verdict, or its object in JSON
abbrev pub IsVerdict : JudgeOptions → List LoggedCall → List Call → List ℕ → Outcome → Type 0
IsVerdict options logged history text said = MatchBool options.json
    (IsReport (option_map (λ name. name.now) options.file) options.k options.show logged history text said)
    (IsJudgeAnswer options.k options.show logged history text said)

-- the text and the status of `judge` for an input of these bytes
abbrev pub IsJudged : JudgeOptions → List ℕ → List ℕ → ℕ → Type 0
IsJudged options bytes text status = EndsCalls (IsVerdict options) bytes text status

-- the same of `least`
abbrev pub IsBounded : List ℕ → List ℕ → ℕ → Type 0
IsBounded bytes text status = EndsCalls IsLeastAnswer bytes text status

-- the text and the status of `judge`
pub record IsJudge (options : JudgeOptions) (input : Option (List ℕ)) (text : List ℕ) (status : ℕ) : Type 0 where
  pub bytes : List ℕ
  pub read : IsCallsInput input bytes
  pub judged : IsJudged options bytes text status

-- the same of `least`
pub record IsLeast (input : Option (List ℕ)) (text : List ℕ) (status : ℕ) : Type 0 where
  pub bytes : List ℕ
  pub read : IsCallsInput input bytes
  pub bounded : IsBounded bytes text status
