-- A verdict in one line.
use Rattle.std.specs.Prelude.{ℕ, ◌≡◌, List, ◌++◌, codes, decimal, length}
use Rattle.kfifo_model.specs.declared.calls.Call.{Call}
use Rattle.kfifo_model.specs.declared.logged.LoggedCall.{LoggedCall}
use Rattle.kfifo_verdict.specs.declared.verdicts.Judgement.{Judgement}
use Rattle.kfifo_verdict.specs.declared.verdicts.Judgement.TheVariants.{Legal, NoOrder, Undecided}
use Rattle.kfifo_verdict.specs.Judging.{IsJudgement}
use Rattle.kfifo_judge.specs.declared.outcome.Outcome.{Outcome}
use Rattle.kfifo_judge.specs.Headlines.{headline_text}
use Rattle.kfifo_judge.specs.Judgements.{outcome, stuck_text}

-- a verdict, with the number of calls that it is about
abbrev pub counted : List ℕ → List Call → List ℕ
counted verdict h = verdict ++ (codes ", calls " ++ decimal (length h))

-- why a verdict is so
abbrev pub said_of : List ℕ → List ℕ
said_of said = codes ": " ++ said

-- what is said of a verdict
abbrev pub brief : List LoggedCall → List Call → Judgement → List ℕ
brief logged h (Legal order) = counted (codes "legal") h
brief logged h (NoOrder found) = counted (codes "no order") h ++ said_of (headline_text logged h found)
brief logged h (Undecided stuck) = counted (codes "undecided") h ++ said_of (stuck_text stuck)

-- this is the line and the outcome of a verdict on a history
abbrev pub IsBrief : ℕ → List LoggedCall → List Call → List ℕ → Outcome → Type 0
IsBrief k logged h text said = (judgement : Judgement) × IsJudgement k h judgement × (text ≡ brief logged h judgement)
    × (said ≡ outcome judgement)
