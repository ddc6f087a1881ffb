-- The exit status.
use Rattle.std.specs.Prelude.{ℕ}
use Rattle.kfifo_judge.specs.declared.outcome.Outcome.{Outcome}
use Rattle.kfifo_judge.specs.declared.outcome.Outcome.TheVariants as outcomes
use Rattle.kfifo_cli_commands.specs.declared.status.Status.{Status}
use Rattle.kfifo_cli_commands.specs.declared.status.Status.TheVariants.{Answered, Failed, Misused, Unordered, Undecided}

-- the exit status as a number
abbrev pub status_number : Status → ℕ
status_number Answered = 0
status_number Failed = 1
status_number Misused = 2
status_number Unordered = 3
status_number Undecided = 4

-- the status after what is said of a history
abbrev pub outcome_status : Outcome → Status
outcome_status outcomes.Answered = Answered
outcome_status outcomes.Unordered = Unordered
outcome_status outcomes.Undecided = Undecided
