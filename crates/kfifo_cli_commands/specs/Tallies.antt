-- How many of several files had which verdict.
use Rattle.std.specs.Prelude.{ℕ, zero, suc, ◌+◌, ◌<◌, List, [], ◌++◌, codes, cond, decimal, length}
use Rattle.kfifo_judge.specs.declared.outcome.Outcome.TheVariants.{Answered, Unordered, Undecided}
use Rattle.kfifo_cli_requests.specs.declared.requests.JudgeFilesOptions.{JudgeFilesOptions}
use Rattle.kfifo_cli_commands.specs.declared.status.Status.{Status}
use Rattle.kfifo_cli_commands.specs.declared.status.Status.TheVariants as statuses
use Rattle.kfifo_cli_commands.specs.declared.tally.Count.{Count}
use Rattle.kfifo_cli_commands.specs.declared.tally.Found.{Found}
use Rattle.kfifo_cli_commands.specs.declared.tally.Found.TheVariants.{Judged, Unjudged}
use Rattle.kfifo_cli_commands.specs.declared.tally.Tally.{Tally}

-- of no file
abbrev pub none : Tally
none = record { legal = 0; unordered = 0; undecided = 0; unjudged = 0 }

-- with one more file
abbrev pub tallied : Tally → Found → Tally
tallied t (Judged Answered) = record t { legal = t.legal + 1 }
tallied t (Judged Unordered) = record t { unordered = t.unordered + 1 }
tallied t (Judged Undecided) = record t { undecided = t.undecided + 1 }
tallied t (Unjudged fault) = record t { unjudged = t.unjudged + 1 }

-- fewer of each than that
abbrev pub IsBelow : ℕ → Tally → Type 0
IsBelow most t = (t.legal < most) × (t.unordered < most) × (t.undecided < most) × (t.unjudged < most)

-- the status where so many files have no order, no verdict, and neither an order nor evidence
abbrev pub status_by : ℕ → ℕ → ℕ → Status
status_by (suc n) unjudged undecided = statuses.Failed
status_by zero (suc n) undecided = statuses.Failed
status_by zero zero (suc n) = statuses.Undecided
status_by zero zero zero = statuses.Answered

-- the status for all files
abbrev pub tally_status : Tally → Status
tally_status t = status_by t.unordered t.unjudged t.undecided

abbrev pub counts_line : Tally → List ℕ
counts_line t = codes "legal " ++ (decimal t.legal ++ (codes ", no order " ++ (decimal t.unordered
    ++ (codes ", undecided " ++ (decimal t.undecided ++ (codes ", fault " ++ (decimal t.unjudged ++ codes "\n")))))))

-- the last line, where the others are no objects
abbrev pub summary : JudgeFilesOptions → Tally → List ℕ
summary options t = cond options.json [] ((codes "files " ++ (decimal (length options.files.now)
    ++ (codes " for k = " ++ (decimal options.k ++ codes ": ")))) ++ counts_line t)

-- a number of the last line behind what stands before it
abbrev pub counted : Count → List ℕ
counted count = count.before.now ++ decimal count.number
