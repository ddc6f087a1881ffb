-- What the words of the command line come to.
use Rattle.std.specs.Prelude.{◌≡◌, ◌⊎◌, ℕ, List, [], Option}
use Rattle.clap.specs.Words.{Text}
use Rattle.kfifo_cli_texts.specs.declared.fault.Fault.{Fault}
use Rattle.kfifo_cli_texts.specs.declared.fault.Fault.TheVariants.{Memory}
use Rattle.kfifo_cli_requests.specs.declared.requests.Request.{Request}
use Rattle.kfifo_cli_texts.specs.Printing.{Nothing, Tells, Written}
use Rattle.kfifo_cli_commands.specs.Endings.{IsAnswered, IsRefused}
use Rattle.kfifo_cli_arguments.specs.CommandLine.{NamesNone, kinds, named}
use Rattle.kfifo_cli_arguments.specs.Requests.{AreAtFault, AskHelp, MakeRequest}

-- What is printed, with its status: help where the words ask for it, or the answer of their request. No read failed.
abbrev pub IsPrinted : List Text → Option (List ℕ) → ℕ → ℕ → List ℕ → ℕ → Type 0
IsPrinted words input before after text status = (AskHelp words × (status ≡ 0) × (after ≡ before))
    ⊎ ((request : Request) × MakeRequest words request × IsAnswered request input before after text status)

-- Why nothing is printed: memory was refused, or the request has no answer. No read failed but where that is the fault.
abbrev pub IsFault : List Text → Option (List ℕ) → ℕ → ℕ → Fault → Type 0
IsFault words input before after fault = ((fault ≡ Memory) × (after ≡ before))
    ⊎ ((request : Request) × MakeRequest words request × IsRefused request input before after fault)

-- The command line is at fault, and some text tells it; or it has no fault and names none of the commands, and nothing
-- is told.
abbrev pub IsMisuse : List Text → (Written → Type 0) → Type 0
IsMisuse words faults = (AreAtFault words × ((text : List ℕ) × Tells faults text))
    ⊎ ((kinds words ≡ []) × NamesNone (named words) × faults Nothing)
