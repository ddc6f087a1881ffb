-- What the words of the command line ask for.
use Rattle.std.specs.Prelude.{◌≡◌, ◌⊎◌, List, [], Option, codes}
use Rattle.clap.specs.Kinds.{IsAmong}
use Rattle.clap.specs.Words.{Row, Text}
use Rattle.clap.specs.declared.error.kind.ErrorKind.{ErrorKind}
use Rattle.clap.specs.declared.error.kind.ErrorKind.TheVariants.{DisplayHelp, DisplayVersion}
use Rattle.clap.specs.declared.parser.matches.Found.{Found}
use Rattle.kfifo_cli_requests.specs.declared.requests.Request.{Request}
use Rattle.kfifo_cli_requests.specs.declared.requests.Request.TheVariants.{Run, Check, Measure, Replay, Judge}
use Rattle.kfifo_cli_requests.specs.declared.requests.Request.TheVariants.{JudgeFiles, Least, Record, Import, Draw}
use Rattle.kfifo_cli_requests.specs.declared.requests.Request.TheVariants.{Dispatch, Explain}
use Rattle.kfifo_cli_arguments.specs.CommandLine.{Names, kinds, named}
use Rattle.kfifo_cli_arguments.specs.Options.{GivesCheck, GivesDispatch, GivesDraw, GivesExplain, GivesFile}
use Rattle.kfifo_cli_arguments.specs.Options.{GivesJudge, GivesJudgeFiles, GivesLeast, GivesRecord}
use Rattle.kfifo_cli_arguments.specs.Options.{GivesReplay, GivesRun}

-- the command that was named, with what its options were given, makes this request
abbrev pub Requests : Option (Text × List Row) → Request → Type 0
Requests command (Run options) = (found : Found) × Names command (codes "run") found × GivesRun found options
Requests command (Check options) = (found : Found) × Names command (codes "check") found × GivesCheck found options
Requests command Measure = (found : Found) × Names command (codes "measure") found
Requests command (Replay options) = (found : Found) × Names command (codes "replay") found × GivesReplay found options
Requests command (Judge options) = (found : Found) × Names command (codes "judge") found × GivesJudge found options
Requests command (JudgeFiles options) = (found : Found) × Names command (codes "judge") found
    × GivesJudgeFiles found options
Requests command (Least options) = (found : Found) × Names command (codes "least") found
    × GivesLeast found options
Requests command (Record options) = (found : Found) × Names command (codes "record") found × GivesRecord found options
Requests command (Import options) = (found : Found) × Names command (codes "import") found
    × GivesFile found options.file
Requests command (Draw options) = (found : Found) × Names command (codes "draw") found × GivesDraw found options
Requests command (Dispatch options) = (found : Found) × Names command (codes "dispatch") found
    × GivesDispatch found options
Requests command (Explain options) = (found : Found) × Names command (codes "explain") found
    × GivesExplain found options

-- the words have no fault and make this request
abbrev pub MakeRequest : List Text → Request → Type 0
MakeRequest words request = (kinds words ≡ []) × Requests (named words) request

-- an error of this kind shows what was asked for: help
abbrev pub Shows : ErrorKind → Type 0
Shows kind = (kind ≡ DisplayHelp) ⊎ (kind ≡ DisplayVersion)

-- the words ask for help
abbrev pub AskHelp : List Text → Type 0
AskHelp words = (kind : ErrorKind) × IsAmong kind (kinds words) × Shows kind

-- the words are at fault
abbrev pub AreAtFault : List Text → Type 0
AreAtFault words = (kind : ErrorKind) × IsAmong kind (kinds words) × ¬ (Shows kind)
