-- What the options of a command give.
use Rattle.std.specs.Prelude.{◌≡◌, ◌≢◌, ◌⊎◌, ℕ, ◌^◌, ◌<◌, ◌≤◌, Bool, true, false, List, [], length, Option, Some, None}
use Rattle.std.specs.Prelude.{MatchOption, codes, map, max, min, option_map, unwrap_or}
use Rattle.std.specs.Str.Parse.{digits_value}
use denote.Ref.{Bor}
use Rattle.clap.specs.declared.parser.matches.Found.{Found}
use Rattle.clap.specs.Words.{first_value, matched_of, one_text, raw_values}
use Rattle.kfifo_cli_requests.specs.declared.requests.CheckOptions.{CheckOptions}
use Rattle.kfifo_cli_requests.specs.declared.requests.DispatchOptions.{DispatchOptions}
use Rattle.kfifo_cli_requests.specs.declared.requests.DrawOptions.{DrawOptions}
use Rattle.kfifo_cli_requests.specs.declared.requests.ExplainOptions.{ExplainOptions}
use Rattle.kfifo_cli_requests.specs.declared.requests.JudgeFilesOptions.{JudgeFilesOptions}
use Rattle.kfifo_cli_requests.specs.declared.requests.JudgeOptions.{JudgeOptions}
use Rattle.kfifo_cli_requests.specs.declared.requests.LeastOptions.{LeastOptions}
use Rattle.kfifo_cli_requests.specs.declared.requests.RecordOptions.{RecordOptions}
use Rattle.kfifo_cli_requests.specs.declared.requests.ReplayOptions.{ReplayOptions}
use Rattle.kfifo_cli_requests.specs.declared.requests.RunOptions.{RunOptions}
use Rattle.kfifo_cli_requests.specs.declared.sizes.Sizes.{Sizes}
use Rattle.kfifo_cli_requests.specs.Digits.{IsDigits}

-- an option with no text gives no number, and one whose digits write a number of so many bits gives that number
abbrev pub GivesNumber : ℕ → Option (List ℕ) → Option ℕ → Type 0
GivesNumber bits text number = MatchOption text (number ≡ None)
    (λ digits. IsDigits digits → 1 ≤ length digits → digits_value 10 digits < 2 ^ bits
    → number ≡ Some (digits_value 10 digits))

-- the same, where an option with no text has this default
pub record GivesOr (bits : ℕ) (text : Option (List ℕ)) (default number : ℕ) : Type 0 where
  pub given : Option ℕ
  pub gives : GivesNumber bits text given
  pub is : number ≡ unwrap_or given default

-- a flag is on where the command line has it
abbrev pub GivesFlag : Option (List ℕ) → Bool → Type 0
GivesFlag text flag = (text ≡ None → flag ≡ false) × (text ≡ Some (codes "true") → flag ≡ true)
    × (text ≡ Some (codes "false") → flag ≡ false)

-- the shape that the options give
pub record GivesSizes (found : Found) (sizes : Sizes) : Type 0 where
  pub k_given : GivesOr 32 (one_text found (codes "k")) 2 sizes.k
  pub segments_given : GivesOr 32 (one_text found (codes "segments")) 2 sizes.segments
  pub last_given : GivesOr 64 (one_text found (codes "last")) 1099511627775 sizes.last
  pub probes_given : GivesNumber 32 (one_text found (codes "probes")) sizes.probes
  pub hold_again_given : GivesFlag (one_text found (codes "hold-again")) sizes.hold_again

-- the rounds of a call, at least 1
abbrev pub GivesTurns : Found → ℕ → Type 0
GivesTurns found turns = (given : ℕ) × GivesOr 16 (one_text found (codes "turns")) 2 given × (turns ≡ max given 1)

-- the words that the last positional has, none where it is left out
abbrev pub given_words : Found → List (List ℕ)
given_words found = unwrap_or (option_map raw_values (matched_of found (codes "words"))) []

-- the options of `run`
pub record GivesRun (found : Found) (options : RunOptions) : Type 0 where
  pub sizes : GivesSizes found options.sizes
  pub turns : GivesTurns found options.turns
  pub words : map (λ word. word.now) options.words.now ≡ given_words found

-- the options of `replay`
pub record GivesReplay (found : Found) (options : ReplayOptions) : Type 0 where
  pub sizes : GivesSizes found options.sizes
  pub turns : GivesTurns found options.turns
  pub picks : options.picks.now ≡ unwrap_or (first_value found (codes "picks")) (codes "none")
  pub stopped : GivesNumber 32 (one_text found (codes "stop")) options.stopped
  pub points : GivesFlag (one_text found (codes "points")) options.points
  pub traced : GivesFlag (one_text found (codes "trace")) options.trace
  pub recorded : GivesFlag (one_text found (codes "record")) options.record
  pub scripts : map (λ script. script.now) options.scripts.now ≡ given_words found

-- how often scripts are made over, at least once
abbrev pub GivesTimes : Found → ℕ → Type 0
GivesTimes found times = (given : ℕ) × GivesOr 32 (one_text found (codes "repeat")) 1 given × (times ≡ max given 1)

-- the options of `record`
pub record GivesRecord (found : Found) (options : RecordOptions) : Type 0 where
  pub sizes : GivesSizes found options.sizes
  pub turns : GivesTurns found options.turns
  pub times : GivesTimes found options.repeat
  pub scripts : map (λ script. script.now) options.scripts.now ≡ given_words found

-- the option `--k` of those that ask for an order, from 1 to 64, with this default
abbrev pub GivesPlaces : Found → ℕ → ℕ → Type 0
GivesPlaces found default k = (given : ℕ) × GivesOr 32 (one_text found (codes "k")) default given
    × (k ≡ min (max given 1) 64)

-- the option `--tries`
abbrev pub GivesTries : Found → ℕ → Type 0
GivesTries found tries = GivesOr 32 (one_text found (codes "tries")) 1000000 tries

-- the path of the file to be read, where one is named; `-` stands for standard input
abbrev pub GivesFile : Found → Option (Bor (List ℕ)) → Type 0
GivesFile found None = (first_value found (codes "file") ≡ None) ⊎ (first_value found (codes "file") ≡ Some (codes "-"))
GivesFile found (Some path) = (first_value found (codes "file") ≡ Some path.now) × (path.now ≢ codes "-")

-- the options of `least`
pub record GivesLeast (found : Found) (options : LeastOptions) : Type 0 where
  pub tries : GivesTries found options.tries
  pub file : GivesFile found options.file

-- the paths of all files to be read, none where no file is named
abbrev pub given_files : Found → List (List ℕ)
given_files found = unwrap_or (option_map raw_values (matched_of found (codes "file"))) []

-- the options of `judge` for at most one file
pub record GivesJudge (found : Found) (options : JudgeOptions) : Type 0 where
  pub k : GivesPlaces found 1 options.k
  pub tries : GivesTries found options.tries
  pub show : GivesFlag (one_text found (codes "show")) options.show
  pub json : GivesFlag (one_text found (codes "json")) options.json
  pub one : length (given_files found) ≤ 1
  pub file : GivesFile found options.file

-- the options of `judge` for several files
pub record GivesJudgeFiles (found : Found) (options : JudgeFilesOptions) : Type 0 where
  pub k : GivesPlaces found 1 options.k
  pub tries : GivesTries found options.tries
  pub show : GivesFlag (one_text found (codes "show")) options.show
  pub json : GivesFlag (one_text found (codes "json")) options.json
  pub several : 1 < length (given_files found)
  pub files : map (λ file. file.now) options.files.now ≡ given_files found

-- the options of `check`
pub record GivesCheck (found : Found) (options : CheckOptions) : Type 0 where
  pub k : GivesPlaces found 2 options.k
  pub order : option_map (λ text. text.now) options.order ≡ first_value found (codes "order")

-- the options of `draw`
pub record GivesDraw (found : Found) (options : DrawOptions) : Type 0 where
  pub k : GivesPlaces found 1 options.check.k
  pub order : option_map (λ text. text.now) options.check.order ≡ first_value found (codes "order")
  pub text : GivesFlag (one_text found (codes "text")) options.text
  pub width : GivesNumber 32 (one_text found (codes "width")) options.width
  pub evidence : GivesFlag (one_text found (codes "evidence")) options.evidence
  pub around : GivesNumber 32 (one_text found (codes "around")) options.around
  pub calls : option_map (λ text. text.now) options.calls ≡ first_value found (codes "calls")
  pub lines : option_map (λ text. text.now) options.lines ≡ first_value found (codes "lines")
  pub file : GivesFile found options.file

-- the words of `explain`
abbrev pub GivesExplain : Found → ExplainOptions → Type 0
GivesExplain found options = map (λ word. word.now) options.words.now ≡ given_words found

-- the options of `dispatch`
pub record GivesDispatch (found : Found) (options : DispatchOptions) : Type 0 where
  pub sizes : GivesSizes found options.sizes
  pub workers : GivesOr 32 (one_text found (codes "workers")) 2 options.workers
  pub seed : GivesOr 32 (one_text found (codes "seed")) 0 options.seed
  pub words : map (λ word. word.now) options.words.now ≡ given_words found
