-- How the command line is written: its commands, and the options of each.
use Rattle.std.specs.Prelude.{◌≡◌, ℕ, pos, true, false, List, [], ◌∷◌, Option, Some, codes}
use Rattle.clap.specs.Lexer.{usize_max}
use Rattle.clap.specs.Faults.{fault_of}
use Rattle.clap.specs.Kinds.{Kinds}
use Rattle.clap.specs.Words.{App, Row, Rule, Text, app_of, new_app, new_rule, with_rule, with_subcommand, rows_of}
use Rattle.clap.specs.Words.{subcommand_of}
use Rattle.clap.specs.declared.builder.action.ArgAction.TheVariants.{Set, Append, SetTrue}
use Rattle.clap.specs.declared.builder.command.Command.{Command}
use Rattle.clap.specs.declared.builder.command.Command.TheViews.{out-Command as fields_of}
use Rattle.clap.specs.declared.builder.value_parser.ValueParser.{ValueParser}
use Rattle.clap.specs.declared.builder.value_parser.ValueParser.TheVariants.{Signed, Unsigned}
use Rattle.clap.specs.declared.parser.matches.Found.{Found}

-- the option `--name`, which takes a value
abbrev pub option : Text → Rule
option name = record (new_rule name) { long = Some name; action = Some Set }

-- the option `--name`, which takes no value
abbrev pub flag : Text → Rule
flag name = record (new_rule name) { long = Some name; action = Some SetTrue }

-- the option that takes a value, where help has a word for the value
abbrev pub text_option : Text → Rule
text_option name = record (option name) { value_names = 1 }

-- the same, of a number that this parser admits
abbrev pub number_option : Text → ValueParser → Rule
number_option name numbers = record (text_option name) { parser = Some numbers }

-- the same, with a default
abbrev pub default_option : Text → ValueParser → Text → Rule
default_option name numbers default = record (number_option name numbers) { defaults = default ∷ [] }

-- numbers from least to most, of at most 32 bits
abbrev pub small_numbers : ℕ → ℕ → ValueParser
small_numbers least most = Signed (pos least) (pos most)

-- the option `-k` or `--k`, a number from least to most, with a default
abbrev pub places_option : ℕ → ℕ → Text → Rule
places_option least most default = record (default_option (codes "k") (small_numbers least most) default) {
  short =
      Some 107;
}

-- numbers up to the greatest version
abbrev pub versions : ValueParser
versions = Unsigned 0 1099511627775

-- the options of sizes
abbrev pub with_sizes : App → App
with_sizes app = with_rule (with_rule (with_rule (with_rule (with_rule app
    (places_option 0 4294967295 (codes "2")))
    (default_option (codes "segments") (small_numbers 0 4294967295) (codes "2")))
    (default_option (codes "last") versions (codes "1099511627775")))
    (number_option (codes "probes") (small_numbers 0 4294967295)))
    (flag (codes "hold-again"))

-- the option of the rounds of a call
abbrev pub with_turns : App → App
with_turns app = with_rule app (default_option (codes "turns") (small_numbers 1 65535) (codes "2"))

-- the option `--k` of those that ask for an order, with this default
abbrev pub with_places : Text → App → App
with_places default app = with_rule app (places_option 1 64 default)

-- the option of the choices that a search may undo
abbrev pub with_tries : App → App
with_tries app = with_rule app (default_option (codes "tries") (small_numbers 0 4294967295) (codes "1000000"))

-- the argument that names the file to be read, which may be left out
abbrev pub file_rule : Rule
file_rule = record (new_rule (codes "file")) { value_names = 1; action = Some Set }

abbrev pub with_file : App → App
with_file app = with_rule app file_rule

-- the arguments behind the options, of which there may be any number
abbrev pub many : Text → Rule
many name = record (new_rule name) {
  value_names = 1;
  action = Some Append;
  range = Some (record { start_inclusive = 1; end_inclusive = usize_max });
}

-- the files to be read, of which there may be any number
abbrev pub with_files : App → App
with_files app = with_rule app (many (codes "file"))

-- words, or none
abbrev pub any_words : Rule
any_words = many (codes "words")

-- the words of a script, at least one
abbrev pub script : Rule
script = record any_words { required = true }

-- the command `run`
abbrev pub run_command : App
run_command = with_rule (with_turns (with_sizes (new_app (codes "run")))) script

-- the command `check`
abbrev pub check_command : App
check_command = with_rule (with_places (codes "2") (new_app (codes "check"))) (text_option (codes "order"))

-- the command `measure`
abbrev pub measure_command : App
measure_command = new_app (codes "measure")

-- the command `replay`
abbrev pub replay_command : App
replay_command = with_rule (with_rule
    (with_rule (with_rule (with_rule (with_rule (with_turns (with_sizes (new_app (codes "replay"))))
    (text_option (codes "picks")))
    (number_option (codes "stop") (small_numbers 0 63)))
    (flag (codes "points")))
    (flag (codes "trace")))
    (flag (codes "record")))
    script

-- the command `judge`
abbrev pub judge_command : App
judge_command = with_files (with_rule (with_rule (with_tries (with_places (codes "1") (new_app (codes "judge"))))
    (flag (codes "show"))) (flag (codes "json")))

-- the command `least`
abbrev pub least_command : App
least_command = with_file (with_tries (new_app (codes "least")))

-- the command `record`
abbrev pub record_command : App
record_command = with_rule (with_rule (with_turns (with_sizes (new_app (codes "record"))))
    (default_option (codes "repeat") (small_numbers 1 1024) (codes "1")))
    script

-- the command `import`
abbrev pub import_command : App
import_command = with_file (new_app (codes "import"))

-- the options of `draw` that say what a picture is made of
abbrev pub with_style_options : App → App
with_style_options app = with_rule (with_rule app (flag (codes "text")))
    (number_option (codes "width") (small_numbers 200 16000))

-- the options of `draw` on evidence
abbrev pub with_evidence_options : App → App
with_evidence_options app = with_rule (with_rule app (flag (codes "evidence")))
    (number_option (codes "around") (small_numbers 0 4294967295))

-- the options of `draw` that say from where to where
abbrev pub with_stretch_options : App → App
with_stretch_options app = with_rule (with_rule app (text_option (codes "calls"))) (text_option (codes "lines"))

-- the command `draw`
abbrev pub draw_command : App
draw_command = with_file (with_stretch_options (with_evidence_options (with_style_options
    (with_rule (with_places (codes "1") (new_app (codes "draw"))) (text_option (codes "order"))))))

-- the command `explain`
abbrev pub explain_command : App
explain_command = with_rule (new_app (codes "explain")) script

-- the command `dispatch`
abbrev pub dispatch_command : App
dispatch_command = with_rule (with_rule (with_rule (with_sizes (new_app (codes "dispatch")))
    (default_option (codes "workers") (small_numbers 0 4294967295) (codes "2")))
    (default_option (codes "seed") (small_numbers 0 4294967295) (codes "0")))
    any_words

-- the program before its commands: its words begin with the first argument, and one has to be a command, or ask for the
-- version
abbrev pub bare_program : App
bare_program = record {
  top = record (new_app (codes "kfifo")).top {
    no_binary_name = true;
    has_version = true;
    subcommand_required = true;
    arg_required_else_help = true;
  };
  subs = [];
}

-- the program with its commands
abbrev pub kfifo : App
kfifo = with_subcommand (with_subcommand
    (with_subcommand (with_subcommand (with_subcommand
    (with_subcommand (with_subcommand (with_subcommand (with_subcommand (with_subcommand (with_subcommand bare_program
    run_command.top) check_command.top) measure_command.top) replay_command.top) judge_command.top) least_command.top)
    record_command.top) import_command.top) draw_command.top) dispatch_command.top) explain_command.top

-- the command that was named is this one, and its options have these entries
abbrev pub Names : Option (Text × List Row) → Text → Found → Type 0
Names command name found = command ≡ Some (name, rows_of found)

-- none of the commands was named
abbrev pub NamesNone : Option (Text × List Row) → Type 0
NamesNone command = (found : Found) → ¬ (Names command (codes "run") found) × ¬ (Names command (codes "check") found)
    × ¬ (Names command (codes "measure") found)
    × ¬ (Names command (codes "replay") found) × ¬ (Names command (codes "judge") found)
    × ¬ (Names command (codes "least") found)
    × ¬ (Names command (codes "record") found) × ¬ (Names command (codes "import") found)
    × ¬ (Names command (codes "draw") found)
    × ¬ (Names command (codes "dispatch") found) × ¬ (Names command (codes "explain") found)

-- a parse reads this of the command, and no argument of it is global
abbrev pub IsCommand : App → Command → Type 0
IsCommand app command = (app_of command ≡ app) × ((fields_of command).has_globals ≡ false)

-- the command that the words name, with what they and the defaults give its options
unfoldable pub named : List Text → Option (Text × List Row)
named words = subcommand_of kfifo words

-- the kinds of the first fault of the words, or of what they ask for in place of a command; none where they name a
-- command
unfoldable pub kinds : List Text → Kinds
kinds words = fault_of kfifo words
