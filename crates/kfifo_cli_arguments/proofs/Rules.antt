-- What a parse reads of an option or a command, from the calls that make it.
use Rattle.std.proofs.Common.{◌≡◌, ◌∙◌, ◌||◌, Bool, true, false, List, ℕ, [], ◌∷◌, Option, Some, None, refl, ap, ap₂}
use Rattle.std.proofs.Common.{codes}
use Rattle.std.specs.Prelude.{IsSomeAnd}
use Rattle.std.specs.Borrow.{Bor}
use Rattle.clap.specs.Lexer.{usize_max}
use Rattle.clap.specs.Simple.{app_of_fields, on_top}
use Rattle.clap.specs.Words.{AddsArg, AddsSubcommand, App, Rule, Shape, Text, app_of, new_app, new_rule, rule_of}
use Rattle.clap.specs.Words.{with_rule, with_subcommand}
use Rattle.clap.specs.declared.builder.action.ArgAction.TheVariants.{Append, Set}
use Rattle.clap.specs.declared.builder.arg.Arg.{Arg}
use Rattle.clap.specs.declared.builder.command.Command.{Command}
use Rattle.clap.specs.declared.builder.command.Command.TheOpen.{Command-F}
use Rattle.clap.specs.declared.builder.command.Command.TheViews.{out-Command as fields_of}
use Rattle.clap.specs.declared.builder.range.ValueRange.{ValueRange}
use Rattle.clap.specs.declared.builder.texts.Texts.TheVariants.{One}
use Rattle.clap.specs.declared.builder.value_parser.ValueParser.{ValueParser}
use Rattle.kfifo_cli_arguments.specs.CommandLine.{IsCommand, any_words, bare_program, default_option, file_rule, many}
use Rattle.kfifo_cli_arguments.specs.CommandLine.{number_option, option, places_option, script, small_numbers}
use Rattle.kfifo_cli_arguments.specs.CommandLine.{text_option}

-- a parse reads this of the option, and it is not global
abbrev pub IsArg : Rule → Arg → Type 0
IsArg rule a = (rule_of a ≡ rule) × (a.global ≡ false)

-- a word of help for the value
pub text_rule : (o v : Arg) (name : Text) (word : Bor (List ℕ)) → IsArg (option name) o
    → v ≡ record o { val_names = One word }
    → IsArg (text_option name) v
text_rule o v name word oe ve =
    (ap rule_of ve ∙ ap (λ (r : Rule). record r { value_names = 1 }) oe.0, ap (λ (a : Arg). a.global) ve ∙ oe.1)

-- a parser of the value
pub number_rule : (v p : Arg) (name : Text) (q numbers : ValueParser) → IsArg (text_option name) v
    → p ≡ record v { value_parser = p.value_parser } → p.value_parser ≡ Some q → q ≡ numbers
    → IsArg (number_option name numbers) p
number_rule v p name q numbers ve others given is = (
  ap rule_of others ∙ ap₂ (λ (r : Rule) (x : Option ValueParser). record r { parser = x }) ve.0
      (given ∙ ap (λ (x : ValueParser). Some x) is),
  ap (λ (a : Arg). a.global) others ∙ ve.1,
)

-- a default
pub default_rule : (p d : Arg) (name default : Text) (numbers : ValueParser) (text : Bor (List ℕ))
    → IsArg (number_option name numbers) p
    → d ≡ record p { default_vals = One text } → text.now ≡ default
    → IsArg (default_option name numbers default) d
default_rule p d name default numbers text pe de te = (
  ap rule_of de ∙ ap₂ (λ (r : Rule) (t : Text). record r { defaults = t ∷ [] }) pe.0 te,
  ap (λ (a : Arg). a.global) de ∙ pe.1,
)

-- a short name of the option for k
pub places_rule : (d s : Arg) (least most : ℕ) (text : Text)
    → IsArg (default_option (codes "k") (small_numbers least most) text) d
    → s ≡ record d { short = Some 107 } → IsArg (places_option least most text) s
places_rule d s least most text de se = (
  ap rule_of se ∙ ap (λ (r : Rule). record r { short = Some 107 }) de.0,
  ap (λ (a : Arg). a.global) se ∙ de.1,
)

-- a text of help
pub help_rule : (a h : Arg) (rule : Rule) (text : Option (Bor (List ℕ))) → IsArg rule a → h ≡ record a { help = text }
    → IsArg rule h
help_rule a h rule text ae he = (ap rule_of he ∙ ae.0, ap (λ (x : Arg). x.global) he ∙ ae.1)

-- a value that is there
some_is : {X : Type 0} (o : Option X) (v : X) → IsSomeAnd o (λ x. x ≡ v) → o ≡ Some v
some_is None v h = absurd h
some_is (Some x) v h = ap (λ y. Some y) h

-- arguments behind the options, of which there may be none
pub many_rule : (n v a m : Arg) (name : Text) (word : Bor (List ℕ)) → IsArg (new_rule name) n
    → v ≡ record n { val_names = One word }
    → a ≡ record v { action = Some Append }
    → m ≡ record a { num_vals = m.num_vals } → IsSomeAnd m.num_vals
    (λ range. range ≡ record { start_inclusive = 1; end_inclusive = usize_max }) → IsArg (many name) m
many_rule n v a m name word ne ve ae me range = (
  ap rule_of me ∙ ap₂ (λ (x : Rule) (y : Option ValueRange). record x { range = y })
      (ap rule_of ae ∙ ap (λ (x : Rule). record x { action = Some Append })
      (ap rule_of ve ∙ ap (λ (x : Rule). record x { value_names = 1 }) ne.0)) (some_is m.num_vals _ range),
  ap (λ (x : Arg). x.global) me ∙ (ap (λ (x : Arg). x.global) ae ∙ (ap (λ (x : Arg). x.global) ve ∙ ne.1)),
)

-- the argument that names a file
pub file_rule_is : (n v a : Arg) (word : Bor (List ℕ)) → IsArg (new_rule (codes "file")) n
    → v ≡ record n { val_names = One word }
    → a ≡ record v { action = Some Set } → IsArg file_rule a
file_rule_is n v a word ne ve ae = (
  ap rule_of ae
      ∙ ap (λ (x : Rule). record x { action = Some Set })
      (ap rule_of ve ∙ ap (λ (x : Rule). record x { value_names = 1 }) ne.0),
  ap (λ (x : Arg). x.global) ae ∙ (ap (λ (x : Arg). x.global) ve ∙ ne.1),
)

-- words, at least one
pub required_rule : (m r : Arg) → IsArg any_words m → r ≡ record m { required = true } → IsArg script r
required_rule m r me re = (
  ap rule_of re ∙ ap (λ (x : Rule). record x { required = true }) me.0,
  ap (λ (x : Arg). x.global) re ∙ me.1,
)

or_false : (b : Bool) → (b || false) ≡ b
or_false true = refl
or_false false = refl

-- one more option
pub adds : (old new : Command) (a : Arg) (app : App) (rule : Rule) → app_of old ≡ app → IsArg rule a → AddsArg old a new
    → (app_of new ≡ with_rule app rule) × ((fields_of new).has_globals ≡ (fields_of old).has_globals)
adds old new a app rule oe re h = (
  h.shape re.1 ∙ ap₂ with_rule oe re.0,
  h.globals ∙ (ap (λ b. (fields_of old).has_globals || b) re.1 ∙ or_false (fields_of old).has_globals),
)

-- a command with texts of help
pub bare_command : (n a h l : Command) (name : Text) (about after details : Option (Bor (List ℕ)))
    → app_of n ≡ new_app name
    → (fields_of n).has_globals ≡ false
    → fields_of a ≡ record (fields_of n) { about = about } → fields_of h ≡ record (fields_of a) { after_help = after }
    → fields_of l ≡ record (fields_of h) { after_long_help = details } → IsCommand (new_app name) l
bare_command n a h l name about after details ne own ae he le = (
  ap app_of_fields le ∙ (ap app_of_fields he ∙ (ap app_of_fields ae ∙ ne)),
  ap (λ (f : Command-F Command). f.has_globals) le
      ∙ (ap (λ (f : Command-F Command). f.has_globals) he ∙ (ap (λ (f : Command-F Command). f.has_globals) ae ∙ own)),
)

-- the program before its commands
pub bare_program_is : (n b w v a h l s r : Command) (version : Bor (List ℕ))
    (about after details : Option (Bor (List ℕ)))
    → app_of n ≡ new_app (codes "kfifo") → (fields_of n).has_globals ≡ false
    → fields_of b ≡ record (fields_of n) { bin_name = (fields_of b).bin_name }
    → fields_of w ≡ record (fields_of b) { no_binary_name = true }
    → fields_of v ≡ record (fields_of w) { version = Some version }
    → fields_of a ≡ record (fields_of v) { about = about }
    → fields_of h ≡ record (fields_of a) { after_help = after }
    → fields_of l ≡ record (fields_of h) { after_long_help = details }
    → fields_of s ≡ record (fields_of l) { subcommand_required = true }
    → fields_of r ≡ record (fields_of s) { arg_required_else_help = true }
    → IsCommand bare_program r
bare_program_is n b w v a h l s r version about after details ne own be we ve ae he le se re = (
  ap app_of_fields re ∙ ap (on_top (λ (x : Shape). record x { arg_required_else_help = true }))
      (ap app_of_fields se ∙ ap (on_top (λ (x : Shape). record x { subcommand_required = true }))
      (ap app_of_fields le ∙ (ap app_of_fields he ∙ (ap app_of_fields ae
      ∙ (ap app_of_fields ve ∙ ap (on_top (λ (x : Shape). record x { has_version = true }))
      (ap app_of_fields we ∙ ap (on_top (λ (x : Shape). record x { no_binary_name = true }))
      (ap app_of_fields be ∙ ne))))))),
  ap (λ (f : Command-F Command). f.has_globals) re
      ∙ (ap (λ (f : Command-F Command). f.has_globals) se ∙ (ap (λ (f : Command-F Command). f.has_globals) le
      ∙ (ap (λ (f : Command-F Command). f.has_globals) he
      ∙ (ap (λ (f : Command-F Command). f.has_globals) ae
      ∙ (ap (λ (f : Command-F Command). f.has_globals) ve
      ∙ (ap (λ (f : Command-F Command). f.has_globals) we
      ∙ (ap (λ (f : Command-F Command). f.has_globals) be ∙ own))))))),
)

-- one more command
pub adds_command : (old sub new : Command) (app below : App) → IsCommand app old → IsCommand below sub
    → AddsSubcommand old sub new
    → IsCommand (with_subcommand app below.top) new
adds_command old sub new app below o s h = (
  h.shape s.1 ∙ ap₂ with_subcommand o.0 (ap (λ (a : App). a.top) s.0),
  h.globals ∙ (ap₂ (λ x y. x || y) o.1 s.1),
)
