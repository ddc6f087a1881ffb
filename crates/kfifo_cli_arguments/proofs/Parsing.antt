-- What a parse of the program's words gives.
use Rattle.std.proofs.Common.{◌≡◌, ◌≢◌, ◌∙◌, true, List, Option, Some, None, Result, IfOk, ap, ap₂, sym, subst, refl}
use Rattle.std.proofs.Common.{inl, inr, option_map}
use Rattle.std.proofs.lemmas.Result.{IfOk-weaker}
use Rattle.clap.proofs.OnLiterals.{clap_on_literals}
use Rattle.clap.specs.Faults.{fault_of, is_simple_and_free}
use Rattle.clap.specs.Kinds.{FailsBy, HasKind, IsAmong, Kinds}
use Rattle.clap.specs.Words.{App, HasMatchesOf, Row, Text, is_simple, kind_of, rows_of, subcommand_name_of}
use Rattle.clap.specs.Words.{subcommand_of, subcommand_rows, subcommand_rows_of}
use Rattle.std.specs.Prelude.{Box}
use Rattle.std.specs.Box.{box_value}
use Rattle.clap.specs.declared.error.kind.ErrorKind.{ErrorKind}
use Rattle.clap.specs.declared.error.kind.ErrorKind.TheVariants.{OutOfMemory}
use Rattle.clap.specs.declared.parser.matches.ArgMatches.TheViews.{out-ArgMatches, out-SubCommand}
use Rattle.clap.specs.declared.parser.matches.Found.{Found}
use Rattle.clap.specs.declared.parser.matches.SubCommand.{SubCommand}
use Rattle.kfifo_cli_arguments.specs.Requests.{Shows}
use Rattle.clap.specs.declared.error.Error.{Error}
use Rattle.clap.specs.declared.parser.matches.ArgMatches.{ArgMatches}
use Rattle.kfifo_cli_arguments.specs.CommandLine.{Names, kfifo, kinds, named}

simple : is_simple kfifo ≡ true
unfolding clap_on_literals
simple = refl

free : is_simple_and_free kfifo ≡ true
unfolding clap_on_literals
free = refl

named_is : (words : List Text) → subcommand_of kfifo words ≡ named words
unfolding named
named_is words = refl

kinds_are : (words : List Text) → fault_of kfifo words ≡ kinds words
unfolding kinds
kinds_are words = refl

-- the command that the matches name
pub names : (app : App) (words : List Text) (r : Result ArgMatches Error) → app ≡ kfifo
    → IfOk r (HasMatchesOf app words)
    → IfOk r (λ m. subcommand_rows_of m ≡ named words)
names app words r is h = IfOk-weaker r _ _
    (λ m has. (has (ap is_simple is ∙ simple)).1 ∙ (ap (λ (a : App). subcommand_of a words) is ∙ named_is words)) h

-- the kinds of the error
pub fails : (app : App) (words : List Text) (r : Result ArgMatches Error) → app ≡ kfifo
    → (is_simple_and_free app ≡ true → FailsBy (fault_of app words) r) → FailsBy (kinds words) r
fails app words r is h = subst (λ ks. FailsBy ks r) (ap (λ (a : App). fault_of a words) is ∙ kinds_are words)
    (h (ap is_simple_and_free is ∙ free))

module _ {Z : Type 0} where
  same_name : (o : Option (Box SubCommand Z))
      → option_map (λ b. (out-SubCommand (box_value b)).name.now) o ≡ option_map (λ p. p.0) (subcommand_rows o)
  same_name None = refl
  same_name (Some b) = refl

both_of : (o : Option (Text × List Row)) (name : Text) (rows : List Row) → option_map (λ p. p.0) o ≡ Some name
    → option_map (λ p. p.1) o ≡ Some rows → o ≡ Some (name, rows)
both_of None name rows e f = absurd (cc)
both_of (Some p) name rows e f =
    let first : p.0 ≡ name = cc in
    let second : p.1 ≡ rows = cc in
    ap₂ (λ (n : Text) (r : List Row). Some (n, r)) first second

-- the matches of the command that was named
pub named_as : (m : ArgMatches) (name : Text) (found : Found) → subcommand_name_of m ≡ Some name
    → option_map (λ p. p.1) (subcommand_rows_of m) ≡ Some (rows_of found) → Names (subcommand_rows_of m) name found
named_as m name found e f =
    both_of (subcommand_rows_of m) name (rows_of found) (sym (same_name (out-ArgMatches m).subcommand) ∙ e) f

-- help is shown where it was asked for
pub help_asked : (ks : Kinds) (e : Error) → HasKind ks e → Shows (kind_of e) → (kind : ErrorKind) × IsAmong kind ks
    × Shows kind
help_asked ks e (inl none) shows = elim shows [
  | inl help ↦ absurd (cc)
  | inr version ↦ absurd (cc)
]
help_asked ks e (inr among) shows = (kind_of e, among, shows)

-- the error of words that are at fault
pub at_fault : (ks : Kinds) (e : Error) → HasKind ks e → ¬ (Shows (kind_of e)) → kind_of e ≢ OutOfMemory
    → (kind : ErrorKind)
    × IsAmong kind ks × ¬ (Shows kind)
at_fault ks e (inl none) hides some = absurd (some none)
at_fault ks e (inr among) hides some = (kind_of e, among, hides)
