use Rattle.std.proofs.Common.{codes, refl}
use Rattle.clap.specs.Words.{found_of}
use Rattle.kfifo_cli_arguments.proofs.Parsing.{named_as}
use Rattle.kfifo_cli_arguments.proofs.command_line.request_of.Goals as goal

pub returns-in-Some-clause-some : goal.returns-in-Some-clause-some
returns-in-Some-clause-some c = (
  found_of c.in-Some.options.now,
  named_as c.args.matches.now (codes "run") (found_of c.in-Some.options.now) (c.in-Some.ensures.found.0 refl)
      c.in-Some.ensures.rows,
  c.options_of.ensures,
)

pub returns-in-Some-subcommand_matches-clause-some : goal.returns-in-Some-subcommand_matches-clause-some
returns-in-Some-subcommand_matches-clause-some c =
    let found = c.in-Some-subcommand_matches in (
      found_of found.options.now,
      named_as c.args.matches.now (codes "check") (found_of found.options.now) (found.ensures.found.0 refl)
          found.ensures.rows,
      c.options_of-in-Some-subcommand_matches.ensures,
    )

pub returns-in-Some-subcommand_matches-2-clause-some : goal.returns-in-Some-subcommand_matches-2-clause-some
returns-in-Some-subcommand_matches-2-clause-some c =
    let found = c.in-Some-subcommand_matches-2 in (
      found_of found.field-0.now,
      named_as c.args.matches.now (codes "measure") (found_of found.field-0.now) (found.ensures.found.0 refl)
          found.ensures.rows,
    )

pub returns-in-Some-subcommand_matches-3-clause-some : goal.returns-in-Some-subcommand_matches-3-clause-some
returns-in-Some-subcommand_matches-3-clause-some c =
    let found = c.in-Some-subcommand_matches-3 in (
      found_of found.options.now,
      named_as c.args.matches.now (codes "replay") (found_of found.options.now) (found.ensures.found.0 refl)
          found.ensures.rows,
      c.options_of-in-Some-subcommand_matches-3.ensures,
    )

pub returns-in-Some-subcommand_matches-4-clause-some : goal.returns-in-Some-subcommand_matches-4-clause-some
returns-in-Some-subcommand_matches-4-clause-some c =
    let found = c.in-Some-subcommand_matches-4 in (
      found_of found.options.now,
      named_as c.args.matches.now (codes "judge") (found_of found.options.now) (found.ensures.found.0 refl)
          found.ensures.rows,
      c.options_of-in-Some-subcommand_matches-4.ensures,
    )

pub returns-then-names_several-clause-some : goal.returns-then-names_several-clause-some
returns-then-names_several-clause-some c =
    let found = c.in-Some-subcommand_matches-4 in (
      found_of found.options.now,
      named_as c.args.matches.now (codes "judge") (found_of found.options.now) (found.ensures.found.0 refl)
          found.ensures.rows,
      c.files_options_of.ensures,
    )

pub returns-in-Some-subcommand_matches-5-clause-some : goal.returns-in-Some-subcommand_matches-5-clause-some
returns-in-Some-subcommand_matches-5-clause-some c =
    let found = c.in-Some-subcommand_matches-5 in (
      found_of found.options.now,
      named_as c.args.matches.now (codes "least") (found_of found.options.now) (found.ensures.found.0 refl)
          found.ensures.rows,
      c.options_of-in-Some-subcommand_matches-5.ensures,
    )

pub returns-in-Some-subcommand_matches-6-clause-some : goal.returns-in-Some-subcommand_matches-6-clause-some
returns-in-Some-subcommand_matches-6-clause-some c =
    let found = c.in-Some-subcommand_matches-6 in (
      found_of found.options.now,
      named_as c.args.matches.now (codes "record") (found_of found.options.now) (found.ensures.found.0 refl)
          found.ensures.rows,
      c.options_of-in-Some-subcommand_matches-6.ensures,
    )

pub returns-in-Some-subcommand_matches-7-clause-some : goal.returns-in-Some-subcommand_matches-7-clause-some
returns-in-Some-subcommand_matches-7-clause-some c =
    let found = c.in-Some-subcommand_matches-7 in (
      found_of found.options.now,
      named_as c.args.matches.now (codes "import") (found_of found.options.now) (found.ensures.found.0 refl)
          found.ensures.rows,
      c.options_of-in-Some-subcommand_matches-7.ensures,
    )

pub returns-in-Some-subcommand_matches-8-clause-some : goal.returns-in-Some-subcommand_matches-8-clause-some
returns-in-Some-subcommand_matches-8-clause-some c =
    let found = c.in-Some-subcommand_matches-8 in (
      found_of found.options.now,
      named_as c.args.matches.now (codes "draw") (found_of found.options.now) (found.ensures.found.0 refl)
          found.ensures.rows,
      c.options_of-in-Some-subcommand_matches-8.ensures,
    )

pub returns-in-Some-subcommand_matches-9-clause-some : goal.returns-in-Some-subcommand_matches-9-clause-some
returns-in-Some-subcommand_matches-9-clause-some c =
    let found = c.in-Some-subcommand_matches-9 in (
      found_of found.options.now,
      named_as c.args.matches.now (codes "dispatch") (found_of found.options.now) (found.ensures.found.0 refl)
          found.ensures.rows,
      c.options_of-in-Some-subcommand_matches-9.ensures,
    )

pub returns-in-Some-subcommand_matches-10-clause-some : goal.returns-in-Some-subcommand_matches-10-clause-some
returns-in-Some-subcommand_matches-10-clause-some c =
    let found = c.in-Some-subcommand_matches-10 in (
      found_of found.options.now,
      named_as c.args.matches.now (codes "explain") (found_of found.options.now) (found.ensures.found.0 refl)
          found.ensures.rows,
      c.options_of-in-Some-subcommand_matches-10.ensures,
    )
