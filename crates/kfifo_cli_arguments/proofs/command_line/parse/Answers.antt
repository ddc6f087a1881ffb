use Rattle.kfifo_cli_arguments.proofs.Parsing.{fails, names}
use Rattle.kfifo_cli_arguments.proofs.command_line.parse.Goals as goal

pub returns : goal.returns
returns c =
    let parse = c.try_get_matches_from in
    record {
      named = names _ _ parse.result c.in_ok-command.ensures.0 parse.ensures.matches;
      kinds = fails _ _ parse.result c.in_ok-command.ensures.0 parse.ensures.kinds;
    }
