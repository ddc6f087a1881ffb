use Rattle.kfifo_cli_commands.proofs.Counts.{summary_is}
use Rattle.kfifo_cli_commands.proofs.tally.counts_of.Goals as goal

pub returns : goal.returns
returns c = summary_is c.args.options c.args.tally
