use Rattle.kfifo_cli_arguments.proofs.commands.record.times_of.Goals as goal

pub returns-clause-given : goal.returns-clause-given
returns-clause-given c = (c.count_of.result, c.count_of.ensures, c.max.ensures)
