use Rattle.kfifo_cli_commands.proofs.calls.read_calls_given.Goals as goal

pub returns-in-None-clause-err : goal.returns-in-None-clause-err
returns-in-None-clause-err g c = rw c.in-None.is c.read_calls.ensures.err
