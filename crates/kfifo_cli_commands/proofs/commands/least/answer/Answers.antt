use Rattle.kfifo_cli_commands.proofs.commands.least.answer.Goals as goal

pub returns-clause-ok : goal.returns-clause-ok
returns-clause-ok g c =
    let read = c.in_ok-calls.ensures.ok in
    let said = c.in_ok-text.ensures.said in
    record {
      bytes = read.0;
      read = read.1;
      bounded = (said.0, record { history = _; logged = _; calls = read.2; answer = said.2 }, said.1);
    }
