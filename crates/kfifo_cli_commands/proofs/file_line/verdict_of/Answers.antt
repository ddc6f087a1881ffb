use Rattle.std.proofs.Common.{List, option_map, subst}
use Rattle.std.specs.Prelude.{string_bytes}
use Rattle.kfifo_model.specs.declared.logged.LoggedCall.{LoggedCall}
use Rattle.kfifo_cli_commands.specs.FileVerdicts.{IsFileVerdict}
use Rattle.kfifo_cli_commands.proofs.file_line.verdict_of.Goals as goal

pub returns-clause-ok : goal.returns-clause-ok
returns-clause-ok g c =
    let read = c.in_ok-calls.ensures.ok in (
      read.0,
      read.1.1,
      record {
        history = c.in_ok-calls.calls.history;
        logged = option_map (λ logged. logged.items) c.in_ok-calls.calls.logged;
        calls = read.2;
        answer = subst (λ (logged : List LoggedCall). IsFileVerdict c.args.options c.args.name.now logged
            c.in_ok-calls.calls.history
            (string_bytes c.in_ok-said.said.0) c.in_ok-said.said.1) c.logged.ensures c.in_ok-said.ensures;
      },
    )
