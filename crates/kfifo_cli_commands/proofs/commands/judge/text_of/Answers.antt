use Rattle.std.proofs.Common.{List, ap, subst}
use Rattle.std.specs.Prelude.{string_bytes}
use Rattle.kfifo_model.specs.declared.logged.LoggedCall.{LoggedCall}
use Rattle.kfifo_cli_commands.specs.Statuses.{status_number}
use Rattle.kfifo_cli_commands.specs.Verdicts.{IsVerdict}
use Rattle.kfifo_cli_commands.proofs.commands.judge.text_of.Goals as goal

pub returns-clause-said : goal.returns-clause-said
returns-clause-said c = (
  c.in_ok-text.said,
  ap status_number c.status_of.ensures,
  subst (λ (logged : List LoggedCall). IsVerdict c.args.options logged c.args.calls.now.history
      (string_bytes c.in_ok-text.text) c.in_ok-text.said) c.logged.ensures c.in_ok-text.ensures,
)
