use Rattle.std.proofs.Common.{ap, codes, ◌∙◌}
use Rattle.std.proofs.lemmas.Result.{IfOk-weaker}
use Rattle.kfifo_cli_arguments.specs.CommandLine.{with_file, with_tries}
use Rattle.kfifo_cli_arguments.proofs.Rules.{bare_command}
use Rattle.kfifo_cli_arguments.proofs.commands.least.command.Goals as goal

pub returns : goal.returns
returns c =
    let bare = bare_command c.new.result c.about.result c.after_help.result c.after_long_help-command.result
    (codes "least") _ _ _
    c.new.ensures.app c.new.ensures.local
    c.about.ensures c.after_help.ensures c.after_long_help-command.ensures in
    let tried = c.in_ok-command.ensures.0 ∙ ap with_tries bare.0 in
    let own = c.in_ok-command.ensures.1 ∙ bare.1 in
    IfOk-weaker c.with_file.result _ _ (λ r h. (h.0 ∙ ap with_file tried, h.1 ∙ own)) c.with_file.ensures
