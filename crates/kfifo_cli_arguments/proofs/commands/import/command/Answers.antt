use Rattle.std.proofs.Common.{ap, codes, ◌∙◌}
use Rattle.std.proofs.lemmas.Result.{IfOk-weaker}
use Rattle.kfifo_cli_arguments.specs.CommandLine.{with_file}
use Rattle.kfifo_cli_arguments.proofs.Rules.{bare_command}
use Rattle.kfifo_cli_arguments.proofs.commands.import.command.Goals as goal

pub returns : goal.returns
returns c =
    let bare = bare_command c.new.result c.about.result c.after_help.result c.after_long_help-command.result
    (codes "import") _ _ _
    c.new.ensures.app c.new.ensures.local
    c.about.ensures c.after_help.ensures c.after_long_help-command.ensures in
    IfOk-weaker c.with_file.result _ _ (λ r h. (h.0 ∙ ap with_file bare.0, h.1 ∙ bare.1)) c.with_file.ensures
