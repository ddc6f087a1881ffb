use Rattle.std.proofs.Common.{ap, codes, ◌∙◌}
use Rattle.std.proofs.lemmas.Result.{IfOk-weaker}
use Rattle.kfifo_cli_arguments.specs.CommandLine.{with_sizes, with_turns}
use Rattle.kfifo_cli_arguments.proofs.Rules.{adds, bare_command, help_rule}
use Rattle.kfifo_cli_arguments.proofs.commands.run.command.Goals as goal

pub returns : goal.returns
returns c =
    let script = help_rule c.required_words.result c.help-script.result _ _
    (c.required_words.ensures.rule, c.required_words.ensures.own) c.help-script.ensures in
    let bare = bare_command c.new.result c.about.result c.after_help.result c.after_long_help-command.result
    (codes "run") _ _ _
    c.new.ensures.app c.new.ensures.local
    c.about.ensures c.after_help.ensures c.after_long_help-command.ensures in
    let sized = c.in_ok-command.ensures.0 ∙ ap with_sizes bare.0 in
    let turned = c.in_ok-with_turns.ensures.0 ∙ ap with_turns sized in
    IfOk-weaker c.arg.result _ _ (λ r h.
    let all = adds _ r c.help-script.result _ _ turned script h in
    (all.0, all.1 ∙ (c.in_ok-with_turns.ensures.1 ∙ (c.in_ok-command.ensures.1 ∙ bare.1)))) c.arg.ensures
