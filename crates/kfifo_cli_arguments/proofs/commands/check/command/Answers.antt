use Rattle.std.proofs.Common.{ap, codes, ◌∙◌}
use Rattle.std.proofs.lemmas.Result.{IfOk-weaker}
use Rattle.kfifo_cli_arguments.specs.CommandLine.{with_places}
use Rattle.kfifo_cli_arguments.proofs.Rules.{adds, bare_command, help_rule, text_rule}
use Rattle.kfifo_cli_arguments.proofs.commands.check.command.Goals as goal

pub returns : goal.returns
returns c =
    let text = text_rule c.option.result c.value_name.result (codes "order") _
    (c.option.ensures.rule, c.option.ensures.own)
    c.value_name.ensures in
    let order = help_rule c.value_name.result c.help-order.result _ _ text c.help-order.ensures in
    let bare = bare_command c.new.result c.about.result c.after_help.result c.after_long_help-command.result
    (codes "check") _ _ _
    c.new.ensures.app c.new.ensures.local
    c.about.ensures c.after_help.ensures c.after_long_help-command.ensures in
    let placed = c.in_ok-with_places.ensures.0 ∙ ap (with_places (codes "2")) bare.0 in
    IfOk-weaker c.arg.result _ _ (λ r h.
    let all = adds _ r c.help-order.result _ _ placed order h in
    (all.0, all.1 ∙ (c.in_ok-with_places.ensures.1 ∙ bare.1))) c.arg.ensures
