use Rattle.std.proofs.Common.{ap, codes, ◌∙◌}
use Rattle.std.proofs.lemmas.Result.{IfOk-weaker}
use Rattle.kfifo_cli_arguments.specs.CommandLine.{with_evidence_options, with_file, with_places, with_stretch_options}
use Rattle.kfifo_cli_arguments.specs.CommandLine.{with_style_options}
use Rattle.kfifo_cli_arguments.proofs.Rules.{adds, bare_command, help_rule, text_rule}
use Rattle.kfifo_cli_arguments.proofs.commands.draw.command.Goals as goal

pub returns : goal.returns
returns c =
    let taken = text_rule c.option.result c.value_name.result (codes "order") _
    (c.option.ensures.rule, c.option.ensures.own)
    c.value_name.ensures in
    let order = help_rule c.value_name.result c.help-order.result _ _ taken c.help-order.ensures in
    let bare = bare_command c.new.result c.about.result c.after_help.result c.after_long_help-command.result
    (codes "draw") _ _ _
    c.new.ensures.app c.new.ensures.local
    c.about.ensures c.after_help.ensures c.after_long_help-command.ensures in
    let placed = c.in_ok-with_places.ensures.0 ∙ ap (with_places (codes "1")) bare.0 in
    let one = adds _ c.in_ok-command.command c.help-order.result _ _ placed order c.in_ok-command.ensures in
    let two = c.in_ok-command-2.ensures.0 ∙ ap with_style_options one.0 in
    let three = c.in_ok-command-3.ensures.0 ∙ ap with_evidence_options two in
    let four = c.in_ok-command-4.ensures.0 ∙ ap with_stretch_options three in
    let own = c.in_ok-command-4.ensures.1 ∙ (c.in_ok-command-3.ensures.1 ∙ (c.in_ok-command-2.ensures.1
    ∙ (one.1 ∙ (c.in_ok-with_places.ensures.1 ∙ bare.1)))) in
    IfOk-weaker c.with_file.result _ _ (λ r h. (h.0 ∙ ap with_file four, h.1 ∙ own)) c.with_file.ensures
