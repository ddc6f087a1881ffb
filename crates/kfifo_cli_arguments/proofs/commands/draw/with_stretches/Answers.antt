use Rattle.std.proofs.Common.{codes, refl, ◌∙◌}
use Rattle.std.proofs.lemmas.Result.{IfOk-weaker}
use Rattle.kfifo_cli_arguments.proofs.Rules.{adds, help_rule, text_rule}
use Rattle.kfifo_cli_arguments.proofs.commands.draw.with_stretches.Goals as goal

pub returns : goal.returns
returns c =
    let calls_text = text_rule c.option.result c.value_name.result (codes "calls") _
    (c.option.ensures.rule, c.option.ensures.own)
    c.value_name.ensures in
    let calls = help_rule c.value_name.result c.help-calls.result _ _ calls_text c.help-calls.ensures in
    let lines_text = text_rule c.option-2.result c.value_name-2.result (codes "lines") _
    (c.option-2.ensures.rule, c.option-2.ensures.own)
    c.value_name-2.ensures in
    let lines = help_rule c.value_name-2.result c.help-lines.result _ _ lines_text c.help-lines.ensures in
    let one = adds _ c.in_ok-arg.field-0 c.help-calls.result _ _ refl calls c.in_ok-arg.ensures in
    IfOk-weaker c.arg-2.result _ _ (λ r h.
    let all = adds _ r c.help-lines.result _ _ one.0 lines h in
    (all.0, all.1 ∙ one.1)) c.arg-2.ensures
