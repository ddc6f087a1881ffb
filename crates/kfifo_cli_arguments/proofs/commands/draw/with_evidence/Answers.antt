use Rattle.std.proofs.Common.{codes, refl, ◌∙◌, ◌≡◌}
use Rattle.std.proofs.lemmas.Result.{IfOk-weaker}
use Rattle.kfifo_cli_arguments.specs.CommandLine.{small_numbers}
use Rattle.kfifo_cli_arguments.proofs.Rules.{adds, help_rule, number_rule, text_rule}
use Rattle.kfifo_cli_arguments.proofs.commands.draw.with_evidence.Goals as goal

pub returns : goal.returns
returns c =
    let numbers = small_numbers 0 4294967295 in
    let evidence = help_rule c.flag.result c.help-evidence.result _ _ (c.flag.ensures.rule, c.flag.ensures.own)
    c.help-evidence.ensures in
    let text = text_rule c.option.result c.value_name.result (codes "around") _
    (c.option.ensures.rule, c.option.ensures.own)
    c.value_name.ensures in
    let given = c.value_parser-2.ensures.given in
    let range : c.value_parser.result ≡ numbers = c.value_parser.ensures in
    let number = number_rule c.value_name.result c.value_parser-2.result (codes "around") given.0 numbers text
    c.value_parser-2.ensures.others given.1 (given.2 ∙ range) in
    let around = help_rule c.value_parser-2.result c.help-around.result _ _ number c.help-around.ensures in
    let one = adds _ c.in_ok-arg.field-0 c.help-evidence.result _ _ refl evidence c.in_ok-arg.ensures in
    IfOk-weaker c.arg-2.result _ _ (λ r h.
    let all = adds _ r c.help-around.result _ _ one.0 around h in
    (all.0, all.1 ∙ one.1)) c.arg-2.ensures
