use Rattle.std.proofs.Common.{codes, refl, ◌∙◌, ◌≡◌}
use Rattle.std.proofs.lemmas.Result.{IfOk-weaker}
use Rattle.kfifo_cli_arguments.specs.CommandLine.{small_numbers}
use Rattle.kfifo_cli_arguments.proofs.Rules.{adds, help_rule, number_rule, text_rule}
use Rattle.kfifo_cli_arguments.proofs.commands.draw.with_style.Goals as goal

pub returns : goal.returns
returns c =
    let numbers = small_numbers 200 16000 in
    let text = help_rule c.flag.result c.help-text.result _ _ (c.flag.ensures.rule, c.flag.ensures.own)
    c.help-text.ensures in
    let word = text_rule c.option.result c.value_name.result (codes "width") _
    (c.option.ensures.rule, c.option.ensures.own)
    c.value_name.ensures in
    let given = c.value_parser-2.ensures.given in
    let range : c.range.result ≡ numbers = rw (c.value_parser.ensures, c.new.ensures.end, c.new.ensures.start) at
    c.range.ensures in
    let number = number_rule c.value_name.result c.value_parser-2.result (codes "width") given.0 numbers word
    c.value_parser-2.ensures.others given.1 (given.2 ∙ range) in
    let width = help_rule c.value_parser-2.result c.help-width.result _ _ number c.help-width.ensures in
    let one = adds _ c.in_ok-arg.field-0 c.help-text.result _ _ refl text c.in_ok-arg.ensures in
    IfOk-weaker c.arg-2.result _ _ (λ r h.
    let all = adds _ r c.help-width.result _ _ one.0 width h in
    (all.0, all.1 ∙ one.1)) c.arg-2.ensures
