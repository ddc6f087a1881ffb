use Rattle.std.proofs.Common.{codes, refl, ◌∙◌, ◌≡◌}
use Rattle.std.proofs.lemmas.Result.{IfOk-weaker}
use Rattle.kfifo_cli_arguments.specs.CommandLine.{small_numbers}
use Rattle.kfifo_cli_arguments.proofs.Rules.{adds, default_rule, help_rule, number_rule, text_rule}
use Rattle.kfifo_cli_arguments.proofs.options.with_turns.Goals as goal

pub returns : goal.returns
returns c =
    let given = c.value_parser-2.ensures.given in
    let numbers : c.range.result ≡ small_numbers 1 65535 = rw c.value_parser.ensures at c.range.ensures in
    let text = text_rule c.option.result c.value_name.result (codes "turns") _
    (c.option.ensures.rule, c.option.ensures.own)
    c.value_name.ensures in
    let number = number_rule c.value_name.result c.value_parser-2.result (codes "turns") given.0
    (small_numbers 1 65535) text
    c.value_parser-2.ensures.others given.1 (given.2 ∙ numbers) in
    let default = default_rule c.value_parser-2.result c.default_value.result (codes "turns") (codes "2")
    (small_numbers 1 65535) _ number
    c.default_value.ensures refl in
    let rule = help_rule c.default_value.result c.help-turns.result _ _ default c.help-turns.ensures in
    IfOk-weaker c.arg.result _ _ (λ r h. adds _ r c.help-turns.result _ _ refl rule h) c.arg.ensures
