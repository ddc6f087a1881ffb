use Rattle.std.proofs.Common.{refl, ◌∙◌}
use Rattle.kfifo_cli_arguments.specs.CommandLine.{small_numbers}
use Rattle.kfifo_cli_arguments.proofs.Rules.{default_rule, number_rule, text_rule}
use Rattle.kfifo_cli_arguments.proofs.options.number.Goals as goal

pub returns : goal.returns
returns c =
    let small = small_numbers 0 4294967295 in
    let text = text_rule c.option.result c.value_name.result c.args.name.now _
    (c.option.ensures.rule, c.option.ensures.own) c.value_name.ensures in
    let given = c.value_parser-2.ensures.given in
    let number = number_rule c.value_name.result c.value_parser-2.result c.args.name.now given.0 small text
    c.value_parser-2.ensures.others given.1 (given.2 ∙ c.value_parser.ensures) in
    let all = default_rule c.value_parser-2.result c.default_value.result c.args.name.now c.args.default.now small _
    number c.default_value.ensures refl in
    record { rule = all.0; own = all.1 }
