use Rattle.std.proofs.Common.{codes, refl, ◌∙◌, ◌≡◌}
use Rattle.std.proofs.lemmas.Result.{IfOk-weaker}
use Rattle.kfifo_cli_arguments.specs.CommandLine.{small_numbers}
use Rattle.kfifo_cli_arguments.proofs.Rules.{adds, default_rule, help_rule, number_rule, places_rule, text_rule}
use Rattle.kfifo_cli_arguments.proofs.options.with_places.Goals as goal

pub returns : goal.returns
returns c =
    let widths = small_numbers 1 64 in
    let text = text_rule c.option.result c.value_name.result (codes "k") _ (c.option.ensures.rule, c.option.ensures.own)
    c.value_name.ensures in
    let given = c.value_parser-2.ensures.given in
    let range : c.range.result ≡ widths = rw (c.value_parser.ensures, c.new.ensures.start, c.new.ensures.end) at
    c.range.ensures in
    let number = number_rule c.value_name.result c.value_parser-2.result (codes "k") given.0 widths text
    c.value_parser-2.ensures.others
    given.1 (given.2 ∙ range) in
    let default = default_rule c.value_parser-2.result c.default_value.result (codes "k") c.args.default.now widths _
    number
    c.default_value.ensures refl in
    let places = places_rule c.default_value.result c.short.result _ _ _ default c.short.ensures in
    let k = help_rule c.short.result c.help-k.result _ _ places c.help-k.ensures in
    IfOk-weaker c.arg.result _ _ (λ r h. adds _ r c.help-k.result _ _ refl k h) c.arg.ensures
