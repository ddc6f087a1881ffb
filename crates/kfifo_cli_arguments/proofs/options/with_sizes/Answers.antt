use Rattle.std.proofs.Common.{codes, refl, ◌∙◌, ◌≡◌}
use Rattle.std.proofs.lemmas.Result.{IfOk-weaker}
use Rattle.kfifo_cli_arguments.specs.CommandLine.{small_numbers, versions}
use Rattle.kfifo_cli_arguments.proofs.Rules.{adds, default_rule, help_rule, number_rule, places_rule, text_rule}
use Rattle.kfifo_cli_arguments.proofs.options.with_sizes.Goals as goal

pub returns : goal.returns
returns c =
    let small = small_numbers 0 4294967295 in
    let k_places = places_rule c.number.result c.short.result _ _ _ (c.number.ensures.rule, c.number.ensures.own)
    c.short.ensures in
    let k = help_rule c.short.result c.help-k.result _ _ k_places c.help-k.ensures in
    let n = help_rule c.number-2.result c.help-segments.result _ _ (c.number-2.ensures.rule, c.number-2.ensures.own)
    c.help-segments.ensures in
    let l_text = text_rule c.option.result c.value_name.result (codes "last") _
    (c.option.ensures.rule, c.option.ensures.own)
    c.value_name.ensures in
    let l_given = c.value_parser-2.ensures.given in
    let l_range : c.range.result ≡ versions = rw (c.value_parser.ensures, c.new.ensures.end, c.new.ensures.start) at
    c.range.ensures in
    let l_number = number_rule c.value_name.result c.value_parser-2.result (codes "last") l_given.0 versions l_text
    c.value_parser-2.ensures.others l_given.1 (l_given.2 ∙ l_range) in
    let l_default = default_rule c.value_parser-2.result c.default_value.result (codes "last") (codes "1099511627775")
    versions _ l_number
    c.default_value.ensures refl in
    let l = help_rule c.default_value.result c.help-last.result _ _ l_default c.help-last.ensures in
    let p_text = text_rule c.option-2.result c.value_name-2.result (codes "probes") _
    (c.option-2.ensures.rule, c.option-2.ensures.own)
    c.value_name-2.ensures in
    let p_given = c.value_parser-4.ensures.given in
    let p_number = number_rule c.value_name-2.result c.value_parser-4.result (codes "probes") p_given.0 small p_text
    c.value_parser-4.ensures.others p_given.1 (p_given.2 ∙ c.value_parser-3.ensures) in
    let p = help_rule c.value_parser-4.result c.help-probes.result _ _ p_number c.help-probes.ensures in
    let one = adds _ c.in_ok-arg.field-0 c.help-k.result _ _ refl k c.in_ok-arg.ensures in
    let two = adds _ c.in_ok-arg-2.field-0 c.help-segments.result _ _ one.0 n c.in_ok-arg-2.ensures in
    let three = adds _ c.in_ok-arg-3.field-0 c.help-last.result _ _ two.0 l c.in_ok-arg-3.ensures in
    let again = help_rule c.flag.result c.help-hold_again.result _ _ (c.flag.ensures.rule, c.flag.ensures.own)
    c.help-hold_again.ensures in
    let four = adds _ c.in_ok-arg-4.field-0 c.help-probes.result _ _ three.0 p c.in_ok-arg-4.ensures in
    IfOk-weaker c.arg-5.result _ _ (λ r h.
    let five = adds _ r c.help-hold_again.result _ _ four.0 again h in
    (five.0, five.1 ∙ (four.1 ∙ (three.1 ∙ (two.1 ∙ one.1))))) c.arg-5.ensures
