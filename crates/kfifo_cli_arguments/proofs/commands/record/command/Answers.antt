use Rattle.std.proofs.Common.{ap, codes, refl, ◌∙◌, ◌≡◌}
use Rattle.std.proofs.lemmas.Result.{IfOk-weaker}
use Rattle.kfifo_cli_arguments.specs.CommandLine.{small_numbers, with_sizes, with_turns}
use Rattle.kfifo_cli_arguments.proofs.Rules.{adds, bare_command, default_rule, help_rule, number_rule}
use Rattle.kfifo_cli_arguments.proofs.Rules.{text_rule}
use Rattle.kfifo_cli_arguments.proofs.commands.record.command.Goals as goal

pub returns : goal.returns
returns c =
    let times = small_numbers 1 1024 in
    let given = c.value_parser-2.ensures.given in
    let range : c.range.result ≡ times = rw (c.value_parser.ensures, c.new.ensures.end, c.new.ensures.start) at
    c.range.ensures in
    let text = text_rule c.option.result c.value_name.result (codes "repeat") _
    (c.option.ensures.rule, c.option.ensures.own)
    c.value_name.ensures in
    let number = number_rule c.value_name.result c.value_parser-2.result (codes "repeat") given.0 times text
    c.value_parser-2.ensures.others
    given.1 (given.2 ∙ range) in
    let default = default_rule c.value_parser-2.result c.default_value.result (codes "repeat") (codes "1") times _
    number
    c.default_value.ensures refl in
    let repeat = help_rule c.default_value.result c.help-repeat.result _ _ default c.help-repeat.ensures in
    let bare = bare_command c.new-2.result c.about.result c.after_help.result c.after_long_help-command.result
    (codes "record") _ _ _
    c.new-2.ensures.app c.new-2.ensures.local
    c.about.ensures c.after_help.ensures c.after_long_help-command.ensures in
    let sized = c.in_ok-command.ensures.0 ∙ ap with_sizes bare.0 in
    let turned = c.in_ok-with_turns.ensures.0 ∙ ap with_turns sized in
    let one = adds _ c.in_ok-arg.field-0 c.help-repeat.result _ _ turned repeat c.in_ok-arg.ensures in
    IfOk-weaker c.arg-2.result _ _ (λ r h.
    let all = adds _ r c.scripts-scripts.result _ _ one.0
    (c.scripts-scripts.ensures.rule, c.scripts-scripts.ensures.own) h in
    (all.0, all.1 ∙ (one.1 ∙ (c.in_ok-with_turns.ensures.1 ∙ (c.in_ok-command.ensures.1 ∙ bare.1))))) c.arg-2.ensures
