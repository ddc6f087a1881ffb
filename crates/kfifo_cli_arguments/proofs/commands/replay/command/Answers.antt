use Rattle.std.proofs.Common.{ap, codes, ◌∙◌, ◌≡◌}
use Rattle.std.proofs.lemmas.Result.{IfOk-weaker}
use Rattle.kfifo_cli_arguments.specs.CommandLine.{small_numbers, with_sizes, with_turns}
use Rattle.kfifo_cli_arguments.proofs.Rules.{adds, bare_command, help_rule, number_rule, text_rule}
use Rattle.kfifo_cli_arguments.proofs.commands.replay.command.Goals as goal

pub returns : goal.returns
returns c =
    let threads = small_numbers 0 63 in
    let picks_text = text_rule c.option.result c.value_name.result (codes "picks") _
    (c.option.ensures.rule, c.option.ensures.own)
    c.value_name.ensures in
    let picks = help_rule c.value_name.result c.help-picks.result _ _ picks_text c.help-picks.ensures in
    let stop_text = text_rule c.option-2.result c.value_name-2.result (codes "stop") _
    (c.option-2.ensures.rule, c.option-2.ensures.own)
    c.value_name-2.ensures in
    let stop_given = c.value_parser-2.ensures.given in
    let stop_range : c.range.result ≡ threads = rw (c.value_parser.ensures, c.new.ensures.end, c.new.ensures.start) at
    c.range.ensures in
    let stop_number = number_rule c.value_name-2.result c.value_parser-2.result (codes "stop") stop_given.0 threads
    stop_text
    c.value_parser-2.ensures.others stop_given.1 (stop_given.2 ∙ stop_range) in
    let stop = help_rule c.value_parser-2.result c.help-stop.result _ _ stop_number c.help-stop.ensures in
    let points = help_rule c.flag.result c.help-points.result _ _ (c.flag.ensures.rule, c.flag.ensures.own)
    c.help-points.ensures in
    let trace_flag = help_rule c.flag-2.result c.help-trace.result _ _ (c.flag-2.ensures.rule, c.flag-2.ensures.own)
    c.help-trace.ensures in
    let record_flag = help_rule c.flag-3.result c.help-record.result _ _ (c.flag-3.ensures.rule, c.flag-3.ensures.own)
    c.help-record.ensures in
    let bare = bare_command c.new-2.result c.about.result c.after_help.result c.after_long_help-command.result
    (codes "replay") _ _ _
    c.new-2.ensures.app c.new-2.ensures.local
    c.about.ensures c.after_help.ensures c.after_long_help-command.ensures in
    let sized = c.in_ok-command.ensures.0 ∙ ap with_sizes bare.0 in
    let turned = c.in_ok-with_turns.ensures.0 ∙ ap with_turns sized in
    let one = adds _ c.in_ok-arg.field-0 c.help-picks.result _ _ turned picks c.in_ok-arg.ensures in
    let two = adds _ c.in_ok-arg-2.field-0 c.help-stop.result _ _ one.0 stop c.in_ok-arg-2.ensures in
    let three = adds _ c.in_ok-arg-3.field-0 c.help-points.result _ _ two.0 points c.in_ok-arg-3.ensures in
    let four = adds _ c.in_ok-arg-4.field-0 c.help-trace.result _ _ three.0 trace_flag c.in_ok-arg-4.ensures in
    let five = adds _ c.in_ok-arg-5.field-0 c.help-record.result _ _ four.0 record_flag c.in_ok-arg-5.ensures in
    IfOk-weaker c.arg-6.result _ _ (λ r h.
    let all = adds _ r c.scripts-scripts.result _ _ five.0
    (c.scripts-scripts.ensures.rule, c.scripts-scripts.ensures.own) h in (
      all.0,
      all.1 ∙ (five.1 ∙ (four.1 ∙ (three.1
          ∙ (two.1 ∙ (one.1 ∙ (c.in_ok-with_turns.ensures.1 ∙ (c.in_ok-command.ensures.1 ∙ bare.1))))))),
    )) c.arg-6.ensures
