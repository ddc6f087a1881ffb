use Rattle.std.proofs.Common.{ap, codes, ◌∙◌}
use Rattle.std.proofs.lemmas.Result.{IfOk-weaker}
use Rattle.kfifo_cli_arguments.specs.CommandLine.{with_sizes}
use Rattle.kfifo_cli_arguments.proofs.Rules.{adds, bare_command, help_rule}
use Rattle.kfifo_cli_arguments.proofs.commands.dispatch.command.Goals as goal

pub returns : goal.returns
returns c =
    let workers = help_rule c.number.result c.help-workers.result _ _ (c.number.ensures.rule, c.number.ensures.own)
    c.help-workers.ensures in
    let seed = help_rule c.number-2.result c.help-seed.result _ _ (c.number-2.ensures.rule, c.number-2.ensures.own)
    c.help-seed.ensures in
    let tasks = help_rule c.any_words.result c.help-tasks.result _ _ (c.any_words.ensures.rule, c.any_words.ensures.own)
    c.help-tasks.ensures in
    let bare = bare_command c.new.result c.about.result c.after_help.result c.after_long_help-command.result
    (codes "dispatch") _ _ _
    c.new.ensures.app c.new.ensures.local
    c.about.ensures c.after_help.ensures c.after_long_help-command.ensures in
    let sized = c.in_ok-with_sizes.ensures.0 ∙ ap with_sizes bare.0 in
    let one = adds _ c.in_ok-arg.field-0 c.help-workers.result _ _ sized workers c.in_ok-arg.ensures in
    let two = adds _ c.in_ok-arg-2.field-0 c.help-seed.result _ _ one.0 seed c.in_ok-arg-2.ensures in
    IfOk-weaker c.arg-3.result _ _ (λ r h.
    let all = adds _ r c.help-tasks.result _ _ two.0 tasks h in
    (all.0, all.1 ∙ (two.1 ∙ (one.1 ∙ (c.in_ok-with_sizes.ensures.1 ∙ bare.1))))) c.arg-3.ensures
