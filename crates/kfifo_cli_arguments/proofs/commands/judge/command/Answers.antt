use Rattle.std.proofs.Common.{ap, codes, ◌∙◌}
use Rattle.std.proofs.lemmas.Result.{IfOk-weaker}
use Rattle.kfifo_cli_arguments.specs.CommandLine.{with_files, with_places, with_tries}
use Rattle.kfifo_cli_arguments.proofs.Rules.{adds, bare_command, help_rule}
use Rattle.kfifo_cli_arguments.proofs.commands.judge.command.Goals as goal

pub returns : goal.returns
returns c =
    let show = help_rule c.flag.result c.help-show.result _ _ (c.flag.ensures.rule, c.flag.ensures.own)
    c.help-show.ensures in
    let json = help_rule c.flag-2.result c.help-json.result _ _ (c.flag-2.ensures.rule, c.flag-2.ensures.own)
    c.help-json.ensures in
    let bare = bare_command c.new.result c.about.result c.after_help.result c.after_long_help-command.result
    (codes "judge") _ _ _
    c.new.ensures.app c.new.ensures.local
    c.about.ensures c.after_help.ensures c.after_long_help-command.ensures in
    let placed = c.in_ok-command.ensures.0 ∙ ap (with_places (codes "1")) bare.0 in
    let tried = c.in_ok-with_tries.ensures.0 ∙ ap with_tries placed in
    let one = adds _ c.in_ok-arg.field-0 c.help-show.result _ _ tried show c.in_ok-arg.ensures in
    let all = adds _ c.in_ok-command-2.command c.help-json.result _ _ one.0 json c.in_ok-command-2.ensures in
    let own = all.1 ∙ (one.1 ∙ (c.in_ok-with_tries.ensures.1 ∙ (c.in_ok-command.ensures.1 ∙ bare.1))) in
    IfOk-weaker c.with_files.result _ _ (λ r h. (h.0 ∙ ap with_files all.0, h.1 ∙ own)) c.with_files.ensures
