use Rattle.std.proofs.Common.{codes, ◌∙◌}
use Rattle.std.proofs.lemmas.Result.{IfOk-weaker}
use Rattle.kfifo_cli_arguments.proofs.Rules.{adds, bare_command, help_rule}
use Rattle.kfifo_cli_arguments.proofs.commands.explain.command.Goals as goal

pub returns : goal.returns
returns c =
    let words = help_rule c.required_words.result c.help-words.result _ _
    (c.required_words.ensures.rule, c.required_words.ensures.own) c.help-words.ensures in
    let bare = bare_command c.new.result c.about.result c.after_help.result c.after_long_help.result (codes "explain")
    _ _ _
    c.new.ensures.app c.new.ensures.local
    c.about.ensures c.after_help.ensures c.after_long_help.ensures in
    IfOk-weaker c.arg.result _ _ (λ r h.
    let all = adds _ r c.help-words.result _ _ bare.0 words h in
    (all.0, all.1 ∙ bare.1)) c.arg.ensures
