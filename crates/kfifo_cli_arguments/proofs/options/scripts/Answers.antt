use Rattle.kfifo_cli_arguments.proofs.Rules.{help_rule}
use Rattle.kfifo_cli_arguments.proofs.options.scripts.Goals as goal

pub returns : goal.returns
returns c =
    let all = help_rule c.required_words.result c.help.result _ _
    (c.required_words.ensures.rule, c.required_words.ensures.own) c.help.ensures in
    record { rule = all.0; own = all.1 }
