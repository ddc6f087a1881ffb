use Rattle.kfifo_cli_arguments.proofs.Rules.{required_rule}
use Rattle.kfifo_cli_arguments.proofs.options.required_words.Goals as goal

pub returns : goal.returns
returns c =
    let all = required_rule c.any_words.result c.required.result (c.any_words.ensures.rule, c.any_words.ensures.own)
    c.required.ensures in
    record { rule = all.0; own = all.1 }
