use Rattle.kfifo_cli_arguments.proofs.Rules.{many_rule}
use Rattle.kfifo_cli_arguments.proofs.options.many.Goals as goal

pub returns : goal.returns
returns c =
    let all = many_rule c.new.result c.value_name.result c.action.result c.num_args.result c.args.name.now _
    (c.new.ensures.rule, c.new.ensures.optional.1) c.value_name.ensures c.action.ensures
    c.num_args.ensures.0 c.num_args.ensures.1 in
    record { rule = all.0; own = all.1 }
