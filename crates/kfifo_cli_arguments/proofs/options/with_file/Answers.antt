use Rattle.std.proofs.Common.{refl}
use Rattle.std.proofs.lemmas.Result.{IfOk-weaker}
use Rattle.kfifo_cli_arguments.proofs.Rules.{adds, file_rule_is, help_rule}
use Rattle.kfifo_cli_arguments.proofs.options.with_file.Goals as goal

pub returns : goal.returns
returns c =
    let given = file_rule_is c.new.result c.value_name.result c.action.result _
    (c.new.ensures.rule, c.new.ensures.optional.1)
    c.value_name.ensures c.action.ensures in
    let file = help_rule c.action.result c.help-file.result _ _ given c.help-file.ensures in
    IfOk-weaker c.arg.result _ _ (λ r h. adds _ r c.help-file.result _ _ refl file h) c.arg.ensures
