use Rattle.std.proofs.Common.{refl}
use Rattle.std.proofs.lemmas.Result.{IfOk-weaker}
use Rattle.kfifo_cli_arguments.proofs.Rules.{adds, help_rule}
use Rattle.kfifo_cli_arguments.proofs.options.with_tries.Goals as goal

pub returns : goal.returns
returns c =
    let tries = help_rule c.number.result c.help-tries.result _ _ (c.number.ensures.rule, c.number.ensures.own)
    c.help-tries.ensures in
    IfOk-weaker c.arg.result _ _ (λ r h. adds _ r c.help-tries.result _ _ refl tries h) c.arg.ensures
