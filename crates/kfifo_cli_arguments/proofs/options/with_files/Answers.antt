use Rattle.std.proofs.Common.{refl}
use Rattle.std.proofs.lemmas.Result.{IfOk-weaker}
use Rattle.kfifo_cli_arguments.proofs.Rules.{adds, help_rule}
use Rattle.kfifo_cli_arguments.proofs.options.with_files.Goals as goal

pub returns : goal.returns
returns c =
    let files = help_rule c.many.result c.help-files.result _ _ (c.many.ensures.rule, c.many.ensures.own)
    c.help-files.ensures in
    IfOk-weaker c.arg.result _ _ (λ r h. adds _ r c.help-files.result _ _ refl files h) c.arg.ensures
