use Rattle.std.proofs.Common.{arith}
use Rattle.kfifo_model.specs.declared.effects.Side.TheVariants.{In}
use Rattle.kfifo_verdict.proofs.EmptyWhileLeft.{count_up_to}
use Rattle.kfifo_verdict.proofs.older.count_before.Goals as goal

pub overflow_sub-result : goal.overflow_sub-result
overflow_sub-result c =
    let all = count_up_to In c.args.item c.args.step c.args.steps.now in
    let below = c.count_below-below.ensures in
    let until = c.count_until-until.ensures in
    omega (arith, all, below, until)

pub returns : goal.returns
returns c =
    let all = count_up_to In c.args.item c.args.step c.args.steps.now in
    let below = c.count_below-below.ensures in
    let until = c.count_until-until.ensures in
    omega (arith, all, below, until)
