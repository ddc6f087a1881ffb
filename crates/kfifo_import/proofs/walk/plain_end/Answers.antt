use Rattle.std.proofs.Common.{arith, rules}
use Rattle.kfifo_import.proofs.Standing.{longer_part, no_part}
use Rattle.kfifo_import.proofs.walk.plain_end.Goals as goal

pub loop-end-init : goal.loop-end-init
loop-end-init c = no_part c.args.text.now c.args.at

pub loop-end-preserved : goal.loop-end-preserved
loop-end-preserved c =
    longer_part c.args.text.now c.args.at c.loop-end.end (omega arith) (omega arith) c.loop-end.invariant (search rules)
