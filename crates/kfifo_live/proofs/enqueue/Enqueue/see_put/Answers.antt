use Rattle.std.proofs.Common.{arith}
use Rattle.std.proofs.lemmas.Bool.Decides.{nat_tests}
use Rattle.kfifo_live.specs.Rounds.{enqueue_at}
use Rattle.kfifo_machine.specs.declared.place.EnqueuePhase.TheVariants as P
use Rattle.kfifo_live.proofs.CompleteExecutions.{comes, comes_by, goes_to}
use Rattle.kfifo_live.proofs.enqueue.Enqueue.see_put.Goals as goal

pub returns-then-ne : goal.returns-then-ne
returns-then-ne g c = comes c.requires c.load.ensures (grind (arith, nat_tests))

pub settle-requires : goal.settle-requires
settle-requires g c = goes_to c.requires c.load.ensures (grind (arith, nat_tests))

pub returns : goal.returns
returns g c = comes_by (enqueue_at c.args.self (P.ReloadEnds c.args.ends c.args.index c.args.filled)) c.requires
    c.load.ensures (grind (arith, nat_tests)) c.settle.ensures
