use Rattle.std.proofs.Common.{arith}
use Rattle.std.proofs.lemmas.Bool.Decides.{nat_tests}
use Rattle.kfifo_live.specs.Rounds.{enqueue_at}
use Rattle.kfifo_machine.specs.declared.place.EnqueuePhase.TheVariants as P
use Rattle.kfifo_live.proofs.CompleteExecutions.{comes, comes_by, goes_to}
use Rattle.kfifo_live.proofs.enqueue.Enqueue.fill_slot.Goals as goal

pub returns-then-ne-clause-comes : goal.returns-then-ne-clause-comes
returns-then-ne-clause-comes g c = comes c.requires c.load_ends.ensures (grind (arith, nat_tests))

pub returns-then-last-version-clause-comes : goal.returns-then-last-version-clause-comes
returns-then-last-version-clause-comes g c = comes c.requires c.load_ends.ensures (grind (arith, nat_tests))

pub put-requires : goal.put-requires
put-requires g c = goes_to c.requires c.load_ends.ensures (grind (arith, nat_tests))

pub returns-clause-comes : goal.returns-clause-comes
returns-clause-comes g c = comes_by (enqueue_at c.args.self (P.Put c.args.ends c.args.index c.args.empty)) c.requires
    c.load_ends.ensures (grind (arith, nat_tests)) c.put.ensures.comes
