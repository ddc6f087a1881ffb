use Rattle.std.proofs.Common.{arith}
use Rattle.std.proofs.lemmas.Bool.Decides.{nat_tests}
use Rattle.kfifo_live.specs.Rounds.{dequeue_at}
use Rattle.kfifo_machine.specs.declared.place.DequeuePhase.TheVariants as P
use Rattle.kfifo_live.proofs.CompleteExecutions.{comes, comes_by, goes_to}
use Rattle.kfifo_live.proofs.dequeue.Dequeue.empty_slot.Goals as goal

pub returns-then-ne : goal.returns-then-ne
returns-then-ne g c = comes c.requires c.load_ends.ensures (grind (arith, nat_tests))

pub take-requires : goal.take-requires
take-requires g c = goes_to c.requires c.load_ends.ensures (grind (arith, nat_tests))

pub returns-then-tail-head : goal.returns-then-tail-head
returns-then-tail-head g c = comes_by (dequeue_at c.args.self (P.Take c.args.ends c.args.index c.args.filled))
    c.requires c.load_ends.ensures (grind (arith, nat_tests)) c.take.ensures

pub returns-then-version-last : goal.returns-then-version-last
returns-then-version-last g c = comes c.requires c.load_ends.ensures (grind (arith, nat_tests))

pub close_segment-requires : goal.close_segment-requires
close_segment-requires g c = goes_to c.requires c.load_ends.ensures (grind (arith, nat_tests))

pub returns : goal.returns
returns g c = comes_by (dequeue_at c.args.self (P.MoveTail c.args.ends c.args.index c.args.filled)) c.requires
    c.load_ends.ensures (grind (arith, nat_tests)) c.close_segment.ensures
