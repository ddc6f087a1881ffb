use Rattle.std.proofs.Common.{arith, refl}
use Rattle.std.proofs.lemmas.Bool.Decides.{nat_tests}
use Rattle.kfifo_machine.specs.declared.place.EnqueuePhase.TheVariants as P
use Rattle.kfifo_live.specs.Rounds.{enqueue_at}
use Rattle.kfifo_live.proofs.CompleteExecutions.{awaits, comes, comes_by, goes_to}
use Rattle.kfifo_live.proofs.enqueue.Enqueue.leave_segment.Goals as goal

pub returns-then-ne : goal.returns-then-ne
returns-then-ne g c = comes c.requires c.load_ends.ensures (grind (arith, nat_tests))

pub make_room-requires : goal.make_room-requires
make_room-requires g c = goes_to c.requires c.load_ends.ensures (grind (arith, nat_tests))

pub returns-then-next-head : goal.returns-then-next-head
returns-then-next-head g c = comes_by (enqueue_at c.args.self (P.ScanHead c.args.ends 0)) c.requires c.load_ends.ensures
    (grind (arith, nat_tests)) c.make_room.ensures

pub returns-then-version-last : goal.returns-then-version-last
returns-then-version-last g c = comes c.requires c.load_ends.ensures (grind (arith, nat_tests))

pub move_tail-requires-clause-next : goal.move_tail-requires-clause-next
move_tail-requires-clause-next g c = awaits
    (goes_to {later = enqueue_at c.args.self (P.MoveTail c.args.ends)} c.requires c.load_ends.ensures
    (grind (arith, nat_tests))) refl

pub returns : goal.returns
returns g c =
    let place = enqueue_at c.args.self (P.MoveTail c.args.ends) in
    comes_by place c.requires c.load_ends.ensures (grind (arith, nat_tests))
    (comes (goes_to {later = place} c.requires c.load_ends.ensures (grind (arith, nat_tests))) c.move_tail.ensures refl)
