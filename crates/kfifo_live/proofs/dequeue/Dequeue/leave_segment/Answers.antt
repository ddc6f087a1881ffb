use Rattle.std.proofs.Common.{arith, refl}
use Rattle.std.proofs.lemmas.Bool.Decides.{nat_tests}
use Rattle.kfifo_machine.specs.declared.place.DequeuePhase.TheVariants as P
use Rattle.kfifo_live.specs.Rounds.{dequeue_at}
use Rattle.kfifo_live.proofs.CompleteExecutions.{awaits, comes, comes_by, goes_to}
use Rattle.kfifo_live.proofs.dequeue.Dequeue.leave_segment.Goals as goal

pub returns-then-ne : goal.returns-then-ne
returns-then-ne g c = comes c.requires c.load_ends.ensures (grind (arith, nat_tests))

pub returns-then-tail-head : goal.returns-then-tail-head
returns-then-tail-head g c = comes c.requires c.load_ends.ensures (grind (arith, nat_tests))

pub returns-then-version-last : goal.returns-then-version-last
returns-then-version-last g c = comes c.requires c.load_ends.ensures (grind (arith, nat_tests))

pub move_head-requires-clause-next : goal.move_head-requires-clause-next
move_head-requires-clause-next g c = awaits
    (goes_to {later = dequeue_at c.args.self (P.MoveHead c.args.ends)} c.requires c.load_ends.ensures
    (grind (arith, nat_tests))) refl

pub returns : goal.returns
returns g c =
    let place = dequeue_at c.args.self (P.MoveHead c.args.ends) in
    comes_by place c.requires c.load_ends.ensures (grind (arith, nat_tests))
    (comes (goes_to {later = place} c.requires c.load_ends.ensures (grind (arith, nat_tests))) c.move_head.ensures refl)
