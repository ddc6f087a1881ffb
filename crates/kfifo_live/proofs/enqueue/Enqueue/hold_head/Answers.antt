use Rattle.std.proofs.Common.{arith, false}
use Rattle.std.proofs.lemmas.Bool.Decides.{nat_tests}
use Rattle.kfifo_live.specs.Rounds.{enqueue_at}
use Rattle.kfifo_machine.specs.declared.place.EnqueuePhase.TheVariants as P
use Rattle.kfifo_live.proofs.CompleteExecutions.{comes, comes_by, goes_to}
use Rattle.kfifo_live.proofs.enqueue.Enqueue.hold_head.Goals as goal

pub returns-then-eq : goal.returns-then-eq
returns-then-eq g c = comes c.requires c.compare_exchange-found.ensures (grind (arith, nat_tests))

pub returns-then-self-ne1 : goal.returns-then-self-ne1
returns-then-self-ne1 g c = comes c.requires c.compare_exchange-found.ensures (grind (arith, nat_tests))

pub undo-requires : goal.undo-requires
undo-requires g c = goes_to c.requires c.compare_exchange-found.ensures (grind (arith, nat_tests))

pub returns : goal.returns
returns g c = comes_by (enqueue_at c.args.self (P.Undo c.args.index c.args.filled false)) c.requires
    c.compare_exchange-found.ensures (grind (arith, nat_tests)) (c.undo.ensures c.args.ends)
