-- The ends word decides between an answer, a hold of the head and an undo.
use Rattle.std.proofs.Common.{true, false, arith}
use Rattle.std.proofs.lemmas.Bool.Decides.{nat_tests}
use Rattle.kfifo_machine.specs.declared.place.EnqueuePhase.TheVariants as P
use Rattle.kfifo_live.specs.Rounds.{enqueue_at}
use Rattle.kfifo_live.proofs.CompleteExecutions.{comes, comes_by, goes_to}
use Rattle.kfifo_live.proofs.enqueue.Enqueue.settle.Goals as goal

pub undo-requires : goal.undo-requires
undo-requires g c = goes_to c.requires c.load_ends-now.ensures (grind (arith, nat_tests))

pub returns-then-version-last : goal.returns-then-version-last
returns-then-version-last g c = comes_by (enqueue_at c.args.self (P.Undo c.args.index c.args.filled true)) c.requires
    c.load_ends-now.ensures (grind (arith, nat_tests)) (c.undo.ensures c.args.ends)

pub hold_head-requires : goal.hold_head-requires
hold_head-requires g c = goes_to c.requires c.load_ends-now.ensures (grind (arith, nat_tests))

pub returns-then-segment-head : goal.returns-then-segment-head
returns-then-segment-head g c =
    comes_by (enqueue_at c.args.self (P.HoldHead c.args.ends c.args.index c.args.filled c.load_ends-now.result))
    c.requires c.load_ends-now.ensures (grind (arith, nat_tests)) c.hold_head.ensures

pub dist-requires-clause-from_in : goal.dist-requires-clause-from_in
dist-requires-clause-from_in g c = let ends = c.load_ends-now.ensures.sound _ c.requires in omega arith

pub dist-requires-else-segment-tail-clause-from_in : goal.dist-requires-else-segment-tail-clause-from_in
dist-requires-else-segment-tail-clause-from_in g c = let ends = c.load_ends-now.ensures.sound _ c.requires in
    omega arith

pub dist-requires-else-segment-tail-clause-to_in : goal.dist-requires-else-segment-tail-clause-to_in
dist-requires-else-segment-tail-clause-to_in g c = let ends = c.load_ends-now.ensures.sound _ c.requires in omega arith

pub returns-then-segment-tail : goal.returns-then-segment-tail
returns-then-segment-tail g c = comes c.requires c.load_ends-now.ensures (grind (arith, nat_tests))

pub undo-requires-2 : goal.undo-requires-2
undo-requires-2 g c = goes_to c.requires c.load_ends-now.ensures (grind (arith, nat_tests))

pub returns : goal.returns
returns g c = comes_by (enqueue_at c.args.self (P.Undo c.args.index c.args.filled false)) c.requires
    c.load_ends-now.ensures (grind (arith, nat_tests)) (c.undo-2.ensures c.args.ends)
