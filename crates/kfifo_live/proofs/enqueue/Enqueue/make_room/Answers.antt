-- A filled slot leads to the last look before Full, an empty segment to a move of the head.
use Rattle.std.proofs.Common.{◌≡◌, arith, refl}
use Rattle.std.proofs.lemmas.Bool.Decides.{nat_tests}
use Rattle.kfifo_machine.specs.declared.place.EnqueuePhase.TheVariants as P
use Rattle.kfifo_machine.specs.declared.place.Found.TheVariants.{Nothing}
use Rattle.kfifo_machine.specs.declared.place.Next.TheVariants.{Goes}
use Rattle.kfifo_live.specs.Rounds.{enqueue_at}
use Rattle.kfifo_live.proofs.CallScans.{full_scan, after_full_scan}
use Rattle.kfifo_live.proofs.CompleteExecutions.{awaits, comes, comes_as, stands_on, runs_on}
use Rattle.kfifo_live.proofs.enqueue.Enqueue.make_room.Goals as goal

pub scan-requires-clause-scan : goal.scan-requires-clause-scan
scan-requires-clause-scan g c = (full_scan c.args.self c.args.ends _ _ c.head.ensures.value c.k.ensures, c.requires)

pub confirm_full-requires : goal.confirm_full-requires
confirm_full-requires g c = stands_on c.requires.of
    (c.in-Slot.ensures (full_scan c.args.self c.args.ends _ _ c.head.ensures.value c.k.ensures) c.requires)

pub returns-in-Slot : goal.returns-in-Slot
returns-in-Slot g c =
    runs_on (c.in-Slot.ensures (full_scan c.args.self c.args.ends _ _ c.head.ensures.value c.k.ensures) c.requires)
    c.confirm_full.ensures

pub returns-then-version-last : goal.returns-then-version-last
returns-then-version-last g c =
    comes_as (c.in_default.ensures (full_scan c.args.self c.args.ends _ _ c.head.ensures.value c.k.ensures)
    c.requires) (grind (arith, nat_tests))

pub move_head-requires-clause-next : goal.move_head-requires-clause-next
move_head-requires-clause-next g c =
    let is : after_full_scan c.args.self c.args.ends Nothing ≡ Goes (enqueue_at c.args.self (P.MoveHead c.args.ends)) =
    grind (arith, nat_tests) in
    awaits (stands_on c.requires.of (comes_as
    (c.in_default.ensures (full_scan c.args.self c.args.ends _ _ c.head.ensures.value c.k.ensures) c.requires) is)) refl

pub returns : goal.returns
returns g c =
    let is : after_full_scan c.args.self c.args.ends Nothing ≡ Goes (enqueue_at c.args.self (P.MoveHead c.args.ends)) =
    grind (arith, nat_tests) in
    let seen = comes_as (c.in_default.ensures (full_scan c.args.self c.args.ends _ _ c.head.ensures.value c.k.ensures)
    c.requires) is in
    runs_on seen (comes (stands_on c.requires.of seen) c.move_head.ensures refl)
