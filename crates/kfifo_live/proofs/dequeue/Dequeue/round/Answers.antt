-- The scan leads on to the second look at the ends word.
use Rattle.kfifo_live.proofs.CallScans.{head_scan}
use Rattle.kfifo_live.proofs.CompleteExecutions.{stands_on, runs_on}
use Rattle.kfifo_live.proofs.dequeue.Dequeue.round.Goals as goal

pub scan_all-requires-clause-scan : goal.scan_all-requires-clause-scan
scan_all-requires-clause-scan g c =
    (head_scan c.args.self c.args.ends _ _ c.head.ensures.value c.k-slots.ensures, c.requires)

pub empty_slot-requires : goal.empty_slot-requires
empty_slot-requires g c = stands_on c.requires.of
    (c.in-Slot.ensures (head_scan c.args.self c.args.ends _ _ c.head.ensures.value c.k-slots.ensures) c.requires)

pub leave_segment-requires : goal.leave_segment-requires
leave_segment-requires g c = stands_on c.requires.of
    (c.in-Nothing.ensures (head_scan c.args.self c.args.ends _ _ c.head.ensures.value c.k-slots.ensures) c.requires)

pub returns-in-Slot : goal.returns-in-Slot
returns-in-Slot g c =
    runs_on (c.in-Slot.ensures (head_scan c.args.self c.args.ends _ _ c.head.ensures.value c.k-slots.ensures)
    c.requires) c.empty_slot.ensures

pub returns-in-Nothing : goal.returns-in-Nothing
returns-in-Nothing g c =
    runs_on (c.in-Nothing.ensures (head_scan c.args.self c.args.ends _ _ c.head.ensures.value c.k-slots.ensures)
    c.requires) c.leave_segment.ensures
