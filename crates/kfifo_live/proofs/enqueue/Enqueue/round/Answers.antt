-- The scan leads on to the second look at the ends word.
use Rattle.kfifo_live.proofs.CallScans.{tail_scan}
use Rattle.kfifo_live.proofs.CompleteExecutions.{stands_on, runs_on}
use Rattle.kfifo_live.proofs.enqueue.Enqueue.round.Goals as goal

pub scan-requires-clause-scan : goal.scan-requires-clause-scan
scan-requires-clause-scan g c =
    (tail_scan c.args.self c.args.ends _ _ c.tail.ensures.value c.probes-probes.ensures, c.requires)

pub fill_slot-requires : goal.fill_slot-requires
fill_slot-requires g c = stands_on c.requires.of
    (c.in-Slot.ensures (tail_scan c.args.self c.args.ends _ _ c.tail.ensures.value c.probes-probes.ensures) c.requires)

pub leave_segment-requires : goal.leave_segment-requires
leave_segment-requires g c = stands_on c.requires.of
    (c.in-Nothing.ensures (tail_scan c.args.self c.args.ends _ _ c.tail.ensures.value c.probes-probes.ensures)
    c.requires)

pub returns-in-Slot-clause-comes : goal.returns-in-Slot-clause-comes
returns-in-Slot-clause-comes g c =
    runs_on (c.in-Slot.ensures (tail_scan c.args.self c.args.ends _ _ c.tail.ensures.value c.probes-probes.ensures)
    c.requires)
    c.fill_slot.ensures.comes

pub returns-in-Some-clause-comes : goal.returns-in-Some-clause-comes
returns-in-Some-clause-comes g c =
    runs_on (c.in-Nothing.ensures (tail_scan c.args.self c.args.ends _ _ c.tail.ensures.value c.probes-probes.ensures)
    c.requires)
    c.in-Some.ensures

pub returns-in-None-clause-comes : goal.returns-in-None-clause-comes
returns-in-None-clause-comes g c =
    runs_on (c.in-Nothing.ensures (tail_scan c.args.self c.args.ends _ _ c.tail.ensures.value c.probes-probes.ensures)
    c.requires)
    c.in-None.ensures
