use Rattle.std.proofs.Common.{◌+◌, ◌-◌, ◌<◌, ◌≤◌}
use Rattle.kfifo_live.specs.Step.{Stands, Onward}
use Rattle.kfifo_live.specs.Scans.{Row}
use Rattle.kfifo_live.proofs.ring.Ring.scan_row.Given as goal

-- where the scan stands: all slots before this one were seen in vain
abbrev pub invariant-slots : goal.invariant-slots
invariant-slots g l = record {
  from : l.fn.first ≤ l.index;
  inside : l.index < l.fn.end;
  stands : (row : Row l.self.shape.now g.W.Wanted.stops l.fn.first (l.fn.end - l.fn.first))
      → Stands l.self l.fn.seat (row.scan.looking row.offset)
      → Onward l.self l.fn.seat (row.scan.looking (row.offset + (l.index - l.fn.first))) l.seat;
}

abbrev pub decreases-slots : goal.decreases-slots
decreases-slots g l = l.fn.end - l.index
