use Rattle.std.proofs.Common.{◌≡◌, ◌+◌, ◌-◌, ◌%◌, ◌<◌, ◌≤◌}
use Rattle.kfifo_live.specs.Step.{Stands, Onward}
use Rattle.kfifo_live.specs.Scans.{Row}
use Rattle.kfifo_live.proofs.ring.Ring.scan_row_by_two.Given as goal

-- where the scan stands: all slots before this one were seen in vain, and those that are left are pairs
abbrev pub invariant-pairs : goal.invariant-pairs
invariant-pairs g l = record {
  from : l.fn.first ≤ l.index;
  inside : l.index < l.fn.first + l.fn.count;
  even : (l.fn.first + l.fn.count - l.index) % 2 ≡ 0;
  stands : (row : Row l.self.shape.now g.W.Wanted.stops l.fn.first l.fn.count)
      → Stands l.self l.fn.seat (row.scan.looking row.offset)
      → Onward l.self l.fn.seat (row.scan.looking (row.offset + (l.index - l.fn.first))) l.seat;
}

abbrev pub decreases-pairs : goal.decreases-pairs
decreases-pairs g l = l.fn.first + l.fn.count - l.index
