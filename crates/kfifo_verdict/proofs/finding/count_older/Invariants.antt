use Rattle.std.proofs.Common.{◌≡◌, ◌≤◌, ◌+◌, ◌-◌, length, get_or}
use Rattle.kfifo_verdict.specs.Evidence.{count_below}
use Rattle.kfifo_verdict.specs.Finding.{lasts_at, AreSkips}
use Rattle.kfifo_verdict.proofs.finding.count_older.Given as goal

abbrev pub invariant-loop-p : goal.invariant-loop-p
invariant-loop-p l = record {
  counted : l.count ≡ count_below (lasts_at l.presences l.put l.after) l.p;
  few : l.count ≤ l.p;
  within : l.p ≤ l.put;
  skips : AreSkips l.presences l.n l.skips.items;
}

abbrev pub decreases-loop-p : goal.decreases-loop-p
decreases-loop-p l = (length l.presences + 1 - l.p) + (length l.presences + 1 - get_or l.skips.items l.p 0)
