use Rattle.std.proofs.Common.{◌≡◌, length}
use Rattle.kfifo_verdict.specs.Bound.{counts_from, counts_until}
use Rattle.kfifo_verdict.proofs.Bounding.{AreCounts}
use Rattle.kfifo_verdict.proofs.bound.changes_of.Given as goal

abbrev pub invariant-loop-p : goal.invariant-loop-p
invariant-loop-p l = record {
  sized : (length l.from.items ≡ length l.soonest) × (length l.until.items ≡ length l.soonest);
  from : AreCounts (counts_from l.soonest l.presences) (length l.soonest) l.p l.from.items;
  until : AreCounts (counts_until l.soonest l.presences) (length l.soonest) l.p l.until.items;
}
