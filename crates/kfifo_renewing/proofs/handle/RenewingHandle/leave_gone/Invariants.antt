use Rattle.std.proofs.Common.{◌≡◌, ◌-◌, length}
use Rattle.kfifo_renewing.specs.Renewing.{IsLater, LeavesGone, with_older, with_seen}
use Rattle.kfifo_renewing.proofs.handle.RenewingHandle.leave_gone.Given as goal

-- so far some of the older generations were left, and more of the history was seen
abbrev pub invariant-loop-index : goal.invariant-loop-index
invariant-loop-index g l = record {
  same : l.self ≡ with_older (with_seen l.fn.self l.self.seen) l.self.older;
  later : IsLater l.fn.self l.self;
  older : LeavesGone l.self.seen l.fn.self.older l.self.older;
}

abbrev pub decreases-loop-index : goal.decreases-loop-index
decreases-loop-index g l = length l.self.older - l.index
