use Rattle.std.proofs.Common.{◌≡◌, ◌-◌, length}
use Rattle.kfifo_renewing.specs.Renewing.{IsLater, with_older, with_seen}
use Rattle.kfifo_renewing.proofs.Drained.{FindsEmpty}
use Rattle.kfifo_renewing.proofs.handle.RenewingHandle.take_first.Given as goal

-- each of the older generations so far was found empty, and of these some were left
abbrev pub invariant-loop-index : goal.invariant-loop-index
invariant-loop-index g l = record {
  same : l.self ≡ with_older (with_seen l.fn.self l.self.seen) l.self.older;
  later : IsLater l.fn.self l.self;
  empty : FindsEmpty g.K.Kind.takes g.K.Kind.seals l.self.seen l.fn.self.older l.self.older l.index;
}

abbrev pub decreases-loop-index : goal.decreases-loop-index
decreases-loop-index g l = length l.self.older - l.index
