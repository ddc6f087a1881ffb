use Rattle.std.proofs.Common.{◌≡◌, length}
use Rattle.kfifo_verdict.specs.Evidence.{count_below}
use Rattle.kfifo_verdict.proofs.Bounding.{counts_before, IsMostBelow}
use Rattle.kfifo_verdict.proofs.bound.most_at_once.Given as goal

abbrev pub invariant-loop-moment : goal.invariant-loop-moment
invariant-loop-moment l = record {
  count : l.count ≡ count_below (counts_before l.soonest l.presences l.moment) (length l.presences);
  most : IsMostBelow l.soonest l.presences l.moment l.most;
}
