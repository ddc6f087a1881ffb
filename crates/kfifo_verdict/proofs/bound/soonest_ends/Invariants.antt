use Rattle.std.proofs.Common.{ℕ, ◌≡◌, ◌+◌, ◌≤◌, length, get_or}
use Rattle.kfifo_verdict.specs.Bound.{IsSoonest}
use Rattle.kfifo_verdict.proofs.bound.soonest_ends.Given as goal

abbrev pub invariant-loop-q : goal.invariant-loop-q
invariant-loop-q l = record {
  within : l.q ≤ length l.calls;
  sized : length l.soonest.items ≡ length l.calls + 1;
  least : IsSoonest l.calls l.q l.least;
  filled : (i : ℕ) → l.q ≤ i → i ≤ length l.calls → IsSoonest l.calls i (get_or l.soonest.items i 0);
}

abbrev pub decreases-loop-q : goal.decreases-loop-q
decreases-loop-q l = l.q
