use Rattle.std.proofs.Common.{ℕ, ◌≡◌, ◌<◌, length, get_or}
use Rattle.kfifo_verdict.proofs.finding.no_skips.Given as goal

abbrev pub invariant-loop-n : goal.invariant-loop-n
invariant-loop-n l = record {
  sized : length l.skips.items ≡ l.n;
  same : (i : ℕ) → i < l.n → get_or l.skips.items i 0 ≡ i;
}
