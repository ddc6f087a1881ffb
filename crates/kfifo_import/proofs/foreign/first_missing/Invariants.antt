use Rattle.std.proofs.Common.{ℕ, ◌≢◌, ◌+◌, ◌<◌, ◌≤◌, get_or}
use Rattle.kfifo_import.proofs.foreign.first_missing.Given as goal

abbrev pub invariant-loop-item : goal.invariant-loop-item
invariant-loop-item l = record {
  some : 1 ≤ l.free;
  few : l.free ≤ l.item-index + 1;
  missing : (j : ℕ) → j < l.item-index → get_or l.sorted j 0 ≢ l.free;
}
