use Rattle.std.proofs.Common.{◌≤◌}
use Rattle.kfifo_verdict.proofs.walking.Walk.run.Given as goal

abbrev pub invariant-loop : goal.invariant-loop
invariant-loop l = l.undone ≤ l.tries
