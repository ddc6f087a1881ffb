use Rattle.std.proofs.Common.{◌≤◌}
use Rattle.kfifo_live.proofs.ring.Ring.filled.Given as goal

-- no more slots are filled than were looked at
abbrev pub invariant-slots : goal.invariant-slots
invariant-slots g l = l.filled ≤ l.slot
