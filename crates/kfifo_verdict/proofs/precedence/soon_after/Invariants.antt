use Rattle.std.proofs.Common.{◌≤◌}
use Rattle.std.specs.List.{AllWithin}
use Rattle.kfifo_verdict.proofs.precedence.soon_after.Given as goal

abbrev pub invariant-loop-next : goal.invariant-loop-next
invariant-loop-next l = AllWithin (λ c. c.first ≤ l.step) l.calls 0 l.next
