use Rattle.std.proofs.Common.{◌≡◌}
use Rattle.kfifo_renewing.proofs.history.Numbers.number.Given as goal

abbrev pub invariant-loop : goal.invariant-loop
invariant-loop g l = l.history.book ≡ l.fn.history.book
