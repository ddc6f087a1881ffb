use Rattle.std.proofs.Common.{◌≡◌, ℕ, ◌<◌, true}
use Rattle.std.specs.Prelude.{◌==◌}
use Rattle.std.specs.List.{list_any}
use Rattle.kfifo_live.proofs.stamped.gathering.are_complete.Given as goal

abbrev pub invariant-loop-thread : goal.invariant-loop-thread
invariant-loop-thread l = (t : ℕ) → t < l.thread → list_any (λ p. p.pass.thread == t) l.passes ≡ true
