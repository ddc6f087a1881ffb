use Rattle.std.proofs.Common.{◌≡◌}
use Rattle.kfifo_live.specs.Stamps.{new_logs}
use Rattle.kfifo_live.proofs.stamped.add_logs.Given as goal

abbrev pub invariant-loop-pass : goal.invariant-loop-pass
invariant-loop-pass l = l.stamped.items ≡ new_logs l.yielded
