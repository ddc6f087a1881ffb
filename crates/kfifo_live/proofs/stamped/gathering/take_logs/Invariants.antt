use Rattle.std.proofs.Common.{◌≡◌}
use Rattle.std.specs.List.{AllByRecursion}
use Rattle.kfifo_live.specs.Stamps.{IsLog, all_logs, passes_of}
use Rattle.kfifo_live.proofs.stamped.gathering.take_logs.Given as goal

abbrev pub invariant-loop-stamped : goal.invariant-loop-stamped
invariant-loop-stamped l = record {
  logs : l.calls.items ≡ all_logs l.yielded;
  passes : l.plain.items ≡ passes_of l.yielded;
  are_logs : AllByRecursion (λ p. IsLog p.pass p.log) l.yielded;
}
