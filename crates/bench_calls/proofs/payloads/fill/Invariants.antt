use Rattle.std.proofs.Common.{◌≡◌}
use Rattle.kfifo_live.specs.Pass.{IsSamePass}
use Rattle.bench_calls.proofs.payloads.fill.Given as goal

abbrev pub invariant-loop-number : goal.invariant-loop-number
invariant-loop-number l = record {
  same : IsSamePass l.fn.pass.pass l.pass.pass;
  k : l.starts.k ≡ l.fn.starts.k;
}
