use Rattle.std.proofs.Common.{◌≡◌, ◌≤◌}
use Rattle.kfifo_live.specs.Pass.{IsSamePass}
use Rattle.bench_calls.proofs.called.take_none.Given as goal

abbrev pub invariant-loop-call : goal.invariant-loop-call
invariant-loop-call l = record {
  same : IsSamePass l.fn.pass l.pass;
  k : l.starts.k ≡ l.fn.starts.k;
  few : l.wanted ≤ l.call;
}
