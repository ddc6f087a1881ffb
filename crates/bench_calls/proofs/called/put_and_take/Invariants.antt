use Rattle.std.proofs.Common.{◌≡◌, ◌≤◌, ◌*◌}
use Rattle.kfifo_live.specs.Pass.{IsSamePass}
use Rattle.bench_calls.proofs.called.put_and_take.Given as goal

abbrev pub invariant-loop-item : goal.invariant-loop-item
invariant-loop-item l = record {
  same : IsSamePass l.fn.pass l.pass;
  k : l.starts.k ≡ l.fn.starts.k;
  few : l.wanted ≤ 2 * l.item;
}
