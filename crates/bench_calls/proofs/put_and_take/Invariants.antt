use Rattle.std.proofs.Common.{◌≡◌, ◌+◌, ◌*◌, ◌≤◌}
use Rattle.kfifo_live.specs.Pass.{IsSamePass}
use Rattle.bench_calls.specs.Calls.{calls}
use Rattle.bench_calls.proofs.put_and_take.Given as goal

abbrev pub invariant-loop-item : goal.invariant-loop-item
invariant-loop-item l = record {
  same : IsSamePass l.fn.pass l.pass;
  made : calls l.fn.pass.thread l.pass.seen ≡ calls l.fn.pass.thread l.fn.pass.seen + 2 * l.item;
  k : l.starts.k ≡ l.fn.starts.k;
  few : l.wanted ≤ 2 * l.item;
}
