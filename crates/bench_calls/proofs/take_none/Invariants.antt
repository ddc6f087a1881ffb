use Rattle.std.proofs.Common.{◌≡◌, ◌+◌, ◌≤◌}
use Rattle.kfifo_live.specs.Pass.{IsSamePass}
use Rattle.bench_calls.specs.Calls.{calls}
use Rattle.bench_calls.proofs.take_none.Given as goal

abbrev pub invariant-loop-call : goal.invariant-loop-call
invariant-loop-call l = record {
  same : IsSamePass l.fn.pass l.pass;
  made : calls l.fn.pass.thread l.pass.seen ≡ calls l.fn.pass.thread l.fn.pass.seen + l.call;
  k : l.starts.k ≡ l.fn.starts.k;
  few : l.wanted ≤ l.call;
}
