use Rattle.std.proofs.Common.{◌≡◌, ◌+◌, ◌-◌, ◌++◌}
use Rattle.std.specs.List.{range_with_len}
use Rattle.kfifo_live.specs.Pass.{IsSamePass}
use Rattle.bench_calls.specs.Calls.{calls, items_put}
use Rattle.bench_calls.proofs.fill.Given as goal

abbrev pub invariant-loop-item : goal.invariant-loop-item
invariant-loop-item l = record {
  same : IsSamePass l.fn.pass l.pass;
  made : calls l.fn.pass.thread l.pass.seen + 1 ≡ calls l.fn.pass.thread l.fn.pass.seen + l.item;
  items : items_put l.fn.pass.thread l.pass.seen ≡ items_put l.fn.pass.thread l.fn.pass.seen
      ++ range_with_len 1 (l.item - 1);
  k : l.starts.k ≡ l.fn.starts.k;
}
