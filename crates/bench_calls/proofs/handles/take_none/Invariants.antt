use Rattle.std.proofs.Common.{◌≤◌}
use Rattle.kfifo_live.specs.Pass.{IsSamePass}
use Rattle.bench_calls.proofs.handles.take_none.Given as goal

abbrev pub invariant-loop-call : goal.invariant-loop-call
invariant-loop-call l = record {
  same : IsSamePass l.fn.handle.pass l.handle.pass;
  few : l.wanted ≤ l.call;
}
