use Rattle.std.proofs.Common.{◌≤◌, ◌*◌}
use Rattle.kfifo_live.specs.Pass.{IsSamePass}
use Rattle.bench_calls.proofs.handles.give_and_take.Given as goal

abbrev pub invariant-loop-call : goal.invariant-loop-call
invariant-loop-call l = record {
  same : IsSamePass l.fn.handle.pass.pass l.handle.pass.pass;
  few : l.wanted ≤ 2 * l.call;
}
