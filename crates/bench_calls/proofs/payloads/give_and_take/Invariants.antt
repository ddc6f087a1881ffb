use Rattle.std.proofs.Common.{◌≡◌, ◌≤◌, ◌*◌}
use Rattle.kfifo_live.specs.Pass.{IsSamePass}
use Rattle.bench_calls.proofs.payloads.give_and_take.Given as goal

abbrev pub invariant-loop-call : goal.invariant-loop-call
invariant-loop-call l = record {
  same : IsSamePass l.fn.pass.pass l.pass.pass;
  k : l.starts.k ≡ l.fn.starts.k;
  few : l.wanted ≤ 2 * l.call;
}
