use Rattle.std.proofs.Common.{◌≡◌, length, take}
use Rattle.kfifo_live.specs.Pass.{IsSamePass}
use Rattle.kfifo_record.specs.Scripts.{MakesInTurn}
use Rattle.kfifo_record.proofs.running.run_script.Given as goal

abbrev pub invariant-loop-index : goal.invariant-loop-index
invariant-loop-index g l = record {
  made : MakesInTurn (g.G.Gate.passed l.gate l.fn.pass.pass.thread) 1 (take l.index l.script) l.fn.pass l.pass;
  same : IsSamePass l.fn.pass.pass l.pass.pass;
  count : length l.pass.log ≡ l.index;
}
