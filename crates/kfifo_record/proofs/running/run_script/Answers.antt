-- A call more of the script was made.
use Rattle.std.proofs.Common.{◌+◌, rules}
use Rattle.kfifo_record.proofs.Turns.{longer, then_same, turn}
use Rattle.kfifo_record.proofs.running.run_script.Goals as goal

pub loop-index-preserved : goal.loop-index-preserved
loop-index-preserved g c =
    let i = c.loop-index.invariant in
    let one = c.make.ensures in
    let passed : g.G.Gate.passed c.args.gate.now c.args.pass.now.pass.thread (c.loop-index.index + 1) = search rules in
    record {
      made = turn _ c.args.script.now c.loop-index.index _ c.args.pass.now c.loop-index.pass c.make.new.pass
          c.loop-index-test.true i.made passed one;
      same = then_same c.args.pass.now.pass c.loop-index.pass.pass c.make.new.pass.pass i.same one.0;
      count = longer _ c.loop-index.pass c.make.new.pass c.loop-index.index one i.count;
    }
