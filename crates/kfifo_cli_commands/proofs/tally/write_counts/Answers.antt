use Rattle.std.proofs.Common.{rules}
use Rattle.kfifo_cli_texts.proofs.Writings.{it_broke}
use Rattle.kfifo_cli_commands.proofs.Counts.{broke_at}
use Rattle.kfifo_cli_commands.proofs.tally.write_counts.Goals as goal

pub returns-then-not-write_number : goal.returns-then-not-write_number
returns-then-not-write_number g c =
    let C = g.W.Write.contents in
    broke_at C c.args.output.now c.loop-count.output c.write_number.new.self c.args.counts.now
    c.loop-count.count-index _
    c.loop-count-test.true c.loop-count.invariant
    (it_broke C c.write_number.result c.loop-count.output c.write_number.new.self _ (search rules)
    c.write_number.ensures)
