use Rattle.std.proofs.Common.{flat_map, take}
use Rattle.kfifo_cli_texts.specs.Printing.{Writes}
use Rattle.kfifo_cli_commands.specs.Tallies.{counted}
use Rattle.kfifo_cli_commands.proofs.tally.write_counts.Given as goal

abbrev pub invariant-loop-count : goal.invariant-loop-count
invariant-loop-count g l = Writes g.W.Write.contents l.fn.output (flat_map counted (take l.count-index l.counts))
    l.output
