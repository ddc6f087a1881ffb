use Rattle.std.proofs.Common.{◌≡◌, ◌+◌, List, ℕ, take}
use Rattle.kfifo_cli_texts.specs.Printing.{Writes}
use Rattle.kfifo_cli_commands.specs.Tallies.{IsBelow}
use Rattle.kfifo_cli_commands.proofs.Filing.{FirstJudged}
use Rattle.kfifo_cli_commands.proofs.commands.judge_files.print_lines.Given as goal

abbrev pub invariant-loop-file : goal.invariant-loop-file
invariant-loop-file g l = record {
  printed : (lines : List ℕ) × FirstJudged l.options (take l.file-index l.pending) lines l.tally
      × Writes g.W.Write.contents l.fn.output lines l.output;
  below : IsBelow (l.file-index + 1) l.tally;
  made : l.made ≡ l.file-index;
}
