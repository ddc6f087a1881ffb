use Rattle.std.proofs.Common.{◌≡◌, ◌++◌, Some, string_bytes}
use Rattle.kfifo_machine.specs.Machine.{World, after, word_at}
use Rattle.kfifo_cli_texts.specs.Lines.{ends_lines}
use Rattle.kfifo_cli_commands.specs.Reports.{segment_lines}
use Rattle.kfifo_cli_commands.proofs.commands.run.push_words.Given as goal

abbrev pub invariant-loop-segment : goal.invariant-loop-segment
invariant-loop-segment l = record {
  same : l.pass ≡ l.fn.pass;
  lines : (world : World) → after l.queue.opened.shape 1 l.fn.pass.seen ≡ Some world
      → string_bytes l.text ≡ string_bytes l.fn.text
      ++ (ends_lines (word_at world 0) ++ segment_lines l.queue.opened.shape.k world l.segment);
}
