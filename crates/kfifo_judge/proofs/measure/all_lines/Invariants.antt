use Rattle.std.proofs.Common.{◌≡◌, ◌++◌, drop, max, string_bytes}
use Rattle.kfifo_judge.specs.Measure.{overtaken_lines, most}
use Rattle.kfifo_judge.proofs.measure.all_lines.Given as goal

abbrev pub invariant-loop-overtaken : goal.invariant-loop-overtaken
invariant-loop-overtaken l = record {
  told : string_bytes l.text ++ overtaken_lines (drop l.overtaken-index l.found) ≡ overtaken_lines l.found;
  greatest : max l.most (most (drop l.overtaken-index l.found)) ≡ most l.found;
}
