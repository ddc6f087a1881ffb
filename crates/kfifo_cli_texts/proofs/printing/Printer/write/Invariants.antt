use Rattle.std.proofs.Common.{◌≡◌, ◌≤◌, length, take}
use Rattle.std.specs.Io.KnownBytes.{Appends}
use Rattle.kfifo_cli_texts.proofs.printing.Printer.write.Given as goal

abbrev pub invariant-loop : goal.invariant-loop
invariant-loop g l = record {
  inside : l.written ≤ length l.text;
  wrote : Appends (g.W.Write.contents l.fn.self.writer.now) (g.W.Write.contents l.self.writer.now)
      (take l.written l.text);
  failed : l.self.failed ≡ l.fn.self.failed;
  same : l.self.writer.ghost_name ≡ l.fn.self.writer.ghost_name;
}
