use Rattle.std.proofs.Common.{rules}
use Rattle.kfifo_cli_texts.proofs.Writings.{first_of_two, it_broke, it_wrote, second_of_two}
use Rattle.kfifo_cli_texts.proofs.printing.Printer.write_number.Goals as goal

pub returns-then-not-write : goal.returns-then-not-write
returns-then-not-write g c =
    let C = g.W.Write.contents in
    let a = c.args.self.now in
    let b = c.write.new.self in
    rw (c.in-Some.is, ← c.as_bytes.ensures.value)
    (first_of_two C a b c.as_bytes.result.now _ (it_broke C c.write.result a b _ (search rules) c.write.ensures))

pub returns : goal.returns
returns g c =
    let C = g.W.Write.contents in
    let a = c.args.self.now in
    let b = c.write.new.self in
    let d = c.write-2.new.self in
    rw (c.in-Some.is, ← c.as_bytes.ensures.value, ← c.format-text.ensures.text, ← c.as_bytes-2.ensures.value)
    (second_of_two C c.write-2.result a b d c.as_bytes.result.now c.as_bytes-2.result.now
    (it_wrote C c.write.result a b _ (search rules) c.write.ensures) c.write-2.ensures)
