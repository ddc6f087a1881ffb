use Rattle.std.proofs.Common.{rules}
use Rattle.kfifo_cli_texts.proofs.Writings.{first_breaks, it_broke, it_wrote, second_breaks, third}
use Rattle.kfifo_cli_texts.proofs.fault.Line.tell.Goals as goal

pub returns-then-not-write : goal.returns-then-not-write
returns-then-not-write g c =
    let C = g.F.Write.contents in
    let a = c.args.faults.now in
    let b = c.write.new.self in
    rw (← c.as_bytes.ensures.value)
    (first_breaks C a b c.as_bytes.result.now _ _ (it_broke C c.write.result a b _ (search rules) c.write.ensures))

pub returns-then-not-write_number : goal.returns-then-not-write_number
returns-then-not-write_number g c =
    let C = g.F.Write.contents in
    let a = c.args.faults.now in
    let b = c.write.new.self in
    let d = c.write_number.new.self in
    rw (← c.as_bytes.ensures.value)
    (second_breaks C a b d c.as_bytes.result.now _ _ (it_wrote C c.write.result a b _ (search rules) c.write.ensures)
    (it_broke C c.write_number.result b d _ (search rules) c.write_number.ensures))

pub returns : goal.returns
returns g c =
    let C = g.F.Write.contents in
    let a = c.args.faults.now in
    let b = c.write.new.self in
    let d = c.write_number.new.self in
    let e = c.write_number-2.new.self in
    rw (← c.as_bytes.ensures.value)
    (third C c.write_number-2.result a b d e c.as_bytes.result.now _ _
    (it_wrote C c.write.result a b _ (search rules) c.write.ensures)
    (it_wrote C c.write_number.result b d _ (search rules) c.write_number.ensures) c.write_number-2.ensures)
