use Rattle.std.proofs.Common.{rules, codes}
use Rattle.kfifo_cli_texts.specs.Faults.{fault_text}
use Rattle.kfifo_cli_texts.proofs.Writings.{first_breaks, it_broke, it_wrote, second_breaks, third}
use Rattle.kfifo_cli_texts.proofs.fault.Fault.tell.Goals as goal

pub returns-then-not-write : goal.returns-then-not-write
returns-then-not-write g c =
    let C = g.F.Write.contents in
    let a = c.args.faults.now in
    let b = c.write.new.self in
    first_breaks C a b (codes "kfifo: ") (fault_text c.args.self) (codes "\n")
    (it_broke C c.write.result a b _ (search rules) c.write.ensures)

pub returns-then-not-tell : goal.returns-then-not-tell
returns-then-not-tell g c =
    let C = g.F.Write.contents in
    let a = c.args.faults.now in
    let b = c.write.new.self in
    let d = c.tell.new.faults in
    rw (← c.line.ensures)
    (second_breaks C a b d (codes "kfifo: ") _ (codes "\n")
    (it_wrote C c.write.result a b _ (search rules) c.write.ensures)
    (it_broke C c.tell.result b d _ (search rules) c.tell.ensures))

pub returns : goal.returns
returns g c =
    let C = g.F.Write.contents in
    let a = c.args.faults.now in
    let b = c.write.new.self in
    let d = c.tell.new.faults in
    let e = c.write-2.new.self in
    rw (← c.line.ensures)
    (third C c.write-2.result a b d e (codes "kfifo: ") _ (codes "\n")
    (it_wrote C c.write.result a b _ (search rules) c.write.ensures)
    (it_wrote C c.tell.result b d _ (search rules) c.tell.ensures) c.write-2.ensures)
