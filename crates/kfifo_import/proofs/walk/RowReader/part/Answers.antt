use Rattle.std.proofs.Common.{◌≡◌, ◌==◌, [], false, rules}
use Rattle.kfifo_import.proofs.Standing.{closes, parts, separated}
use Rattle.kfifo_import.proofs.walk.RowReader.part.Goals as goal

pub returns-then-byte-eq44 : goal.returns-then-byte-eq44
returns-then-byte-eq44 c = λ fields bytes text rest left is none empty s.
    rw (is, none, empty) (parts fields [] bytes _ _ c.args.byte text rest left (search rules) s)

pub returns : goal.returns
returns c = λ fields bytes text rest left is none empty s.
    let other : (c.args.byte == 44) ≡ false = search rules in
    rw (c.in_ok-count.ensures, is, none, empty)
    (closes fields [] bytes _ _ c.args.byte text rest left other (separated c.args.byte other c.requires) s)
