use Rattle.std.proofs.Common.{rules, sym}
use Rattle.kfifo_import.proofs.Standing.{doubled, first_marked, inside, moved, opened, quoted, skipped}
use Rattle.kfifo_import.proofs.walk.RowReader.mark.Goals as goal

pub returns-in_ok-count-in-Row : goal.returns-in_ok-count-in-Row
returns-in_ok-count-in-Row c = λ left text rest s.
    rw c.in_ok-count-in-Row.ensures (moved _ _ _ _ _ _ _ text rest left (sym c.in-Row.is)
    (skipped _ _ _ _ _ c.args.byte text rest left (rw c.in-Row.is at c.requires)
    (moved _ _ _ _ _ _ _ text rest _ c.in-Row.is s)))

pub returns-in-Quoted : goal.returns-in-Quoted
returns-in-Quoted c = λ left text rest s.
    quoted _ _ _ _ _ c.args.byte text rest left (search rules) (moved _ _ _ _ _ _ _ text rest _ c.in-Quoted.is s)

pub returns-in_ok-count-in-Quoted-2 : goal.returns-in_ok-count-in-Quoted-2
returns-in_ok-count-in-Quoted-2 c = λ left text rest s.
    rw (c.in_ok-count-in-Quoted-2.ensures, c.in_ok-push-in-Quoted-2.ensures.items)
    (moved _ _ _ _ _ _ _ text rest left (sym c.in-Quoted-2.is)
    (inside _ _ _ _ _ c.args.byte text rest left (search rules) (moved _ _ _ _ _ _ _ text rest _ c.in-Quoted-2.is s)))

pub returns-in_ok-push-in-Quote : goal.returns-in_ok-push-in-Quote
returns-in_ok-push-in-Quote c = λ left text rest s.
    rw c.in_ok-push-in-Quote.ensures.items
    (doubled _ _ _ _ _ c.args.byte text rest left (rw c.in-Quote.is at c.requires)
    (moved _ _ _ _ _ _ _ text rest _ c.in-Quote.is s))

pub returns-in-Field : goal.returns-in-Field
returns-in-Field c = λ left text rest s.
    let first = first_marked c.args.self.now.spot c.args.byte c.requires c.in-Field.is in
    opened _ _ _ _ _ c.args.byte text rest left first.1 (moved _ _ _ _ _ _ _ text rest _ first.0 s)
