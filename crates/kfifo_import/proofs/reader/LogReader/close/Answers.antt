use Rattle.kfifo_import.proofs.Readers.{closed, handed, refused, refused_width}
use Rattle.kfifo_import.proofs.reader.LogReader.close.Goals as goal

pub returns-then-not-fits-clause-err : goal.returns-then-not-fits-clause-err
returns-then-not-fits-clause-err c = λ text left is.
    let miss = rw (c.if-not-fits.true, c.len-found.ensures, c.row.ensures) at c.fits.ensures in
    rw (
      c.with_cause.ensures.fault,
      c.with_cause.ensures.wrong,
      c.from.ensures.0,
      c.from.ensures.1,
      c.front-front.ensures,
    )
    (refused_width c.args.self.now text left c.requires is miss.0 miss.1 miss.2, tt)

pub returns-in_err-take-clause-err : goal.returns-in_err-take-clause-err
returns-in_err-take-clause-err c =
    let fit = rw (c.if-not-fits.false, c.len-found.ensures, c.row.ensures) at c.fits.ensures in
    let refusal = c.in_err-take.field-0.0 in
    let not = rw (c.row-2.ensures, c.front-front.ensures) at c.in_err-take.ensures.err in
    let tells = rw (c.row-2.ensures, c.front-front.ensures) at c.in_err-take.ensures.wrong in
    handed c.from_residual.result refusal _ c.from_residual.ensures.1
    (λ text left is. refused c.args.self.now text left c.requires is refusal.fault refusal.wrong fit not tells)

pub returns-clause-ok : goal.returns-clause-ok
returns-clause-ok c = λ text left is.
    let fit = rw (c.if-not-fits.false, c.len-found.ensures, c.row.ensures) at c.fits.ensures in
    let takes = rw (c.row-2.ensures, c.front-front.ensures) at c.in_ok-take.ensures.ok in
    let holds = closed c.args.self.now text left c.requires is c.take.new.self.columns c.take.new.self.lines.items fit
    takes in
    record {
      rest = left;
      row = c.go_on.ensures.reads text is.rest left is.row;
      holds = rw (c.len-found.ensures, c.row.ensures) holds.0;
      few = holds.1;
    }
