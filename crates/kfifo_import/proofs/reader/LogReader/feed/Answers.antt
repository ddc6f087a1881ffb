use Rattle.std.proofs.Common.{◌++◌, drop}
use Rattle.kfifo_import.proofs.Readers.{handed}
use Rattle.kfifo_import.proofs.reader.LogReader.feed.Goals as goal

pub returns-in_err-close_ended-clause-err : goal.returns-in_err-close_ended-clause-err
returns-in_err-close_ended-clause-err c =
    handed c.from_residual.result c.in_err-close_ended.field-0.0 _ c.from_residual.ensures.1
    (λ whole more is.
    let inv = c.loop-at.invariant in
    rw inv.1 at (c.in_err-close_ended.ensures.err.1 whole (drop c.loop-at.at c.args.text.now ++ more)
    (inv.3 whole more is)))
