use Rattle.std.proofs.Common.{rules}
use Rattle.kfifo_import.proofs.Standing.{begins, moved}
use Rattle.kfifo_import.proofs.walk.RowReader.begin.Goals as goal

pub returns-then-not-ends_line-clause-reads : goal.returns-then-not-ends_line-clause-reads
returns-then-not-ends_line-clause-reads c = λ left text rest s.
    begins _ _ _ _ _ c.args.byte text rest left (search rules) (moved _ _ _ _ _ _ _ text rest _ (search rules) s)
