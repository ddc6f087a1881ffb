use Rattle.std.proofs.Common.{◌++◌, ap, arith, length, refl, sym}
use Rattle.kfifo_import.proofs.reader.LogReader.new.Goals as goal

pub returns-clause-reads : goal.returns-clause-reads
returns-clause-reads c = λ text. (
  ap (λ held. held ++ text) (sym c.new.ensures.items),
  omega (arith, ap length c.new.ensures.items),
  λ any. record {
    rest = any;
    row = c.new-2.ensures any;
    holds = rw (c.new-3.ensures.0, c.new-3.ensures.1) (refl, refl, refl);
    few = rw c.new-3.ensures.1 (omega arith);
  },
)
