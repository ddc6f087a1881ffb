use Rattle.std.proofs.Common.{arith, refl}
use Rattle.kfifo_import.proofs.reader.LogReader.plain.Goals as goal

pub returns-clause-reads : goal.returns-clause-reads
returns-clause-reads c = λ text. record {
  rest = text;
  row = c.new.ensures text;
  holds = rw (c.new-2.ensures.0, c.new-2.ensures.1) (refl, refl, refl);
  few = rw c.new-2.ensures.1 (omega arith);
}
