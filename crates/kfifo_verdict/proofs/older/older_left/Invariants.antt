use Rattle.kfifo_verdict.specs.Finding.{AreSkips}
use Rattle.kfifo_verdict.specs.Judging.{GotOlderLeft, NeverBefore}
use Rattle.kfifo_verdict.proofs.older.older_left.Given as goal

abbrev pub invariant-loop-n : goal.invariant-loop-n
invariant-loop-n l = record {
  none : NeverBefore (GotOlderLeft l.k l.calls) l.n;
  skips : AreSkips l.copies.items l.n l.skips.items;
}
