use Rattle.kfifo_verdict.specs.Finding.{AreSkips}
use Rattle.kfifo_verdict.specs.Judging.{GotTooYoung, NeverBefore}
use Rattle.kfifo_verdict.proofs.finding.too_young.Given as goal

abbrev pub invariant-loop-n : goal.invariant-loop-n
invariant-loop-n l = record {
  none : NeverBefore (GotTooYoung l.k l.calls) l.n;
  skips : AreSkips l.items.presences.items l.n l.skips.items;
}
