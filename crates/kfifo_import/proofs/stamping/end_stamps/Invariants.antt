use Rattle.kfifo_import.specs.Stamping.{AreEndStamps, BeginByEnds}
use Rattle.kfifo_import.proofs.stamping.end_stamps.Given as goal

abbrev pub invariant-loop-rank : goal.invariant-loop-rank
invariant-loop-rank l = record {
  stamped : AreEndStamps l.calls l.ends l.rank l.stamps.items;
  begun : BeginByEnds l.calls l.ends l.rank l.begun;
}
