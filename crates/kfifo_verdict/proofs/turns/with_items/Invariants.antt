use Rattle.kfifo_verdict.specs.Plain.{AreTurns}
use Rattle.kfifo_verdict.proofs.Lining.{IsSoFar}
use Rattle.kfifo_verdict.proofs.turns.with_items.Given as goal

abbrev pub invariant-loop-i : goal.invariant-loop-i
invariant-loop-i l = record {
  turns : AreTurns l.calls l.presences l.line l.i l.turns.items;
  latest : IsSoFar l.presences l.line l.i l.latest;
}
