use Rattle.kfifo_import.specs.Stamping.{AreStampedTo, EndBeforeBeginnings}
use Rattle.kfifo_import.proofs.stamping.stamped.Given as goal

abbrev pub invariant-loop-number : goal.invariant-loop-number
invariant-loop-number l = record {
  ended : EndBeforeBeginnings l.calls l.ends l.number l.ended;
  found : AreStampedTo l.calls l.ends l.stamps.items l.number l.found.items;
}
