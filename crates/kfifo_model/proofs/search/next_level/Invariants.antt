use Rattle.kfifo_model.proofs.Adding.{IsLed}
use Rattle.kfifo_model.proofs.search.next_level.Given as goal

abbrev pub invariant-loop-reached : goal.invariant-loop-reached
invariant-loop-reached l = IsLed l.k l.calls l.level l.next.items l.reached-index
