use Rattle.kfifo_model.proofs.Adding.{IsAt}
use Rattle.kfifo_model.proofs.search.search.Given as goal

abbrev pub invariant-levels : goal.invariant-levels
invariant-levels l = IsAt l.k l.calls l.counter l.level.items
