use Rattle.std.specs.BTreeMap.{get}
use Rattle.std.specs.Ordering.{nat_cmp}
use Rattle.kfifo_model.specs.Index.{IsIndex}
use Rattle.kfifo_model.proofs.index.index_of.Given as goal

abbrev pub invariant-loop-call : goal.invariant-loop-call
invariant-loop-call l = IsIndex l.calls l.side l.call-index (λ x. get nat_cmp l.firsts x)
