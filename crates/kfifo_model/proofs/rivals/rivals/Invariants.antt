use Rattle.std.proofs.Common.{◌≡◌}
use Rattle.std.specs.BTreeMap.{get}
use Rattle.std.specs.Ordering.{nat_cmp}
use Rattle.kfifo_model.specs.Rivals.{rivals_below}
use Rattle.kfifo_model.proofs.rivals.rivals.Given as goal

abbrev pub invariant-loop-call : goal.invariant-loop-call
invariant-loop-call l = l.found.items ≡ rivals_below l.calls (λ x. get nat_cmp l.puts x) l.call-index
