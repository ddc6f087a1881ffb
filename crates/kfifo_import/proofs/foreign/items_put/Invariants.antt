use Rattle.std.proofs.Common.{◌≡◌, ◌≤◌, length, take}
use Rattle.kfifo_import.specs.Foreign.{items_put}
use Rattle.kfifo_import.proofs.foreign.items_put.Given as goal

abbrev pub invariant-loop-line : goal.invariant-loop-line
invariant-loop-line l = (l.items.items ≡ items_put (take l.line-index l.lines)) × (length l.items.items ≤ l.line-index)
