use Rattle.std.proofs.Common.{take}
use Rattle.kfifo_c.specs.Many.{AreItems}
use Rattle.kfifo_c.proofs.many.are_items.Given as goal

abbrev pub invariant-loop-item : goal.invariant-loop-item
invariant-loop-item l = AreItems (take l.item-index l.items)
