use Rattle.std.proofs.Common.{rules, arith, subst, ◌<◌, ◌≤◌, ◌^◌}
use Rattle.std.proofs.lemmas.List.{take_all}
use Rattle.std.proofs.lemmas.List.Elements.{All-more}
use Rattle.kfifo_c.specs.Many.{AreItems}
use Rattle.kfifo_c.proofs.many.are_items.Goals as goal

pub loop-item-preserved : goal.loop-item-preserved
loop-item-preserved c = All-more (λ item. (1 ≤ item) × (item < 2 ^ 24)) c.args.items.now c.loop-item.item-index 0
    (omega arith) c.loop-item.invariant (omega arith, omega arith)

pub returns : goal.returns
returns c = (
  λ yes_way. subst AreItems (take_all c.loop-item.item-index c.args.items.now (omega arith)) c.loop-item.invariant,
  λ all. search rules,
)
