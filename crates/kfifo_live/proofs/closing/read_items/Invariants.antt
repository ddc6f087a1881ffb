use Rattle.std.proofs.Common.{◌≡◌, ◌+◌, ◌-◌, ◌<◌, ◌++◌}
use Rattle.kfifo_words.specs.Ring.{next_segment}
use Rattle.kfifo_live.specs.Left.{slots_left, segments_left, items_left}
use Rattle.kfifo_live.proofs.closing.read_items.Given as goal

-- the items read and those that are still to be read are all items
abbrev pub invariant-segments : goal.invariant-segments
invariant-segments l = record {
  inside : l.segment < l.shape.n;
  all : l.items.items ++ segments_left l.shape l.words l.segment (l.shape.n - l.count) ≡ items_left l.shape l.words;
}

abbrev pub invariant-slots : goal.invariant-slots
invariant-slots l = l.items.items ++ (slots_left l.words (l.first + l.slot) (l.shape.k - l.slot)
    ++ segments_left l.shape l.words (next_segment l.shape.n l.segment) (l.shape.n - (l.count + 1)))
    ≡ items_left l.shape l.words
