use Rattle.std.proofs.Common.{◌≡◌, ◌≤◌, take, vec_capacity}
use Rattle.core.specs.Mem.Slots.{slots_items}
use Rattle.kfifo_live.proofs.closing.read_words.Given as goal

abbrev pub invariant-loop-index : goal.invariant-loop-index
invariant-loop-index g l = record {
  room : l.count ≤ vec_capacity l.words;
  read : l.words.items ≡ take l.index (slots_items l.closed.words);
}
