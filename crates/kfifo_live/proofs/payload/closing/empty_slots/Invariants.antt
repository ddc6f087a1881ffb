use Rattle.std.proofs.Common.{◌≡◌, ◌≤◌, ◌<◌, ℕ, false, get_or, take, vec_capacity}
use Rattle.core.specs.Mem.Slots.{slots_filled, slots_items, slots_len}
use Rattle.core.specs.Mem.Slots.Ownership.{Filled}
use Rattle.kfifo_live.proofs.payload.closing.empty_slots.Given as goal

abbrev pub invariant-loop-index : goal.invariant-loop-index
invariant-loop-index g l = record {
  filled : Filled (slots_filled l.closed.slots) l.index (slots_len l.closed.slots);
  emptied : (k : ℕ) → k < l.index → get_or (slots_filled l.closed.slots) k false ≡ false;
  size : slots_len l.closed.slots ≡ slots_len l.fn.closed.slots;
  same : slots_items l.closed.slots ≡ slots_items l.fn.closed.slots;
  room : slots_len l.fn.closed.slots ≤ vec_capacity l.slots;
  read : l.slots.items ≡ take l.index (slots_items l.fn.closed.slots);
}
