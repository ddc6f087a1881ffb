use Rattle.std.proofs.Common.{◌≡◌, ◌<◌, ℕ, false, get_or}
use Rattle.core.specs.Mem.Slots.{slots_filled, slots_len}
use Rattle.core.specs.Mem.Slots.Ownership.{Filled}
use Rattle.kfifo_live.proofs.closing.free_slots.Given as goal

abbrev pub invariant-loop-index : goal.invariant-loop-index
invariant-loop-index l = record {
  filled : Filled (slots_filled l.closed.slots) l.index (slots_len l.closed.slots);
  emptied : (k : ℕ) → k < l.index → get_or (slots_filled l.closed.slots) k false ≡ false;
  size : slots_len l.closed.slots ≡ slots_len l.fn.closed.slots;
}
