use Rattle.std.proofs.Common.{◌≡◌, ◌≤◌, ◌++◌, Some, drop, length, map, vec_capacity}
use Rattle.kfifo_live.specs.Payloads.{HavePayloads, in_slot}
use Rattle.kfifo_live.proofs.payload.closing.pick_payloads.Given as goal

-- the payloads picked and those of the tokens that are still to come are all
abbrev pub invariant-loop-token : goal.invariant-loop-token
invariant-loop-token g l = record {
  room : length l.tokens ≤ vec_capacity l.payloads;
  size : length l.payloads.items ≡ l.token-index;
  have : HavePayloads l.slots.items (drop l.token-index l.tokens);
  picked : map Some l.payloads.items ++ map (in_slot l.slots.items) (drop l.token-index l.tokens)
      ≡ map (in_slot l.fn.slots.items) l.tokens;
}
