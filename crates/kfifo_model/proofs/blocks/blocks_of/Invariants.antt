use Rattle.std.proofs.Common.{◌≡◌, ◌≤◌, ◌-◌, length, take}
use Rattle.std.specs.List.{flat_map}
use Rattle.kfifo_model.proofs.blocks.blocks_of.Given as goal

abbrev pub invariant-loop-from : goal.invariant-loop-from
invariant-loop-from l = record {
  within : l.from ≤ length l.rivals;
  so_far : flat_map (λ b. b) l.blocks.items ≡ take l.from l.rivals;
}

abbrev pub decreases-loop-from : goal.decreases-loop-from
decreases-loop-from l = length l.rivals - l.from
