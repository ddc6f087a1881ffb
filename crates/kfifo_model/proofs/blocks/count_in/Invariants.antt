use Rattle.std.proofs.Common.{◌≡◌, take, count_by}
use Rattle.std.specs.List.{flat_map}
use Rattle.kfifo_model.specs.Rivals.{is_beaten}
use Rattle.kfifo_model.proofs.blocks.count_in.Given as goal

abbrev pub invariant-loop-block : goal.invariant-loop-block
invariant-loop-block l = l.count
    ≡ count_by (λ r. is_beaten l.last l.got r) (flat_map (λ b. b) (take l.block-index l.blocks))
