use Rattle.std.proofs.Common.{◌≡◌, map, take}
use Rattle.kfifo_model.proofs.blocks.ends_of.Given as goal

abbrev pub invariant-loop-rival : goal.invariant-loop-rival
invariant-loop-rival l = l.ends.items ≡ map (λ r. r.got_last) (take l.rival-index l.rivals)
