use Rattle.std.proofs.Common.{◌<◌, length}
use Rattle.std.specs.List.{AllWithin}
use Rattle.kfifo_draw.specs.Reach.{IsReached}
use Rattle.kfifo_draw.proofs.part.reach_of.Given as goal

abbrev pub invariant-loop-number : goal.invariant-loop-number
invariant-loop-number l = AllWithin (λ d. d < length l.calls → IsReached l.calls l.reach d) l.named 0 l.number-index
