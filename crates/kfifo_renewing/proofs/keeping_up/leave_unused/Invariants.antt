use Rattle.std.proofs.Common.{All, length}
use Rattle.kfifo_renewing.specs.Renewing.{IsUntouched}
use Rattle.kfifo_renewing.proofs.keeping_up.leave_unused.Given as goal

abbrev pub invariant-loop-part : goal.invariant-loop-part
invariant-loop-part g l = All (λ p. IsUntouched p.handle) l.parts.items

abbrev pub decreases-loop-part : goal.decreases-loop-part
decreases-loop-part g l = length l.parts.items
