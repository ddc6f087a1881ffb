use Rattle.std.proofs.Common.{◌≡◌}
use Rattle.kfifo_linear.specs.Notes.{points_below}
use Rattle.kfifo_linear.proofs.notes.Notes.points.Given as goal

abbrev pub invariant-loop-call : goal.invariant-loop-call
invariant-loop-call l = l.points.items ≡ points_below l.self l.call
