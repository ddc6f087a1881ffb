use Rattle.std.proofs.Common.{◌≤◌}
use Rattle.kfifo_draw.specs.Drawing.{CountsThose, IsInPart}
use Rattle.kfifo_draw.proofs.part.count_drawn.Given as goal

abbrev pub invariant-loop-number : goal.invariant-loop-number
invariant-loop-number l = CountsThose (IsInPart l.calls l.logged l.part) l.number l.count × (l.count ≤ l.number)
