use Rattle.kfifo_draw.specs.Drawing.{AreThoseBelow, IsInPart}
use Rattle.kfifo_draw.proofs.part.drawn_calls.Given as goal

abbrev pub invariant-loop-number : goal.invariant-loop-number
invariant-loop-number l = AreThoseBelow (IsInPart l.calls l.logged l.part) l.number l.drawn.items
