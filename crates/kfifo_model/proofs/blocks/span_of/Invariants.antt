use Rattle.std.proofs.Common.{take}
use Rattle.kfifo_model.specs.Blocks.{IsSpan}
use Rattle.kfifo_model.proofs.blocks.span_of.Given as goal

abbrev pub invariant-loop-rival : goal.invariant-loop-rival
invariant-loop-rival l = IsSpan (take l.rival-index l.rivals) l.earliest l.latest
