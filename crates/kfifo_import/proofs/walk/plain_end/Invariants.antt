use Rattle.kfifo_import.specs.Spots.{ArePlain, part}
use Rattle.kfifo_import.proofs.walk.plain_end.Given as goal

abbrev pub invariant-loop-end : goal.invariant-loop-end
invariant-loop-end l = ArePlain (part l.text l.fn.at l.end)
