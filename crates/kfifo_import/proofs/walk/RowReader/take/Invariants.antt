use Rattle.std.proofs.Common.{◌-◌, length}
use Rattle.kfifo_import.specs.Spots.{TakesTo}
use Rattle.kfifo_import.proofs.walk.RowReader.take.Given as goal

abbrev pub invariant-loop-here : goal.invariant-loop-here
invariant-loop-here l = TakesTo l.fn.self l.self l.text l.fn.at l.here

abbrev pub decreases-loop-here : goal.decreases-loop-here
decreases-loop-here l = length l.initial.text - l.here
