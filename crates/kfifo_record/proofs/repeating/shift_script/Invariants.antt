use Rattle.std.proofs.Common.{◌≡◌, map, take}
use Rattle.kfifo_record.specs.Repeats.{shifted}
use Rattle.kfifo_record.proofs.repeating.shift_script.Given as goal

abbrev pub invariant-loop-call : goal.invariant-loop-call
invariant-loop-call l = l.made.items ≡ map (shifted l.by) (take l.call-index l.script)
