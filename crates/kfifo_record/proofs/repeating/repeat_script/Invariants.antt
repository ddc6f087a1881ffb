use Rattle.std.proofs.Common.{◌≡◌}
use Rattle.kfifo_record.specs.Repeats.{repeated}
use Rattle.kfifo_record.proofs.repeating.repeat_script.Given as goal

abbrev pub invariant-loop-repetition : goal.invariant-loop-repetition
invariant-loop-repetition l = l.made.items ≡ repeated l.step l.repetition l.script
