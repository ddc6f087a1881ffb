use Rattle.std.proofs.Common.{◌≡◌, map, take}
use Rattle.kfifo_record.specs.Scripts.{scripts_in}
use Rattle.kfifo_record.specs.Repeats.{repeated}
use Rattle.kfifo_record.proofs.repeating.repeat_scripts.Given as goal

abbrev pub invariant-loop-script : goal.invariant-loop-script
invariant-loop-script l = scripts_in l.made.items
    ≡ map (repeated l.step l.count) (scripts_in (take l.script-index l.scripts))
