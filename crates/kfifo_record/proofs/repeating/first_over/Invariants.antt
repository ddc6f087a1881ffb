use Rattle.std.proofs.Common.{ℕ, ◌<◌}
use Rattle.kfifo_record.specs.Scripts.{script_of, scripts_in}
use Rattle.kfifo_record.specs.Repeats.{FitsTo}
use Rattle.kfifo_record.proofs.repeating.first_over.Given as goal

abbrev pub invariant-loop-place : goal.invariant-loop-place
invariant-loop-place l = (thread : ℕ) → thread < l.place → FitsTo l.by (script_of (scripts_in l.scripts) thread)
