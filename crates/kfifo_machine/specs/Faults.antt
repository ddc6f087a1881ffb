-- The faults of a start, a run and an event, by their numbers; and what a run returns where a machine was not started.
use Rattle.std.specs.Prelude.{ℕ}
use Rattle.kfifo_machine.specs.declared.event.NotEnabled.{NotEnabled}
use Rattle.kfifo_machine.specs.declared.event.NotEnabled.TheVariants as N
use Rattle.kfifo_machine.specs.declared.fault.StartFault.{StartFault}
use Rattle.kfifo_machine.specs.declared.fault.StartFault.TheVariants as S
use Rattle.kfifo_machine.specs.declared.fault.RunFault.{RunFault}
use Rattle.kfifo_machine.specs.declared.fault.RunFault.TheVariants as R

-- the same fault
abbrev pub run_fault_of : StartFault → RunFault
run_fault_of S.ThreadsOutOfRange = R.ThreadsOutOfRange
run_fault_of S.Memory = R.Memory

-- the number of a fault
abbrev pub start_fault_number : StartFault → ℕ
start_fault_number S.ThreadsOutOfRange = 1
start_fault_number S.Memory = 2

abbrev pub run_fault_number : RunFault → ℕ
run_fault_number R.ThreadsOutOfRange = 1
run_fault_number R.Memory = 2
run_fault_number (R.NotASchedule place) = 3

abbrev pub not_enabled_number : NotEnabled → ℕ
not_enabled_number N.NoSuchThread = 1
not_enabled_number N.Idle = 2
not_enabled_number N.InCall = 3
not_enabled_number N.BadCall = 4
not_enabled_number N.ClockSpent = 5
not_enabled_number N.NotSealable = 6
