-- The faults of a dispatch, by their numbers.
use Rattle.std.specs.Prelude.{ℕ}
use Rattle.kfifo_dispatch.specs.declared.fault.DispatchFault.{DispatchFault}
use Rattle.kfifo_dispatch.specs.declared.fault.DispatchFault.TheVariants as F

abbrev pub dispatch_fault_number : DispatchFault → ℕ
dispatch_fault_number F.TooManyTasks = 1
dispatch_fault_number F.RepeatedId = 2
dispatch_fault_number F.Memory = 3
dispatch_fault_number F.WorkersOutOfRange = 4
