-- The faults of an opening, of a close and of a gathering, by their numbers.
use Rattle.std.specs.Prelude.{ℕ}
use Rattle.kfifo_live.specs.declared.fault.OpenFault.{OpenFault}
use Rattle.kfifo_live.specs.declared.fault.OpenFault.TheVariants as O
use Rattle.kfifo_live.specs.declared.fault.CloseFault.{CloseFault}
use Rattle.kfifo_live.specs.declared.fault.CloseFault.TheVariants as C
use Rattle.kfifo_live.specs.declared.fault.GatherFault.{GatherFault}
use Rattle.kfifo_live.specs.declared.fault.GatherFault.TheVariants as G

abbrev pub open_fault_number : OpenFault → ℕ
open_fault_number O.ThreadsOutOfRange = 1
open_fault_number O.Memory = 2
open_fault_number O.TokensOutOfRange = 3
open_fault_number O.CallsOutOfRange = 4

abbrev pub close_fault_number : CloseFault → ℕ
close_fault_number C.Memory = 1
close_fault_number C.MissingPass = 2

abbrev pub gather_fault_number : GatherFault → ℕ
gather_fault_number G.MissingPass = 1
gather_fault_number G.Memory = 2
