-- Why there is no order.
use Rattle.std.specs.Prelude.{ℕ, ◌≡◌, ◌<◌, ◌≤◌, ◌⊎◌, List}
use Rattle.kfifo_model.specs.declared.calls.TheConstants.{MAX_THREADS}
use Rattle.kfifo_words.specs.declared.shape.Shape.{Shape}
use Rattle.kfifo_machine.specs.declared.event.Event.{Event}
use Rattle.kfifo_machine.specs.Machine.{IsSchedule}
use Rattle.kfifo_machine.specs.declared.fault.StartFault.{StartFault}
use Rattle.kfifo_machine.specs.declared.fault.StartFault.TheVariants as S
use Rattle.kfifo_linear.specs.declared.linearization.LinearFault.{LinearFault}
use Rattle.kfifo_linear.specs.declared.linearization.LinearFault.TheVariants.{Memory, NotASchedule}

-- where a machine was not started
abbrev pub linear_fault_of : StartFault → LinearFault
linear_fault_of S.ThreadsOutOfRange = NotASchedule
linear_fault_of S.Memory = Memory

-- the number of a fault
abbrev pub linear_fault_number : LinearFault → ℕ
linear_fault_number NotASchedule = 1
linear_fault_number Memory = 2

-- what holds where events have no order: it is no schedule of 1 to 64 threads, or memory failed, after the number of
-- threads was tested
abbrev pub IsLinearFault : Shape → ℕ → List Event → LinearFault → Type 0
IsLinearFault shape threads events NotASchedule = ((threads ≡ 0) ⊎ (MAX_THREADS < threads))
    ⊎ (IsSchedule shape threads events → ⊥)
IsLinearFault shape threads events Memory = (0 < threads) × (threads ≤ MAX_THREADS)
