-- What a reading that gave no input did to the count of failed calls, and which fault is reported then.
use Rattle.std.specs.Prelude.{ℕ, ◌≡◌}
use Rattle.kfifo_judge.specs.declared.streams.ReadFault.{ReadFault}
use Rattle.kfifo_judge.specs.declared.streams.ReadFault.TheVariants.{Failed, TooLong, Memory}
use Rattle.kfifo_judge.specs.declared.record.StreamFault.{StreamFault}
use Rattle.kfifo_judge.specs.declared.record.StreamFault.TheVariants as faults
use Rattle.kfifo_judge.specs.Streams.{CountsOne}

abbrev pub IsReadCount : ReadFault → ℕ → ℕ → Type 0
IsReadCount Failed before after = CountsOne before after
IsReadCount TooLong before after = after ≡ before
IsReadCount Memory before after = after ≡ before

-- the fault of a stream whose input was not read
abbrev pub stream_fault_of : ReadFault → StreamFault
stream_fault_of Failed = faults.Input
stream_fault_of TooLong = faults.Input
stream_fault_of Memory = faults.Memory
