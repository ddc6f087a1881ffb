-- The numbers of the faults of a replay.
use Rattle.std.specs.Prelude.{ℕ}
use Rattle.kfifo_replay.specs.declared.fault.ReplayFault.{ReplayFault}
use Rattle.kfifo_replay.specs.declared.fault.ReplayFault.TheVariants.{BadPick, BadScript, Memory}

abbrev pub replay_fault_number : ReplayFault → ℕ
replay_fault_number (BadPick place) = 1
replay_fault_number Memory = 2
replay_fault_number BadScript = 3
