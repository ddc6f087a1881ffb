-- The numbers of the faults of records.
use Rattle.std.specs.Prelude.{ℕ, Option, Some, None}
use Rattle.kfifo_model.specs.declared.history.RecordFault.{RecordFault}
use Rattle.kfifo_model.specs.declared.history.RecordFault.TheVariants.{NotAList, TooMany, NotACall, NumberOutOfRange}
use Rattle.kfifo_model.specs.declared.history.RecordFault.TheVariants.{WrongAnswer, EndsEarly, OutOfOrder, Overlap}
use Rattle.kfifo_model.specs.declared.history.RecordFault.TheVariants.{Memory}

abbrev pub fault_number : RecordFault → ℕ
fault_number NotAList = 1
fault_number TooMany = 2
fault_number (NotACall n) = 3
fault_number (NumberOutOfRange n) = 4
fault_number (WrongAnswer n) = 5
fault_number (EndsEarly n) = 6
fault_number (OutOfOrder n) = 7
fault_number (Overlap n) = 8
fault_number Memory = 9

-- the number of the faulty call
abbrev pub fault_call : RecordFault → Option ℕ
fault_call NotAList = None
fault_call TooMany = None
fault_call (NotACall n) = Some n
fault_call (NumberOutOfRange n) = Some n
fault_call (WrongAnswer n) = Some n
fault_call (EndsEarly n) = Some n
fault_call (OutOfOrder n) = Some n
fault_call (Overlap n) = Some n
fault_call Memory = None
