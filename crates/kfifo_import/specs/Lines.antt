-- The lines of a log in the order of their calls' beginnings.
use Rattle.std.specs.Prelude.{ℕ, List, None, map, slice_index_or}
use Rattle.std.specs.List.{enumerate_from}
use Rattle.kfifo_model.specs.declared.history.RecordFault.{RecordFault}
use Rattle.kfifo_model.specs.declared.history.RecordFault.TheVariants as records
use Rattle.kfifo_model.specs.Histories.{no_call}
use Rattle.kfifo_model.specs.Logged.{line_of}
use Rattle.kfifo_import.specs.declared.log.ImportFault.{ImportFault}
use Rattle.kfifo_import.specs.declared.log.ImportFault.TheVariants.{TooMany, NumberOutOfRange, WrongAnswer, EndsEarly}
use Rattle.kfifo_import.specs.declared.log.ImportFault.TheVariants.{Overlap, Memory}
use Rattle.kfifo_import.specs.declared.log.Line.{Line}
use Rattle.kfifo_model.specs.declared.logged.LoggedCall.{LoggedCall}
use Rattle.kfifo_import.specs.declared.moments.Moment.{Moment}

abbrev pub no_line : Line
no_line = record { number = 0; call = no_call; item = None }

-- the line at a place. Past the last one there is none
abbrev pub line_at : List Line → ℕ → Line
line_at lines place = slice_index_or lines place no_line

-- when the calls of the lines begin, and the lines' places
abbrev pub beginnings : List Line → List Moment
beginnings lines = map (λ e. record { time = e.1.call.first; number = e.0 }) (enumerate_from 0 lines)

-- the lines at the places of these beginnings
abbrev pub lines_by : List Line → List Moment → List Line
lines_by lines order = map (λ begin. line_at lines begin.number) order

-- a fault of the record, at the line of its call
abbrev pub fault_among : List LoggedCall → RecordFault → ImportFault
fault_among calls (records.NumberOutOfRange n) = NumberOutOfRange (line_of calls n)
fault_among calls (records.WrongAnswer n) = WrongAnswer (line_of calls n)
fault_among calls (records.EndsEarly n) = EndsEarly (line_of calls n)
fault_among calls (records.Overlap n) = Overlap (line_of calls n)
fault_among calls records.TooMany = TooMany
fault_among calls records.NotAList = Memory
fault_among calls (records.NotACall n) = Memory
fault_among calls (records.OutOfOrder n) = Memory
fault_among calls records.Memory = Memory
