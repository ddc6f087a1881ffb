-- The records of logs, and why a log has none.
use Rattle.std.specs.Prelude.{ℕ, ◌≡◌, ◌<◌, ◌≤◌, List, None, length, map, option_map, slice_index_or}
use Rattle.std.specs.List.Sorted.{IsNonDecreasingBy, IsPermutation, IsStableByKey}
use Rattle.std.specs.Ordering.{nat_cmp}
use Rattle.kfifo_model.specs.declared.calls.Call.{Call}
use Rattle.kfifo_model.specs.declared.history.RecordFault.{RecordFault}
use Rattle.kfifo_model.specs.declared.history.RecordFault.TheVariants as records
use Rattle.kfifo_model.specs.Histories.{no_call}
use Rattle.kfifo_model.specs.Validity.{IsFault, IsHistory}
use Rattle.kfifo_import.specs.declared.log.TheConstants.{MAX_LOG_CALLS}
use Rattle.kfifo_import.specs.declared.log.ImportFault.{ImportFault}
use Rattle.kfifo_import.specs.declared.log.ImportFault.TheVariants.{Csv, TooMany, NotACall, NumberOutOfRange}
use Rattle.kfifo_import.specs.declared.log.ImportFault.TheVariants.{WrongAnswer, EndsEarly, Overlap, Memory}
use Rattle.kfifo_import.specs.declared.log.Line.{Line}
use Rattle.kfifo_model.specs.declared.logged.LoggedCall.{LoggedCall}
use Rattle.kfifo_import.specs.Stamping.{AreStamped}

abbrev pub first_time : Line → ℕ
first_time line = line.call.first

abbrev pub calls_of : List Line → List Call
calls_of lines = map (λ line. line.call) lines

-- the number of the line at a place, 0 past the last one
abbrev pub line_number : List Line → ℕ → ℕ
line_number lines place = (slice_index_or lines place (record { number = 0; call = no_call; item = None })).number

-- The lines in the order of their first times; where two are equal, the earlier line comes first.
pub record AreByFirst (lines sorted : List Line) : Type 0 where
  pub moved : IsPermutation lines sorted
  pub rise : IsNonDecreasingBy first_time sorted
  pub stable : IsStableByKey first_time nat_cmp lines sorted

-- what a log says of the call of a line beside its record: where it stands, when it was, and with which item
abbrev pub logged_call : Line → LoggedCall
logged_call line = record {
  line = line.number;
  first = line.call.first;
  last = option_map (λ end. end.last) line.call.end;
  item = line.item;
}

-- The history is the record of the log, which has at most 16,777,215 lines: its calls in ascending order of first time,
-- with stamps. The calls of the log, by the numbers of the record, are these.
pub record IsLogOf (lines : List Line) (h : List Call) (calls : List LoggedCall) : Type 0 where
  pub few : length lines ≤ MAX_LOG_CALLS
  pub sorted : List Line
  pub by_first : AreByFirst lines sorted
  pub stamped : AreStamped (calls_of sorted) h
  pub valid : IsHistory h
  pub logged : calls ≡ map logged_call sorted

-- the history is the record of the log
abbrev pub IsRecordOfLog : List Line → List Call → Type 0
IsRecordOfLog lines h = (calls : List LoggedCall) × IsLogOf lines h calls

-- a fault of the record, at the line of its call
abbrev pub import_fault : List Line → RecordFault → ImportFault
import_fault lines (records.NumberOutOfRange n) = NumberOutOfRange (line_number lines n)
import_fault lines (records.WrongAnswer n) = WrongAnswer (line_number lines n)
import_fault lines (records.EndsEarly n) = EndsEarly (line_number lines n)
import_fault lines (records.Overlap n) = Overlap (line_number lines n)
import_fault lines records.TooMany = TooMany
import_fault lines records.NotAList = Memory
import_fault lines (records.NotACall n) = Memory
import_fault lines (records.OutOfOrder n) = Memory
import_fault lines records.Memory = Memory

-- The first fault of the calls with stamps, at its line.
pub record IsFaultyLog (lines : List Line) (fault : ImportFault) : Type 0 where
  pub sorted : List Line
  pub by_first : AreByFirst lines sorted
  pub calls : List Call
  pub stamped : AreStamped (calls_of sorted) calls
  pub found : RecordFault
  pub first : IsFault calls found
  pub is : fault ≡ import_fault sorted found

-- why a log has no record. Faults of texts come before
abbrev pub IsImportFault : List Line → ImportFault → Type 0
IsImportFault lines (Csv n) = ⊥
IsImportFault lines TooMany = MAX_LOG_CALLS < length lines
IsImportFault lines (NotACall n) = ⊥
IsImportFault lines (NumberOutOfRange n) = IsFaultyLog lines (NumberOutOfRange n)
IsImportFault lines (WrongAnswer n) = IsFaultyLog lines (WrongAnswer n)
IsImportFault lines (EndsEarly n) = IsFaultyLog lines (EndsEarly n)
IsImportFault lines (Overlap n) = IsFaultyLog lines (Overlap n)
IsImportFault lines Memory = length lines ≤ MAX_LOG_CALLS
