-- The faults of commands, and how the program tells them.
use Rattle.std.specs.Prelude.{ℕ, List, [], ◌++◌, Option, Some, None, codes, decimal}
use Rattle.kfifo_words.specs.Sizes.{shape_fault_number}
use Rattle.kfifo_model.specs.declared.history.RecordFault.{RecordFault}
use Rattle.kfifo_model.specs.FaultNumbers.{fault_number, fault_call}
use Rattle.kfifo_model.specs.Searching.{search_fault_number}
use Rattle.kfifo_judge.specs.declared.record.StreamFault.{StreamFault}
use Rattle.kfifo_judge.specs.declared.record.StreamFault.TheVariants as streams
use Rattle.kfifo_draw.specs.declared.picture.DrawFault.{DrawFault}
use Rattle.kfifo_draw.specs.declared.picture.DrawFault.TheVariants as pictures
use Rattle.kfifo_import.specs.declared.log.ImportFault.{ImportFault}
use Rattle.kfifo_import.specs.declared.log.ImportFault.TheVariants as logs
use Rattle.kfifo_live.specs.Faults.{open_fault_number}
use Rattle.kfifo_dispatch.specs.Faults.{dispatch_fault_number}
use Rattle.kfifo_replay.specs.declared.fault.ReplayFault.{ReplayFault}
use Rattle.kfifo_replay.specs.declared.fault.ReplayFault.TheVariants as replays
use Rattle.kfifo_replay.specs.Faults.{replay_fault_number}
use Rattle.kfifo_cli_texts.specs.declared.fault.Fault.{Fault}
use Rattle.kfifo_cli_texts.specs.declared.fault.Fault.TheVariants as faults
use Rattle.kfifo_model.specs.RecordTexts.{line}

-- a number, with a place behind it where there is one, and what stands before that
abbrev pub number_at : List ℕ → ℕ → Option ℕ → List ℕ
number_at before number None = decimal number
number_at before number (Some place) = decimal number ++ before ++ decimal place

-- what is said of a fault of a record
abbrev pub record_fault_text : RecordFault → List ℕ
record_fault_text fault = number_at (codes " at call ") (fault_number fault) (fault_call fault)

-- the fault of a command, from its stream's over memory: a failed write is a refused growth
abbrev pub stream_fault : StreamFault → Fault
stream_fault streams.Input = faults.Input
stream_fault streams.NotJson = faults.NotJson
stream_fault (streams.Record fault) = faults.Record fault
stream_fault (streams.Search fault) = faults.Search fault
stream_fault streams.RepeatedItem = faults.RepeatedItem
stream_fault streams.Memory = faults.Memory
stream_fault streams.Output = faults.Memory

-- the fault of a command, from a log's
abbrev pub log_fault : ImportFault → Fault
log_fault (logs.Csv n) = faults.Import (logs.Csv n)
log_fault logs.TooMany = faults.Import logs.TooMany
log_fault (logs.NotACall n) = faults.Import (logs.NotACall n)
log_fault (logs.NumberOutOfRange n) = faults.Import (logs.NumberOutOfRange n)
log_fault (logs.WrongAnswer n) = faults.Import (logs.WrongAnswer n)
log_fault (logs.EndsEarly n) = faults.Import (logs.EndsEarly n)
log_fault (logs.Overlap n) = faults.Import (logs.Overlap n)
log_fault logs.Memory = faults.Memory

-- the fault of a command, from a picture's
abbrev pub picture_fault : DrawFault → Fault
picture_fault pictures.TooMany = faults.TooManyDrawn
picture_fault pictures.Memory = faults.Memory

-- the number of a record's fault and the line of a log that has it
abbrev pub at_line_text : ℕ → ℕ → List ℕ
at_line_text number line = number_at (codes " at line ") number (Some line)

-- what is said of a fault of a log: a fault of a record has its number
abbrev pub import_fault_text : ImportFault → List ℕ
import_fault_text (logs.Csv n) = codes "csv fault at line " ++ decimal n
import_fault_text logs.TooMany = codes "record fault " ++ decimal 2
import_fault_text (logs.NotACall n) = codes "record fault " ++ at_line_text 3 n
import_fault_text (logs.NumberOutOfRange n) = codes "record fault " ++ at_line_text 4 n
import_fault_text (logs.WrongAnswer n) = codes "record fault " ++ at_line_text 5 n
import_fault_text (logs.EndsEarly n) = codes "record fault " ++ at_line_text 6 n
import_fault_text (logs.Overlap n) = codes "record fault " ++ at_line_text 8 n
import_fault_text logs.Memory = codes "memory"

-- the place of the pick that is refused
abbrev pub refused_pick : ReplayFault → Option ℕ
refused_pick (replays.BadPick place) = Some place
refused_pick replays.Memory = None
refused_pick replays.BadScript = None

-- what is said of a fault of a replay
abbrev pub replay_fault_text : ReplayFault → List ℕ
replay_fault_text fault = number_at (codes " at ") (replay_fault_number fault) (refused_pick fault)

-- what is said of a fault
abbrev pub fault_text : Fault → List ℕ
fault_text (faults.Shape fault) = codes "shape fault " ++ decimal (shape_fault_number fault)
fault_text (faults.Word number) = codes "word fault at " ++ decimal number
fault_text faults.Order = codes "order fault"
fault_text faults.Picks = codes "picks fault"
fault_text (faults.Replay fault) = codes "replay fault " ++ replay_fault_text fault
fault_text faults.Trace = codes "trace fault"
fault_text (faults.Open fault) = codes "open fault " ++ decimal (open_fault_number fault)
fault_text (faults.Dispatch fault) = codes "dispatch fault " ++ decimal (dispatch_fault_number fault)
fault_text faults.Input = codes "input"
fault_text faults.NoInput = codes "no input"
fault_text faults.NotJson = codes "not json"
fault_text (faults.Record fault) = codes "record fault " ++ record_fault_text fault
fault_text (faults.Search fault) = codes "search fault " ++ decimal (search_fault_number fault)
fault_text faults.RepeatedItem = codes "measure fault 2"
fault_text (faults.Import fault) = import_fault_text fault
fault_text faults.TooManyDrawn = codes "draw fault 1"
fault_text faults.Contradiction = codes "draw fault 2"
fault_text faults.Stretch = codes "draw fault 3"
fault_text faults.NoLines = codes "draw fault 4"
fault_text faults.NoEvidence = codes "draw fault 5"
fault_text faults.Unexplained = codes "explain fault 1"
fault_text faults.Memory = codes "memory"
fault_text faults.Output = codes "output"

-- the line of a fault
abbrev pub fault_line : Fault → List ℕ
fault_line fault = line (codes "kfifo: " ++ fault_text fault)

-- a number behind a text, or nothing where there is none
abbrev pub number_text : List ℕ → Option ℕ → List ℕ
number_text before None = []
number_text before (Some number) = before ++ decimal number

-- words, with a number behind them, and behind that a place with what stands before it, where there are such
abbrev pub numbered : List ℕ → Option ℕ → List ℕ → Option ℕ → List ℕ
numbered words number before place = (words ++ number_text [] number) ++ number_text before place
