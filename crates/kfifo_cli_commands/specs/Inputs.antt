-- What the commands `judge`, `least`, `import` and `draw` read, and the calls of it: a record in JSON, or a log in CSV.
use Rattle.std.specs.Prelude.{◌≡◌, ◌≢◌, ◌⊎◌, ◌++◌, ℕ, List, [], Option, Some, None, IfSome, length}
use denote.Ref.{Bor}
use Rattle.kfifo_model.specs.declared.calls.Call.{Call}
use Rattle.kfifo_model.specs.declared.history.RecordFault.{RecordFault}
use Rattle.kfifo_import.specs.declared.log.ImportFault.{ImportFault}
use Rattle.kfifo_model.specs.declared.logged.LoggedCall.{LoggedCall}
use Rattle.kfifo_import.specs.Foreign.{IsJudgedLog, IsUnjudged}
use Rattle.kfifo_cli_texts.specs.Faults.{log_fault}
use Rattle.kfifo_judge.specs.declared.record.StreamFault.TheVariants as streams
use Rattle.kfifo_judge.specs.Inputs.{BeginsRecord, IsLongRecord}
use Rattle.kfifo_judge.specs.Streams.{CountsOne}
use Rattle.kfifo_model.specs.RecordTexts.{IsRecordText}
use Rattle.kfifo_judge.specs.TextFaults.{IsTextFault}
use Rattle.kfifo_cli_texts.specs.declared.fault.Fault.{Fault}
use Rattle.kfifo_cli_texts.specs.declared.fault.Fault.TheVariants.{Import, Input, NoInput, NotJson, Record, Memory}

-- What the commands read: the bytes of a file, of which nothing is known, where one is named; else the input.
abbrev pub read_from : Option (Bor (List ℕ)) → Option (List ℕ) → Option (List ℕ)
read_from None input = input
read_from (Some path) input = None

-- these bytes are left of an input, where those are known
abbrev pub Leaves : Option (List ℕ) → List ℕ → Type 0
Leaves input rest = IfSome input (λ given. given ≡ rest)

-- these are the bytes of the input, where those are known; a record has at most 16,777,216, a log any number
abbrev pub IsCallsInput : Option (List ℕ) → List ℕ → Type 0
IsCallsInput input bytes = Leaves input bytes × ¬ (IsLongRecord bytes)

-- it was not read whole: a read failed, or over 16,777,216 bytes of a record came
abbrev pub IsCallsUnread : Option (List ℕ) → ℕ → ℕ → Type 0
IsCallsUnread input before after = CountsOne before after ⊎ ((after ≡ before) × IfSome input IsLongRecord)

-- The calls of an input: the record's, or the log's with what the log says of each beside them.
abbrev pub IsCalls : List ℕ → List Call → Option (List LoggedCall) → Type 0
IsCalls bytes history None = BeginsRecord bytes × IsRecordText bytes history
IsCalls bytes history (Some calls) = ¬ (BeginsRecord bytes) × IsJudgedLog bytes history calls
    × (length calls ≡ length history)

-- what the log says of each call, and nothing of a record
abbrev pub logged_calls : Option (List LoggedCall) → List LoggedCall
logged_calls (Some calls) = calls
logged_calls None = []

-- why an input has no calls
abbrev pub IsNoCalls : List ℕ → Fault → Type 0
IsNoCalls bytes NoInput = bytes ≡ []
IsNoCalls bytes NotJson = BeginsRecord bytes × IsTextFault bytes streams.NotJson
IsNoCalls bytes (Record fault) = BeginsRecord bytes × IsTextFault bytes (streams.Record fault)
IsNoCalls bytes (Import fault) = (bytes ≢ []) × ¬ (BeginsRecord bytes) × IsUnjudged bytes fault
IsNoCalls bytes Memory = Unit {0}
IsNoCalls bytes _ = ⊥

-- these are the calls of the input
abbrev pub HasCalls : Option (List ℕ) → List Call → Option (List LoggedCall) → Type 0
HasCalls input history logged = (bytes : List ℕ) × IsCallsInput input bytes × IsCalls bytes history logged

-- the bytes of the input have no calls, for this reason
abbrev pub HasNoCalls : Option (List ℕ) → Fault → Type 0
HasNoCalls input fault = (bytes : List ℕ) × IsCallsInput input bytes × IsNoCalls bytes fault

-- why there are no calls: memory was refused, the input was not read whole, or it has none
abbrev pub IsCallsRefusal : Option (List ℕ) → ℕ → ℕ → Fault → Type 0
IsCallsRefusal input before after fault = (fault ≡ Memory) ⊎ ((fault ≡ Input) × IsCallsUnread input before after)
    ⊎ HasNoCalls input fault

-- a fault is that of the log that a text is
abbrev pub IsLogFault : List ℕ → Fault → Type 0
IsLogFault text fault = (given : ImportFault) × (fault ≡ log_fault given) × IsUnjudged text given

-- why a log was not read whole that begins with these bytes: memory was refused, a read failed, or a row is at fault
abbrev pub IsLogUnread : List ℕ → Option (List ℕ) → ℕ → ℕ → Fault → Type 0
IsLogUnread start input before after fault = (fault ≡ Memory) ⊎ ((fault ≡ Input) × CountsOne before after)
    ⊎ ((rest : List ℕ) × Leaves input rest × IsLogFault (start ++ rest) fault)
