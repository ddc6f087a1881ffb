-- What the commands `check` and `measure` come to, by their options, their input and its failed reads.
use Rattle.std.specs.Prelude.{◌≡◌, ◌≢◌, ◌⊎◌, ◌<◌, ◌≤◌, ℕ, List, [], Option, Some, None, IfSome, Result, MatchResult}
use Rattle.std.specs.Prelude.{length, option_map}
use Rattle.kfifo_judge.specs.declared.streams.TheConstants.{MAX_BYTES}
use Rattle.kfifo_judge.specs.declared.outcome.Outcome.{Outcome}
use Rattle.kfifo_judge.specs.declared.streams.ReadFault.{ReadFault}
use Rattle.kfifo_judge.specs.declared.streams.ReadFault.TheVariants as reads
use Rattle.kfifo_judge.specs.declared.record.StreamFault.{StreamFault}
use Rattle.kfifo_judge.specs.declared.record.StreamFault.TheVariants as streams
use Rattle.kfifo_judge.specs.Check.{IsChecked, IsCheckFault}
use Rattle.kfifo_judge.specs.Measure.{IsMeasured, IsMeasuringFault}
use Rattle.kfifo_judge.specs.Streams.{CountsOne}
use Rattle.kfifo_cli_texts.specs.declared.fault.Fault.{Fault}
use Rattle.kfifo_cli_texts.specs.declared.fault.Fault.TheVariants.{Order, Input, NotJson, Record, Search, RepeatedItem}
use Rattle.kfifo_cli_texts.specs.declared.fault.Fault.TheVariants.{Memory, NoInput}
use Rattle.kfifo_cli_requests.specs.declared.requests.CheckOptions.{CheckOptions}
use Rattle.kfifo_cli_commands.specs.declared.failure.Failure.{Failure}
use Rattle.kfifo_cli_commands.specs.Statuses.{outcome_status, status_number}
use Rattle.kfifo_cli_texts.specs.Faults.{stream_fault}
use Rattle.kfifo_cli_texts.specs.Orders.{GivesNoOrder, GivesOrder}

-- these are the bytes of the input, where those are known, and they are at most 16,777,216
abbrev pub IsInput : Option (List ℕ) → List ℕ → Type 0
IsInput input bytes = IfSome input (λ given. (given ≡ bytes) × (length given ≤ MAX_BYTES))

-- the input was not read whole: a read failed, or over 16,777,216 bytes came
abbrev pub IsUnread : Option (List ℕ) → ℕ → ℕ → Type 0
IsUnread input before after = CountsOne before after
    ⊎ ((after ≡ before) × IfSome input (λ given. MAX_BYTES < length given))

-- the fault of a command whose input was not read
abbrev pub input_fault : ReadFault → Fault
input_fault reads.Failed = Input
input_fault reads.TooLong = Input
input_fault reads.Memory = Memory

-- no read failed, unless that is the fault that is reported
abbrev pub FailsWell : {T : Type 0} → Result T Failure → ℕ → ℕ → Type 0
FailsWell result before after =
    MatchResult result (λ answer. after ≡ before) (λ failure. failure.fault ≢ Input → after ≡ before)

-- the bytes of the input, of which there are some, have this fault
abbrev pub IsOfInput : Option (List ℕ) → (List ℕ → StreamFault → Type 0) → StreamFault → Type 0
IsOfInput input IsFaulty given = (bytes : List ℕ) × IsInput input bytes × (bytes ≢ []) × IsFaulty bytes given

-- why these bytes have no answer: there are none, or they have a fault
abbrev pub IsUnanswered : List ℕ → (List ℕ → StreamFault → Type 0) → Fault → Type 0
IsUnanswered bytes IsFaulty fault = ((fault ≡ NoInput) × (bytes ≡ []))
    ⊎ ((given : StreamFault) × (fault ≡ stream_fault given) × (bytes ≢ []) × IsFaulty bytes given)

-- Why a record of the input has no answer: memory was refused, the input was not read whole, or its bytes have none.
abbrev pub IsRecordRefusal : Option (List ℕ) → ℕ → ℕ → (List ℕ → StreamFault → Type 0) → Fault → Type 0
IsRecordRefusal input before after IsFaulty fault = (fault ≡ Memory) ⊎ ((fault ≡ Input) × IsUnread input before after)
    ⊎ ((bytes : List ℕ) × IsInput input bytes × IsUnanswered bytes IsFaulty fault)

-- the order that a text gives, or none where there is no text
abbrev pub GivesSomeOrder : Option (List ℕ) → Option (List ℕ) → Type 0
GivesSomeOrder None order = order ≡ None
GivesSomeOrder (Some text) order = (numbers : List ℕ) × (order ≡ Some numbers) × GivesOrder text numbers

-- the order that is to be judged, or none
abbrev pub IsOrder : CheckOptions → Option (List ℕ) → Type 0
IsOrder options order = GivesSomeOrder (option_map (λ text. text.now) options.order) order

-- the text and the status of `check`: those that answer the record of the input
pub record IsCheck (options : CheckOptions) (input : Option (List ℕ)) (text : List ℕ) (status : ℕ) : Type 0 where
  pub order : Option (List ℕ)
  pub order_given : IsOrder options order
  pub bytes : List ℕ
  pub read : IsInput input bytes
  pub said : Outcome
  pub checked : IsChecked options.k order bytes text said
  pub ended : status ≡ status_number (outcome_status said)

-- the input of `check` has this fault
pub record IsUnchecked (options : CheckOptions) (input : Option (List ℕ)) (fault : StreamFault) : Type 0 where
  pub order : Option (List ℕ)
  pub order_given : IsOrder options order
  pub bytes : List ℕ
  pub read : IsInput input bytes
  pub some : bytes ≢ []
  pub faulty : IsCheckFault order bytes fault

-- the order to be judged is a text that gives no order
pub record IsOrderFault (options : CheckOptions) : Type 0 where
  pub text : List ℕ
  pub given : option_map (λ t. t.now) options.order ≡ Some text
  pub unread : GivesNoOrder text

-- why `check` has no answer
abbrev pub IsCheckRefusal : CheckOptions → Option (List ℕ) → ℕ → ℕ → Fault → Type 0
IsCheckRefusal options input before after Order = IsOrderFault options
IsCheckRefusal options input before after Input = IsUnread input before after
IsCheckRefusal options input before after NoInput = IsInput input []
IsCheckRefusal options input before after NotJson = IsUnchecked options input streams.NotJson
IsCheckRefusal options input before after (Record fault) = IsUnchecked options input (streams.Record fault)
IsCheckRefusal options input before after (Search fault) = IsUnchecked options input (streams.Search fault)
IsCheckRefusal options input before after Memory = Unit {0}
IsCheckRefusal options input before after _ = ⊥

-- the text of `measure` for the record of the input
pub record IsMeasure (input : Option (List ℕ)) (text : List ℕ) : Type 0 where
  pub bytes : List ℕ
  pub read : IsInput input bytes
  pub measured : IsMeasured bytes text

-- why `measure` has no answer
abbrev pub IsMeasureRefusal : Option (List ℕ) → ℕ → ℕ → Fault → Type 0
IsMeasureRefusal input before after Input = IsUnread input before after
IsMeasureRefusal input before after NoInput = IsInput input []
IsMeasureRefusal input before after NotJson = IsOfInput input IsMeasuringFault streams.NotJson
IsMeasureRefusal input before after (Record fault) = IsOfInput input IsMeasuringFault (streams.Record fault)
IsMeasureRefusal input before after RepeatedItem = IsOfInput input IsMeasuringFault streams.RepeatedItem
IsMeasureRefusal input before after Memory = Unit {0}
IsMeasureRefusal input before after _ = ⊥
