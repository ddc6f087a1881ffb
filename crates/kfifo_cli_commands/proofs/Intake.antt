-- A log of which pieces were taken.
use Rattle.std.proofs.Common.{◌≡◌, ◌≢◌, ◌∙◌, ◌++◌, ◌⊎◌, ℕ, List, [], ◌∷◌, Option, Some, None, Result, Ok, Err, IfErr}
use Rattle.std.proofs.Common.{IfOk, OnOk, MatchResult, ap, append-nil, append_assoc, inl, inr, length, refl, subst, sym}
use Rattle.std.proofs.KnownBytes.{Consumes-trans}
use Rattle.std.specs.Io.KnownBytes.{Consumes, IsAtEnd}
use Rattle.csv.specs.Reading.{strip_bom}
use Rattle.kfifo_model.specs.declared.calls.Call.{Call}
use Rattle.kfifo_model.specs.declared.logged.LoggedCall.{LoggedCall}
use Rattle.kfifo_import.specs.declared.log.ImportFault.{ImportFault}
use Rattle.kfifo_import.specs.declared.log.ImportFault.TheVariants as logs
use Rattle.kfifo_import.specs.declared.log.TheConstants.{MAX_LOG_CALLS}
use Rattle.kfifo_import.specs.declared.reader.LogReader.{LogReader}
use Rattle.kfifo_import.specs.Foreign.{IsJudgedLog, IsUnjudged}
use Rattle.kfifo_import.specs.Readers.{IsReading}
use Rattle.kfifo_import.specs.Tables.{IsTextFault}
use Rattle.kfifo_judge.specs.Inputs.{BeginsLog, BeginsRecord, IsLongRecord}
use Rattle.kfifo_cli_texts.specs.Faults.{log_fault}
use Rattle.std.specs.Result.{IsErrAnd}
use Rattle.kfifo_cli_commands.specs.declared.failure.Failure.{Failure}
use Rattle.kfifo_cli_commands.proofs.Types.{Fault}
use Rattle.kfifo_cli_commands.specs.Inputs.{HasCalls, HasNoCalls, IsCallsInput, IsCallsRefusal, IsLogFault, IsLogUnread}
use Rattle.kfifo_cli_commands.specs.Inputs.{IsNoCalls, Leaves}

-- of a log that begins with these bytes the reader has taken these, and some that the source has given
pub record IsFed (start : List ℕ) (before now : Option (List ℕ)) (reader : LogReader) : Type 0 where
  pub seen : List ℕ
  pub came : Consumes before now seen
  pub reading : (more : List ℕ) → IsReading reader (start ++ (seen ++ more)) more

-- what one piece more does to a reader
abbrev pub TakesPiece : LogReader → LogReader → List ℕ → Type 0
TakesPiece old new piece = (text more : List ℕ) → IsReading old text (piece ++ more) → IsReading new text more

none_came : (input : Option (List ℕ)) → Consumes input input []
none_came None = tt
none_came (Some given) = refl

-- the bytes that the log begins with
pub fed_first : (start : List ℕ) (input : Option (List ℕ)) (fresh reader : LogReader)
    → ((text : List ℕ) → IsReading fresh text text)
    → TakesPiece fresh reader start → IsFed start input input reader
fed_first start input fresh reader begins takes =
    record { seen = []; came = none_came input; reading = λ more. takes (start ++ more) more (begins (start ++ more)) }

-- one piece more
pub fed_more : (start : List ℕ) (before now after : Option (List ℕ)) (old new : LogReader) (piece : List ℕ)
    → IsFed start before now old
    → Consumes now after piece → TakesPiece old new piece → IsFed start before after new
fed_more start before now after old new piece fed came takes = record {
  seen = fed.seen ++ piece;
  came = Consumes-trans before now after fed.seen piece fed.came came;
  reading = λ more. subst (λ (t : List ℕ). IsReading new (start ++ t) more) (sym (append_assoc fed.seen piece more))
      (takes (start ++ (fed.seen ++ (piece ++ more))) more (fed.reading (piece ++ more)));
}

at_end : (before after : Option (List ℕ)) (bytes : List ℕ) → Consumes before after bytes → IsAtEnd after
    → Leaves before bytes
at_end None after bytes came ended = tt
at_end (Some given) None bytes came ended = absurd came
at_end (Some given) (Some rest) bytes came ended = came ∙ (ap (λ (r : List ℕ). bytes ++ r) ended ∙ append-nil bytes)

-- no more comes
pub fed_all : (start : List ℕ) (before now after : Option (List ℕ)) (reader : LogReader) → IsFed start before now reader
    → Consumes now after [] → IsAtEnd after → (rest : List ℕ) × Leaves before rest × IsReading reader (start ++ rest) []
fed_all start before now after reader fed came ended = (
  fed.seen ++ [],
  at_end before after (fed.seen ++ []) (Consumes-trans before now after fed.seen [] fed.came came) ended,
  fed.reading [],
)

-- what is left of an input behind some bytes
abbrev left_of : Option (List ℕ) → List ℕ
left_of None = []
left_of (Some given) = given

all_given : (before after : Option (List ℕ)) (bytes : List ℕ) → Consumes before after bytes
    → Leaves before (bytes ++ left_of after)
all_given None after bytes came = tt
all_given (Some given) None bytes came = absurd came
all_given (Some given) (Some rest) bytes came = came

-- a piece is refused: the log is what was taken, and what is left
pub fed_wrong : (start : List ℕ) (before now after : Option (List ℕ)) (reader : LogReader) (piece : List ℕ)
    (fault : Fault)
    → IsFed start before now reader → Consumes now after piece
    → ((text more : List ℕ) → IsReading reader text (piece ++ more) → IsLogFault text fault)
    → (rest : List ℕ) × Leaves before rest × IsLogFault (start ++ rest) fault
fed_wrong start before now after reader piece fault fed came wrong =
    let more = left_of after in (
      (fed.seen ++ piece) ++ more,
      all_given before after (fed.seen ++ piece) (Consumes-trans before now after fed.seen piece fed.came came),
      subst (λ (t : List ℕ). IsLogFault (start ++ t) fault) (sym (append_assoc fed.seen piece more))
          (wrong (start ++ (fed.seen ++ (piece ++ more))) more (fed.reading (piece ++ more))),
    )

-- the same of the bytes that the log begins with
pub first_wrong : (start : List ℕ) (input : Option (List ℕ)) (fresh : LogReader) (fault : Fault)
    → ((text : List ℕ) → IsReading fresh text text)
    → ((text more : List ℕ) → IsReading fresh text (start ++ more) → IsLogFault text fault)
    → (rest : List ℕ) × Leaves input rest × IsLogFault (start ++ rest) fault
first_wrong start input fresh fault begins wrong =
    let more = left_of input in
    (more, all_given input input [] (none_came input), wrong (start ++ more) more (begins (start ++ more)))

-- a fault of the rows of a log is one of the log
pub rows_unjudged : (text : List ℕ) (fault : ImportFault) → IsTextFault MAX_LOG_CALLS (strip_bom text) fault
    → IsUnjudged text fault
rows_unjudged text (logs.Csv n) f = f
rows_unjudged text logs.TooMany f = f
rows_unjudged text (logs.NotACall n) f = f
rows_unjudged text (logs.NumberOutOfRange n) f = absurd f
rows_unjudged text (logs.WrongAnswer n) f = absurd f
rows_unjudged text (logs.EndsEarly n) f = absurd f
rows_unjudged text (logs.Overlap n) f = absurd f
rows_unjudged text logs.Memory f = tt

-- what is read of a log is read of its input
module _ (start rest : List ℕ) (before now : Option (List ℕ)) (begins : BeginsLog start)
    (came : Consumes before now start) (left : Leaves now rest) where
  whole_input : (before now : Option (List ℕ)) → Consumes before now start → Leaves now rest
      → Leaves before (start ++ rest)
  whole_input None now came left = tt
  whole_input (Some given) None came left = absurd came
  whole_input (Some given) (Some more) came left = came ∙ ap (λ (r : List ℕ). start ++ r) left

  some_bytes : (start : List ℕ) → start ≢ [] → start ++ rest ≢ []
  some_bytes [] some none = some refl
  some_bytes (byte ∷ bytes) some none = absurd (cc)

  input_is : IsCallsInput before (start ++ rest)
  input_is = (whole_input before now came left, λ long. begins.1 rest long.0)

  pub log_calls : (history : List Call) (calls : List LoggedCall) → IsJudgedLog (start ++ rest) history calls
      → length calls ≡ length history → HasCalls before history (Some calls)
  log_calls history calls log each = (start ++ rest, input_is, (begins.1 rest, log, each))

  no_calls : (fault : ImportFault) → IsUnjudged (start ++ rest) fault → IsNoCalls (start ++ rest) (log_fault fault)
  no_calls (logs.Csv n) u = (some_bytes start begins.0, begins.1 rest, u)
  no_calls logs.TooMany u = (some_bytes start begins.0, begins.1 rest, u)
  no_calls (logs.NotACall n) u = (some_bytes start begins.0, begins.1 rest, u)
  no_calls (logs.NumberOutOfRange n) u = (some_bytes start begins.0, begins.1 rest, u)
  no_calls (logs.WrongAnswer n) u = (some_bytes start begins.0, begins.1 rest, u)
  no_calls (logs.EndsEarly n) u = (some_bytes start begins.0, begins.1 rest, u)
  no_calls (logs.Overlap n) u = (some_bytes start begins.0, begins.1 rest, u)
  no_calls logs.Memory u = tt

  pub log_refused : (fault : Fault) → IsLogFault (start ++ rest) fault → HasNoCalls before fault
  log_refused fault wrong =
      (start ++ rest, input_is, subst (IsNoCalls (start ++ rest)) (sym wrong.1) (no_calls wrong.0 wrong.2))

-- a failure is handed on as it is
pub handed_on : {A : Type 0} (result : Result A Failure) (given : Failure) (P : A → Type 0) (Says : Failure → Type 0)
    → IsErrAnd result (λ failure. failure ≡ given) → Says given → MatchResult result P Says
handed_on (Ok x) given P Says is says = absurd is
handed_on (Err failure) given P Says is says = subst Says (sym is) says

pub err_on : {A : Type 0} (result : Result A Failure) (given : Failure) (Says : Failure → Type 0)
    → IsErrAnd result (λ failure. failure ≡ given) → Says given → IfErr result Says
err_on (Ok x) given Says is says = absurd is
err_on (Err failure) given Says is says = subst Says (sym is) says

-- a log that was not read whole has no calls
pub log_unread : (start : List ℕ) (before now : Option (List ℕ)) (old new : ℕ) (fault : Fault) → BeginsLog start
    → Consumes before now start
    → IsLogUnread start now old new fault → IsCallsRefusal before old new fault
log_unread start before now old new fault begins came (inl memory) = inl memory
log_unread start before now old new fault begins came (inr (inl failed)) = inr (inl (failed.0, inl failed.1))
log_unread start before now old new fault begins came (inr (inr wrong)) =
    inr (inr (log_refused start wrong.0 before now begins came wrong.1 fault wrong.2))
