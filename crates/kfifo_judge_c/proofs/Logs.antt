-- The log that the calls of C are.
use Rattle.std.proofs.Common.{ℕ, ◌≡◌, ◌∙◌, ◌≤◌, ◌+◌, List, MatchResult, None, Result, Ok, Err, Some, arith}
use Rattle.std.proofs.Common.{length, sym}
use Rattle.std.specs.Prelude.{position}
use Rattle.std.specs.List.{enumerate_from}
use Rattle.std.proofs.lemmas.List.{length-map}
use Rattle.std.proofs.lemmas.List.FromFn.{length-enumerate_from}
use Rattle.std.proofs.lemmas.List.Quantifiers.{position-Some}
use Rattle.std.proofs.lemmas.Option.{none-some}
use Rattle.kfifo_import.specs.declared.log.ImportFault.{ImportFault}
use Rattle.kfifo_import.specs.declared.log.ImportFault.TheVariants as faults
use Rattle.kfifo_import.specs.declared.log.Log.{Log}
use Rattle.kfifo_import.specs.Foreign.{IsFaultToJudge, IsLogToJudge}
use Rattle.kfifo_import.specs.declared.log.TheConstants.{MAX_LOG_CALLS}
use Rattle.kfifo_judge_c.specs.declared.calls.LogCall.{LogCall}
use Rattle.kfifo_judge_c.specs.Lines.{AreKnownToTheLimit, IsCallsFault, IsLogOfCalls, is_unknown, line_of, lines_of}

-- there are as many lines as calls
pub as_many : (calls : List LogCall) → length (lines_of calls) ≡ length calls
as_many calls =
    length-map (enumerate_from 0 calls) (λ (e : ℕ × LogCall). line_of (e.0 + 2) e.1) ∙ length-enumerate_from 0 calls

pub few : (calls : List LogCall) → length calls ≤ MAX_LOG_CALLS → length (lines_of calls) ≤ MAX_LOG_CALLS
few calls small =
    let same = as_many calls in
    omega (arith, same, small)

-- where the first unknown call would stand past the last one that may be there, there is none
pub all_known : (calls : List LogCall) (place : ℕ) → position is_unknown calls ≡ Some place → MAX_LOG_CALLS ≤ place
    → length calls ≤ MAX_LOG_CALLS → position is_unknown calls ≡ None
all_known calls place is far small =
    let none : LogCall = record { first = 0; last = 0; item = 0; thread = 0; op = 0; answer = 0 } in
    let inside = (position-Some is_unknown calls place none is).0 in
    absurd (omega (arith, inside, small, far))

-- where no call is unknown, none is among the first that may be there
pub known_to_the_limit : (calls : List LogCall) → position is_unknown calls ≡ None → AreKnownToTheLimit calls
known_to_the_limit calls known place is = absurd (none-some place (sym known ∙ is))

-- the log of the lines is that of the calls
pub of_calls : (calls : List LogCall) (r : Result Log ImportFault) → position is_unknown calls ≡ None
    → MatchResult r (λ log. IsLogToJudge (lines_of calls) log.history log.calls.items) (IsFaultToJudge (lines_of calls))
    → MatchResult r (λ log. IsLogOfCalls calls log.history log.calls.items) (IsCallsFault calls)
of_calls calls (Ok log) known is = record { known = known; log = is }
of_calls calls (Err (faults.Csv n)) known is = absurd is
of_calls calls (Err faults.TooMany) known is = absurd is
of_calls calls (Err (faults.NotACall n)) known is = absurd is
of_calls calls (Err (faults.NumberOutOfRange n)) known is = (known, is)
of_calls calls (Err (faults.WrongAnswer n)) known is = (known, is)
of_calls calls (Err (faults.EndsEarly n)) known is = (known, is)
of_calls calls (Err (faults.Overlap n)) known is = (known, is)
of_calls calls (Err faults.Memory) known is = tt
