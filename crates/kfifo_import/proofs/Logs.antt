-- A log has a call for each of its record, and a fault of the record is one of the log, at the line of its call.
use Rattle.std.proofs.Common.{◌≡◌, ◌∙◌, ◌<◌, List, None, length, get_or, subst, refl, arith}
use Rattle.std.specs.List.Sorted.{IsNonDecreasingBy}
use Rattle.std.proofs.lemmas.List.{length-map}
use Rattle.std.proofs.lemmas.List.Sorted.{length_permutation}
use Rattle.std.proofs.Math.ListN.{get_or-map}
use Rattle.kfifo_model.specs.declared.calls.Call.{Call}
use Rattle.kfifo_model.specs.declared.history.RecordFault.{RecordFault}
use Rattle.kfifo_model.specs.declared.history.RecordFault.TheVariants as records
use Rattle.kfifo_model.specs.Validity.{IsFault}
use Rattle.kfifo_import.specs.declared.log.Line.{Line}
use Rattle.kfifo_model.specs.declared.logged.LoggedCall.{LoggedCall}
use Rattle.kfifo_import.specs.Logs.{AreByFirst, IsImportFault, IsLogOf, calls_of, first_time, import_fault, logged_call}
use Rattle.kfifo_import.specs.Stamping.{AreStamped}

pub calls_rise : (lines : List Line) → IsNonDecreasingBy first_time lines
    → IsNonDecreasingBy (λ c. c.first) (calls_of lines)
calls_rise lines rise i j d le inside =
    let e : Line = record { number = 0; call = d; item = None } in
    let a : get_or (calls_of lines) i d ≡ (get_or lines i e).call = get_or-map (λ (x : Line). x.call) lines i e in
    let b : get_or (calls_of lines) j d ≡ (get_or lines j e).call = get_or-map (λ (x : Line). x.call) lines j e in
    let small : length (calls_of lines) ≡ length lines = length-map lines (λ (x : Line). x.call) in
    rw (a, b) (rise i j e le (omega (arith, small)))

pub refused : (lines sorted : List Line) (calls : List Call) (found : RecordFault) → AreByFirst lines sorted
    → AreStamped (calls_of sorted) calls → IsFault calls found
    → IsImportFault lines (import_fault sorted found)
refused lines sorted calls (records.NumberOutOfRange n) b s f =
    record {
      sorted = sorted;
      by_first = b;
      calls = calls;
      stamped = s;
      found = records.NumberOutOfRange n;
      first = f;
      is = refl;
    }
refused lines sorted calls (records.WrongAnswer n) b s f =
    record {
      sorted = sorted;
      by_first = b;
      calls = calls;
      stamped = s;
      found = records.WrongAnswer n;
      first = f;
      is = refl;
    }
refused lines sorted calls (records.EndsEarly n) b s f =
    record {
      sorted = sorted;
      by_first = b;
      calls = calls;
      stamped = s;
      found = records.EndsEarly n;
      first = f;
      is = refl;
    }
refused lines sorted calls (records.Overlap n) b s f =
    record {
      sorted = sorted;
      by_first = b;
      calls = calls;
      stamped = s;
      found = records.Overlap n;
      first = f;
      is = refl;
    }
refused lines sorted calls (records.OutOfOrder n) b s f =
    absurd (f.4 (λ j e. (let x = s.begin j n (omega arith) (subst (λ m. n < m) s.sized f.0.0) in x)))
refused lines sorted calls records.NotAList b s f = absurd f
refused lines sorted calls records.TooMany b s f = absurd f
refused lines sorted calls (records.NotACall n) b s f = absurd f
refused lines sorted calls records.Memory b s f = absurd f

-- a log has a call for each of its record
pub same_count : (lines : List Line) (h : List Call) (calls : List LoggedCall) → IsLogOf lines h calls
    → length calls ≡ length h
same_count lines h calls r =
    let mapped = length-map r.sorted (λ (x : Line). x.call) in
    let logged = length-map r.sorted logged_call in
    let stamped : length h ≡ length r.sorted = r.stamped.sized ∙ mapped in
    rw (r.logged, stamped) logged

-- the record of a log has a call for each line
pub call_for_each : (lines : List Line) (h : List Call) (calls : List LoggedCall) → IsLogOf lines h calls
    → length h ≡ length lines
call_for_each lines h calls r =
    let moved = length_permutation lines r.sorted r.by_first.moved in
    let mapped = length-map r.sorted (λ (x : Line). x.call) in
    r.stamped.sized ∙ (mapped ∙ moved)
