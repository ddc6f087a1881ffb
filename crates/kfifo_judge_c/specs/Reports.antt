-- What an export answers: a report, handed to C by its status and what it writes.
use Rattle.std.specs.Prelude.{ℕ, ◌≡◌, ◌≤◌, ◌⊎◌, ◌++◌, List, [], Option, Some, None, false, drop, length}
use Rattle.std.specs.Prelude.{string_bytes, take, unwrap_or}
use Rattle.kfifo_model.specs.declared.calls.Call.{Call}
use Rattle.kfifo_import.specs.declared.log.ImportFault.{ImportFault}
use Rattle.kfifo_import.specs.declared.log.ImportFault.TheVariants.{Csv, TooMany, NotACall, NumberOutOfRange}
use Rattle.kfifo_import.specs.declared.log.ImportFault.TheVariants.{WrongAnswer, EndsEarly, Overlap, Memory}
use Rattle.kfifo_model.specs.declared.logged.LoggedCall.{LoggedCall}
use Rattle.kfifo_verdict.specs.declared.verdicts.Bounds.{Bounds}
use Rattle.kfifo_verdict.specs.declared.verdicts.Judgement.{Judgement}
use Rattle.kfifo_verdict.specs.declared.verdicts.Judgement.TheVariants.{Legal, NoOrder, Undecided}
use Rattle.kfifo_verdict.specs.Judging.{tries_made}
use Rattle.kfifo_judge.specs.declared.judgement.Judged.{Judged}
use Rattle.kfifo_judge.specs.Bounds.{HasBounds, HasNoLeast}
use Rattle.kfifo_judge.specs.Headlines.{headline_text, kind_number}
use Rattle.kfifo_judge.specs.Judgements.{IsJudged}
use Rattle.kfifo_judge.specs.Reasons.{named_by}
use Rattle.kfifo_judge_c.specs.declared.calls.LogCall.{LogCall}
use Rattle.kfifo_judge_c.specs.declared.named.NamedCall.{NamedCall}
use Rattle.kfifo_judge_c.specs.declared.report.Found.{Found}
use Rattle.kfifo_judge_c.specs.declared.report.Report.{Report}
use Rattle.kfifo_judge_c.specs.declared.status.TheConstants.{LEGAL, NO_ORDER, UNDECIDED, FAULT, BAD_CALL, NO_MEMORY}
use Rattle.kfifo_judge_c.specs.Lines.{IsCallsFault, IsLogOfCalls}
use Rattle.kfifo_judge_c.specs.Named.{calls_named}

-- the report has no bounds of the least k
abbrev pub HasNoBounds : Report → Type 0
HasNoBounds r = (r.at_least ≡ 0) × (r.at_most ≡ 0)

-- the report has no reason and counts nothing: it is none of a verdict
abbrev pub HasNoReason : Report → Type 0
HasNoReason r = (r.kind ≡ 0) × (string_bytes r.headline ≡ []) × (r.named.items ≡ []) × (r.calls ≡ 0) × (r.left ≡ 0)
    × (r.tries ≡ 0)

-- As much of a list as there is room for is written over what was there.
abbrev pub Writes : {A : Type 0} → List A → List A → List A → Type 0
Writes out old new = new ≡ take (length old) out ++ drop (length out) old

-- the numbers that C gets
abbrev pub found_of : Report → Found
found_of r = record {
  place = r.place;
  length = length (string_bytes r.text);
  headline = length (string_bytes r.headline);
  named = length r.named.items;
  calls = r.calls;
  left = r.left;
  at_least = r.at_least;
  tries = r.tries;
  at_most = r.at_most;
  fault = r.fault;
  kind = r.kind;
}

-- A report is handed over: its status, as much of its text, of its headline and of the calls that it names as there is
-- room for, and all of its numbers.
pub record IsHanded (r : Report) (status : ℕ) (old_text new_text old_headline new_headline : List ℕ)
    (old_named new_named : List NamedCall) (found : Found) : Type 0 where
  pub status_is : status ≡ r.status
  pub text : Writes (string_bytes r.text) old_text new_text
  pub headline : Writes (string_bytes r.headline) old_headline new_headline
  pub named : Writes r.named.items old_named new_named
  pub found_is : found ≡ found_of r

abbrev pub judgement_status : Judgement → ℕ
judgement_status (Legal order) = LEGAL
judgement_status (NoOrder found) = NO_ORDER
judgement_status (Undecided stuck) = UNDECIDED

-- the calls that a verdict names
abbrev pub named_in : List Call → Judgement → List ℕ
named_in h (Legal order) = []
named_in h (NoOrder found) = named_by h found
named_in h (Undecided stuck) = []

-- the number of the kind of its evidence, 0 where it has none
abbrev pub judgement_kind : Judgement → ℕ
judgement_kind (Legal order) = 0
judgement_kind (NoOrder found) = kind_number found
judgement_kind (Undecided stuck) = 0

-- what its evidence says of the queue
abbrev pub judgement_headline : List LoggedCall → List Call → Judgement → List ℕ
judgement_headline logged h (Legal order) = []
judgement_headline logged h (NoOrder found) = headline_text logged h found
judgement_headline logged h (Undecided stuck) = []

-- after how many tries the search for an order gave up, 0 where there is a verdict
abbrev pub judgement_tries : Judgement → ℕ
judgement_tries (Legal order) = 0
judgement_tries (NoOrder found) = 0
judgement_tries (Undecided stuck) = tries_made stuck

-- the bounds of the least k as two numbers, 0 where there are none
abbrev pub bound_numbers : Option Bounds → ℕ × ℕ
bound_numbers (Some bounds) = (bounds.at_least, unwrap_or bounds.at_most 0)
bound_numbers None = (0, 0)

-- the number of a fault of a log, 0 of one that is no table
abbrev pub fault_number : ImportFault → ℕ
fault_number (Csv n) = 0
fault_number TooMany = 2
fault_number (NotACall n) = 3
fault_number (NumberOutOfRange n) = 4
fault_number (WrongAnswer n) = 5
fault_number (EndsEarly n) = 6
fault_number (Overlap n) = 8
fault_number Memory = 0

-- the line of a fault of a log
abbrev pub fault_line : ImportFault → ℕ
fault_line (Csv n) = n
fault_line TooMany = 0
fault_line (NotACall n) = n
fault_line (NumberOutOfRange n) = n
fault_line (WrongAnswer n) = n
fault_line (EndsEarly n) = n
fault_line (Overlap n) = n
fault_line Memory = 0

-- The report is the verdict on a history, as `kfifo judge` prints it, with its reason as data.
pub record IsVerdictOn (k : ℕ) (h : List Call) (logged : List LoggedCall) (r : Report) : Type 0 where
  pub judged : Judged
  pub judged_is : IsJudged k false logged h judged
  pub told : string_bytes r.text ≡ string_bytes judged.text
  pub status_is : r.status ≡ judgement_status judged.judgement
  pub kind_is : r.kind ≡ judgement_kind judged.judgement
  pub headline_is : string_bytes r.headline ≡ judgement_headline logged h judged.judgement
  pub named_are : r.named.items ≡ calls_named logged h (named_in h judged.judgement)
  pub counts : (r.calls ≡ length h) × (r.left ≡ judged.left)
  pub tries_are : r.tries ≡ judgement_tries judged.judgement
  pub no_fault : (r.fault ≡ 0) × (r.place ≡ 0)
  pub bounds : (r.at_least, r.at_most) ≡ bound_numbers judged.bounds

-- The report is of bounds of the least k, as `kfifo least` prints them.
pub record IsLeastOn (h : List Call) (logged : List LoggedCall) (r : Report) : Type 0 where
  pub no_fault : (r.fault ≡ 0) × (r.place ≡ 0)
  pub no_reason : HasNoReason r
  pub least : ((r.status ≡ NO_ORDER) × HasNoLeast logged h (string_bytes r.text) × HasNoBounds r)
      ⊎ ((r.status ≡ LEGAL) × ((bounds : Bounds) × HasBounds h bounds (string_bytes r.text)
      × (r.at_least ≡ bounds.at_least) × (r.at_most ≡ unwrap_or bounds.at_most 0)))

-- the report is of this fault of a log, which is not that an allocation failed
pub record IsFaultReport (fault : ImportFault) (r : Report) : Type 0 where
  pub of_log : ¬ (fault ≡ Memory)
  pub status_is : r.status ≡ FAULT
  pub number : r.fault ≡ fault_number fault
  pub line : r.place ≡ fault_line fault
  pub no_reason : HasNoReason r
  pub no_bounds : HasNoBounds r

-- what is found of these calls: P of their log, or the fault that they have
abbrev pub IsFoundOf : (List Call → List LoggedCall → Report → Type 0) → List LogCall → Report → Type 0
IsFoundOf P calls r = ((h : List Call) × (logged : List LoggedCall) × IsLogOfCalls calls h logged × P h logged r)
    ⊎ ((fault : ImportFault) × IsCallsFault calls fault × IsFaultReport fault r)

-- nothing is written
abbrev pub IsUnwritten : List ℕ → List ℕ → List ℕ → List ℕ → List NamedCall → List NamedCall → Found → Found → Type 0
IsUnwritten old_text new_text old_headline new_headline old_named new_named old_found new_found =
    (new_text ≡ old_text) × (new_headline ≡ old_headline) × (new_named ≡ old_named) × (new_found ≡ old_found)

-- An export's answer: BAD_CALL where an argument is out of range, NO_MEMORY where an allocation failed, with nothing
-- written, or a report of which P holds.
abbrev pub Answers : Type 0 → (Report → Type 0) → ℕ → List ℕ → List ℕ → List ℕ → List ℕ → List NamedCall
    → List NamedCall → Found → Found → Type 0
Answers InRange P status old_text new_text old_headline new_headline old_named new_named old_found new_found =
    ((status ≡ BAD_CALL) × ¬ InRange
    × IsUnwritten old_text new_text old_headline new_headline old_named new_named old_found new_found)
    ⊎ (InRange × (status ≡ NO_MEMORY)
    × IsUnwritten old_text new_text old_headline new_headline old_named new_named old_found new_found)
    ⊎ (InRange × ((r : Report) × P r
    × IsHanded r status old_text new_text old_headline new_headline old_named new_named new_found))

abbrev pub IsK : ℕ → Type 0
IsK k = (1 ≤ k) × (k ≤ 64)
