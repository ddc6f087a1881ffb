-- How a run ends with a fault.
use Rattle.std.proofs.Common.{◌≡◌, ◌≢◌, ◌≤◌, ◌⊎◌, inl, inr, ℕ, List, refl, arith}
use Rattle.kfifo_cli_commands.proofs.Types.{Fault}
use Rattle.kfifo_cli_texts.specs.declared.fault.Fault.TheVariants.{Shape, Word, Order, Picks, Replay, Trace, Open}
use Rattle.kfifo_cli_texts.specs.declared.fault.Fault.TheVariants.{Dispatch, Input, NoInput, NotJson, Record, Search}
use Rattle.kfifo_cli_texts.specs.declared.fault.Fault.TheVariants.{RepeatedItem, Import, TooManyDrawn, Contradiction}
use Rattle.kfifo_cli_texts.specs.declared.fault.Fault.TheVariants.{Stretch, NoLines, NoEvidence, Unexplained, Memory}
use Rattle.kfifo_cli_texts.specs.declared.fault.Fault.TheVariants.{Output}
use Rattle.kfifo_cli_texts.specs.Faults.{fault_line}
use Rattle.kfifo_cli_texts.specs.Printing.{Nothing, Part, Tells, Whole, Written}
use Rattle.kfifo_cli_commands.specs.declared.status.Status.{Status}
use Rattle.kfifo_cli_commands.specs.declared.status.Status.TheVariants.{Answered, Failed, Misused, Unordered, Undecided}
use Rattle.kfifo_cli_commands.specs.Statuses.{status_number}
use Rattle.kfifo_cli_commands.specs.Endings.{Ends}

-- a fault is the failure of writing, or not
is_output : (fault : Fault) → (fault ≡ Output) ⊎ (fault ≢ Output)
is_output (Shape fault) = inr (λ e. cc)
is_output (Word number) = inr (λ e. cc)
is_output Order = inr (λ e. cc)
is_output Picks = inr (λ e. cc)
is_output (Replay fault) = inr (λ e. cc)
is_output Trace = inr (λ e. cc)
is_output (Open fault) = inr (λ e. cc)
is_output (Dispatch fault) = inr (λ e. cc)
is_output Input = inr (λ e. cc)
is_output NoInput = inr (λ e. cc)
is_output NotJson = inr (λ e. cc)
is_output (Record fault) = inr (λ e. cc)
is_output (Search fault) = inr (λ e. cc)
is_output RepeatedItem = inr (λ e. cc)
is_output (Import fault) = inr (λ e. cc)
is_output TooManyDrawn = inr (λ e. cc)
is_output Contradiction = inr (λ e. cc)
is_output Stretch = inr (λ e. cc)
is_output NoLines = inr (λ e. cc)
is_output NoEvidence = inr (λ e. cc)
is_output Unexplained = inr (λ e. cc)
is_output Memory = inr (λ e. cc)
is_output Output = inl refl

-- a failure of writing is none of reading
pub output_no_input : (fault : Fault) → fault ≡ Output → fault ≢ Input
output_no_input fault is e = cc

no_answer : (status : ℕ) → status ≡ 1 → (status ≡ 0) ⊎ (status ≡ 3) ⊎ (status ≡ 4) → ⊥
no_answer status one e = grind (arith, one, e)

no_misuse : (status : ℕ) → status ≡ 1 → status ≡ 2 → ⊥
no_misuse status one two = omega (arith, one, two)

module _ (answers : List ℕ → ℕ → Type 0) (causes : Fault → Type 0) (output faults : Written → Type 0) where
  -- A run that ends with a fault ends with status 1: the text of an answer broke off, or nothing of one was written and
  -- the fault is told.
  pub ends_with : (fault : Fault) → (fault ≡ Output → faults Nothing)
      → (fault ≡ Output → (text : List ℕ) × (planned : ℕ) × answers text planned × output (Part text))
      → (fault ≢ Output → output Nothing) → (fault ≢ Output → causes fault)
      → (fault ≢ Output → Tells faults (fault_line fault))
      → Ends answers causes ⊥ output faults 1
  ends_with fault silent broke untouched cause told = record {
    known = omega arith;
    printed = λ e. absurd (no_answer 1 refl e);
    failed = λ e. elim (is_output fault) [
      | inl is ↦ inl (silent is, broke is)
      | inr not ↦ inr (inl (untouched not, (fault, cause not, told not)))
    ];
    misused = λ e. absurd (no_misuse 1 refl e);
  }

  -- a run whose whole text was written, with a status of an answer
  answered_by : (status : ℕ) (text : List ℕ) → status ≤ 4 → (status ≡ 1 → ⊥) → (status ≡ 2 → ⊥) → faults Nothing
      → answers text status → output (Whole text) → Ends answers causes ⊥ output faults status
  answered_by status text known no_failure no_misuse silent answered whole = record {
    known = known;
    printed = λ e. (silent, (text, answered, whole));
    failed = λ e. absurd (no_failure e);
    misused = λ e. absurd (no_misuse e);
  }

  -- A run whose whole text was written ends with the status of that text, which may be that of a failure.
  pub ends_well : (status : Status) (text : List ℕ) → status ≢ Misused → faults Nothing
      → answers text (status_number status)
      → output (Whole text) → Ends answers causes ⊥ output faults (status_number status)
  ends_well Answered text known silent answered whole =
      answered_by 0 text (omega arith) (λ e. omega (arith, e)) (λ e. omega (arith, e)) silent answered whole
  ends_well Unordered text known silent answered whole =
      answered_by 3 text (omega arith) (λ e. omega (arith, e)) (λ e. omega (arith, e)) silent answered whole
  ends_well Undecided text known silent answered whole =
      answered_by 4 text (omega arith) (λ e. omega (arith, e)) (λ e. omega (arith, e)) silent answered whole
  ends_well Misused text known silent answered whole = absurd (known refl)
  ends_well Failed text known silent answered whole = record {
    known = omega arith;
    printed = λ e. absurd (no_answer 1 refl e);
    failed = λ e. inr (inr (silent, (text, answered, whole)));
    misused = λ e. absurd (no_misuse 1 refl e);
  }
