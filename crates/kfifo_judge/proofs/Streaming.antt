-- What a stream comes to where the input was read, and gets no answer.
use Rattle.std.proofs.Common.{◌≡◌, ◌≤◌, ◌⊎◌, ℕ, IfSome, List, None, Option, Some, Err, inl, inr, length, subst, sym}
use Rattle.kfifo_judge.specs.declared.outcome.Outcome.{Outcome}
use Rattle.kfifo_judge.specs.declared.record.StreamFault.{StreamFault}
use Rattle.kfifo_judge.specs.declared.record.StreamFault.TheVariants as faults
use Rattle.kfifo_judge.specs.StreamAnswers.{HasRead, IsSilent, IsStreamAnswer, Streams}
use Rattle.kfifo_judge.specs.Streams.{AppendsPart, CountsOne}

-- neither side of a fault that no text and no history has
pub never : {A : Type 0} {B : A → Type 0} → ⊥ ⊎ ((a : A) × B a × ⊥) → ⊥
never (inl bad) = bad
never (inr bad) = bad.2

whole : (given : Option (List ℕ)) (bytes : List ℕ) → IfSome given (λ xs. xs ≡ bytes) → length bytes ≤ 16777216
    → IfSome given (λ xs. (xs ≡ bytes) × (length xs ≤ 16777216))
whole None bytes same small = tt
whole (Some xs) bytes same small = (same, rw same small)

module _ (s : Streams) where
  pub has_read : (items bytes : List ℕ) → bytes ≡ items → s.reads_after ≡ s.reads → IfSome s.given (λ xs. xs ≡ items)
      → length items ≤ 16777216 → HasRead s bytes
  has_read items bytes same reads given small =
      (reads, whole s.given bytes (subst (λ b. IfSome s.given (λ xs. xs ≡ b)) (sym same) given) (rw same small))

  module _ (Answers : List ℕ → List ℕ → Outcome → Type 0) (IsFault : List ℕ → StreamFault → Type 0) where
    pub refused : (bytes : List ℕ) → HasRead s bytes → (IsFault bytes faults.Input → ⊥)
        → (IsFault bytes faults.Output → ⊥)
        → IsSilent s → (fault : StreamFault) → IsFault bytes fault → IsStreamAnswer Answers IsFault s (Err fault)
    refused bytes read no_input no_output silent faults.Input faulty = absurd (no_input faulty)
    refused bytes read no_input no_output silent faults.Output faulty = absurd (no_output faulty)
    refused bytes read no_input no_output silent faults.Memory faulty = (read.0, silent)
    refused bytes read no_input no_output silent faults.NotJson faulty = (bytes, read, faulty, silent)
    refused bytes read no_input no_output silent (faults.Record f) faulty = (bytes, read, faulty, silent)
    refused bytes read no_input no_output silent (faults.Search f) faulty = (bytes, read, faulty, silent)
    refused bytes read no_input no_output silent faults.RepeatedItem faulty = (bytes, read, faulty, silent)

    pub broken : (bytes text : List ℕ) (said : Outcome) → HasRead s bytes → Answers bytes text said
        → (fault : StreamFault)
        → (fault ≡ faults.Output) × AppendsPart s.held s.held_after text × CountsOne s.writes s.writes_after
        → IsStreamAnswer Answers IsFault s (Err fault)
    broken bytes text said read answers fault broke = rw broke.0 (bytes, text, said, read, answers, broke.1, broke.2)
