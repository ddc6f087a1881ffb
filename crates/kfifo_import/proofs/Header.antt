-- Where a field stands in a header, one place more at a time.
use Rattle.std.proofs.lemmas.Bool.{cases_lt}
use Rattle.std.proofs.Common.{◌≡◌, ℕ, ◌+◌, ◌<◌, List, Option, Some, None, MatchOption, inl, inr, subst, arith}
use Rattle.csv.specs.Records.{field_at}
use Rattle.kfifo_import.specs.Fields.{IsOnlyAt}

module _ (fields : List (List ℕ)) (name : List ℕ) where
  -- the place of the name among those below n, of which none has it, or one
  abbrev pub IsFound : ℕ → Option ℕ → Type 0
  IsFound n None = (k : ℕ) → k < n → field_at fields k ≡ Some name → ⊥
  IsFound n (Some place) = (field_at fields place ≡ Some name) × (place < n)
      × ((k : ℕ) → k < n → field_at fields k ≡ Some name → k ≡ place)

  pub found_none : IsFound 0 None
  found_none = λ k below. absurd (omega (arith, below))

  -- the place n does not have the name
  pub found_same : (n : ℕ) (found : Option ℕ) → IsFound n found → ¬ (field_at fields n ≡ Some name)
      → IsFound (n + 1) found
  found_same n None h away = λ k below is. elim (cases_lt k n) [
    | inl before ↦ h k before is
    | inr from ↦ (let e : k ≡ n = omega (arith, below, from) in away (subst (λ x. field_at fields x ≡ Some name) e is))
  ]
  found_same n (Some place) h away = (
    h.0,
    omega (arith, h.1),
    λ k below is. elim (cases_lt k n) [
      | inl before ↦ h.2 k before is
      | inr from ↦
          (let e : k ≡ n =
          omega (arith, below, from) in absurd (away (subst (λ x. field_at fields x ≡ Some name) e is)))
    ],
  )

  -- it is the first that has it
  pub found_here : (n : ℕ) → IsFound n None → field_at fields n ≡ Some name → IsFound (n + 1) (Some n)
  found_here n h is = (
    is,
    omega arith,
    λ k below e. elim (cases_lt k n) [
      | inl before ↦ absurd (h k before e)
      | inr from ↦ omega (arith, below, from)
    ],
  )

  -- it is the second: no place is the only one
  pub found_twice : (n first place : ℕ) → IsFound n (Some first) → field_at fields n ≡ Some name
      → ¬ (IsOnlyAt fields name place)
  found_twice n first place h is only =
      let one = only.alone first h.0 in
      let two = only.alone n is in
      omega (arith, h.1, one, two)

  -- all places that have it are below n
  pub found_all : (n : ℕ) (found : Option ℕ) → ((k : ℕ) → field_at fields k ≡ Some name → k < n) → IsFound n found
      → MatchOption found ((place : ℕ) → ¬ (IsOnlyAt fields name place)) (IsOnlyAt fields name)
  found_all n None within h = λ place only. h place (within place only.here) only.here
  found_all n (Some place) within h = record { here = h.0; alone = λ other is. h.2 other (within other is) is }
