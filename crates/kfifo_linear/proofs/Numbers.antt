-- The number of steps that come before a step, of steps that rise.
use Rattle.std.proofs.Common.{zero, suc, true, ◌≡◌, ℕ, ◌-◌, ◌<◌, ◌≤◌, ap, inl, inr, arith, ltb}
use Rattle.std.proofs.lemmas.Bool.{cases_Bool, cases_eq, ltb-true, ltb-false, lt-ltb}
use Rattle.kfifo_linear.specs.Order.{number_at}

-- these steps rise
abbrev pub Rise : (ℕ → ℕ) → ℕ → Type 0
Rise steps n = (u v : ℕ) → u < v → v < n → steps u < steps v

fewer : (steps : ℕ → ℕ) (n : ℕ) → Rise steps (suc n) → Rise steps n
fewer steps n rise u v lt below = rise u v lt (omega arith)

last_is_most : (steps : ℕ → ℕ) (n v : ℕ) → Rise steps (suc n) → v < suc n → steps v ≤ steps n
last_is_most steps n v rise below = elim (cases_eq v n) [
  | inl e ↦ let same : steps v ≡ steps n = ap steps e in omega arith
  | inr ne ↦ let lt : steps v < steps n = rise v n (omega arith) (omega arith) in omega arith
]

pub number_most : (steps : ℕ → ℕ) (n p : ℕ) → number_at steps n p ≤ n
number_most steps zero p = omega arith
number_most steps (suc n) p =
    elim (cases_Bool (ltb (steps n) p)) [
      | inl e ↦ rw e (omega arith)
      | inr e ↦ let low = number_most steps n p in rw e (omega arith)
    ]

-- where v steps come before p and no further one does
pub number_is : (steps : ℕ → ℕ) (n v p : ℕ) → Rise steps n → v ≤ n → (0 < v → steps (v - 1) < p) → (v < n → p ≤ steps v)
    → number_at steps n p ≡ v
number_is steps zero v p rise most after before = omega arith
number_is steps (suc n) v p rise most after before =
    elim (cases_Bool (ltb (steps n) p)) [
      | inl e ↦
          let lt : steps n < p = ltb-true (steps n) p e in
          elim (cases_eq v (suc n)) [
            | inl all ↦ rw e (omega arith)
            | inr ne ↦
                let below : v < suc n = omega arith in
                let le : steps v ≤ steps n = last_is_most steps n v rise below in
                absurd (omega (arith, before below))
          ]
      | inr e ↦
          let ge : p ≤ steps n = ltb-false (steps n) p e in
          elim (cases_eq v (suc n)) [
            | inl all ↦
                let same : steps (v - 1) ≡ steps n = ap steps (omega arith) in
                absurd (omega (arith, after (omega arith)))
            | inr ne ↦ rw e (number_is steps n v p (fewer steps n rise) (omega arith) after
                (λ below. before (omega arith)))
          ]
    ]

-- a later step has no fewer before it
pub number_rises : (steps : ℕ → ℕ) (n p q : ℕ) → p ≤ q → number_at steps n p ≤ number_at steps n q
number_rises steps zero p q le = omega arith
number_rises steps (suc n) p q le =
    elim (cases_Bool (ltb (steps n) p)) [
      | inl e ↦
          let more : ltb (steps n) q ≡ true =
          lt-ltb (steps n) q (let lt : steps n < p = ltb-true (steps n) p e in omega arith) in
          rw (e, more) (omega arith)
      | inr e ↦
          let low = number_most steps n p in
          elim (cases_Bool (ltb (steps n) q)) [
            | inl m ↦ rw (e, m) (omega arith)
            | inr m ↦ rw (e, m) (number_rises steps n p q le)
          ]
    ]

-- where a step comes before p, it is counted
pub number_past : (steps : ℕ → ℕ) (n v p : ℕ) → v < n → steps v < p → v < number_at steps n p
number_past steps zero v p below lt = absurd (omega arith)
number_past steps (suc n) v p below lt =
    elim (cases_Bool (ltb (steps n) p)) [
      | inl e ↦ rw e (omega arith)
      | inr e ↦
          let ge : p ≤ steps n = ltb-false (steps n) p e in
          elim (cases_eq v n) [
            | inl same ↦ let s : steps v ≡ steps n = ap steps same in absurd (omega arith)
            | inr ne ↦ rw e (number_past steps n v p (omega arith) lt)
          ]
    ]

-- where only steps below v come before p, no more than v do
pub number_within : (steps : ℕ → ℕ) (n v p : ℕ) → ((x : ℕ) → x < n → steps x < p → x < v) → number_at steps n p ≤ v
number_within steps zero v p held = omega arith
number_within steps (suc n) v p held =
    elim (cases_Bool (ltb (steps n) p)) [
      | inl e ↦ let last : n < v = held n (omega arith) (ltb-true (steps n) p e) in rw e (omega arith)
      | inr e ↦ rw e (number_within steps n v p (λ x below lt. held x (omega arith) lt))
    ]
