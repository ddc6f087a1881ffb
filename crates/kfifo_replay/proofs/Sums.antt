-- Sums over the numbers below one.
use Rattle.std.proofs.Common.{◌≡◌, ◌≢◌, ℕ, zero, suc, ◌+◌, ◌*◌, ◌<◌, ◌≤◌, List, length, get_or, take, refl, sym, ◌∙◌}
use Rattle.std.proofs.Common.{ap, subst, inl, inr, arith}
use Rattle.std.specs.Prelude.{sum_by}
use Rattle.std.proofs.lemmas.Bool.{cases_lt}
use Rattle.std.proofs.lemmas.List.Sums.{sum_by_more}

abbrev pub sum_below : (ℕ → ℕ) → ℕ → ℕ
sum_below f zero = 0
sum_below f (suc n) = sum_below f n + f n

-- sums of the same terms
pub same_below : (f g : ℕ → ℕ) (n : ℕ) → ((i : ℕ) → i < n → g i ≡ f i) → sum_below g n ≡ sum_below f n
same_below f g zero same = refl
same_below f g (suc n) same =
    let rest : sum_below g n ≡ sum_below f n = same_below f g n (λ i below. same i (omega (arith, below))) in
    let last : g n ≡ f n = same n (omega arith) in
    omega arith

-- a sum of which one term falls by so much, and no other changes
pub falls_below : (d : ℕ) (f g : ℕ → ℕ) (t n : ℕ) → ((i : ℕ) → i ≢ t → g i ≡ f i) → t < n → g t + d ≤ f t
    → sum_below g n + d ≤ sum_below f n
falls_below d f g t zero others within less = absurd (omega (arith, within))
falls_below d f g t (suc n) others within less =
    elim (cases_lt t n) [
      | inl below ↦
          let rest : sum_below g n + d ≤ sum_below f n = falls_below d f g t n others below less in
          let last : g n ≡ f n = others n (λ same. absurd (omega (arith, below, same))) in
          omega arith
      | inr above ↦
          let at : t ≡ n = omega (arith, above, within) in
          let rest : sum_below g n ≡ sum_below f n =
          same_below f g n (λ i below. others i (λ same. absurd (omega (arith, below, same, at)))) in
          let last : g n + d ≤ f n = subst (λ i. g i + d ≤ f i) at less in
          omega arith
    ]

-- a term is no more than the sum
pub term_below : (f : ℕ → ℕ) (t n : ℕ) → t < n → f t ≤ sum_below f n
term_below f t zero within = absurd (omega (arith, within))
term_below f t (suc n) within =
    elim (cases_lt t n) [
      | inl below ↦ let rest : f t ≤ sum_below f n = term_below f t n below in omega arith
      | inr above ↦
          let at : t ≡ n = omega (arith, above, within) in
          let last : f t ≡ f n = ap f at in
          omega arith
    ]

-- a sum of terms of which none is above a number
pub few_below : (f : ℕ → ℕ) (most n : ℕ) → ((i : ℕ) → f i ≤ most) → sum_below f n ≤ n * most
few_below f most zero each = omega arith
few_below f most (suc n) each =
    let rest : sum_below f n ≤ n * most = few_below f most n each in
    let last : f n ≤ most = each n in
    let more : suc n * most ≡ n * most + most = omega arith in
    omega arith

-- a sum over the elements of a list is one over their places
pub sum_below-get_or : {X : Type 0} (f : X → ℕ) (xs : List X) (d : X) (n : ℕ) → n ≤ length xs
    → sum_below (λ i. f (get_or xs i d)) n ≡ sum_by f (take n xs)
sum_below-get_or f xs d zero within = refl
sum_below-get_or f xs d (suc n) within =
    let rest : sum_below (λ i. f (get_or xs i d)) n ≡ sum_by f (take n xs) =
    sum_below-get_or f xs d n (omega (arith, within)) in
    let more : sum_by f (take (n + 1) xs) ≡ sum_by f (take n xs) + f (get_or xs n d) =
    sum_by_more f xs n d (omega (arith, within)) in
    let next : n + 1 ≡ suc n = omega arith in
    ap (λ s. s + f (get_or xs n d)) rest ∙ sym more ∙ ap (λ k. sum_by f (take k xs)) next
