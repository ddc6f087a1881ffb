-- Starts a stride apart: any k of them in a row differ.
use Rattle.std.proofs.Common.{◌≡◌, ◌≢◌, ℕ, zero, suc, ◌+◌, ◌-◌, ◌*◌, ◌/◌, ◌%◌, ◌<◌, ◌≤◌, sym, ap, ◌∙◌, inl, inr, arith}
use Rattle.std.proofs.Math.Nat.{add-mod-mod, add-mul-mod_self_left, mod-add-mod, mod-eq_of_lt}
use Rattle.std.proofs.lemmas.Bool.{cases_eq, cases_lt}
use Rattle.std.proofs.lemmas.Bool.Decides.{nat_tests}
use Rattle.std.proofs.lemmas.Nat.{div-add-mod'}
use Rattle.std.specs.Prelude.{Option, Some, None, unwrap_or}
use Rattle.std.specs.Option.{SomeIff}
use Rattle.kfifo_live.specs.Handles.{StartsDiffer, nth_start, slots_apart, start_after, stride}

-- the start of the call after n others, with a stride that is given modulo k
nth_is : (k d start n : ℕ) → start < k → nth_start (record {
  k = k;
  stride = d % k;
  start = start;
}) n ≡ (start + n * d) % k
nth_is k d start zero within = let z : start ≡ start + 0 * d = omega arith in sym (mod-eq_of_lt within)
    ∙ ap (λ x. x % k) z
nth_is k d start (suc n) within =
    let less : (start + d % k) % k < k = omega arith in
    let next : (start + d % k) % k ≡ (start + d) % k = add-mod-mod start d k in
    let sums : start + d + n * d ≡ start + suc n * d = omega arith in
    nth_is k d ((start + d % k) % k) n less ∙ ap (λ x. (x + n * d) % k) next ∙ mod-add-mod (start + d) k (n * d)
    ∙ ap (λ x. x % k) sums

-- less than k times 1 is no multiple of k; nor is less than k times 3, 5 or 7, where that does not divide k
no_multiple_1 : (k m q : ℕ) → 0 < m → m < k → m * 1 ≡ q * k → ⊥
no_multiple_1 k m zero some less is = omega arith
no_multiple_1 k m (suc q) some less is = omega arith

no_multiple_3 : (k m q : ℕ) → k % 3 ≢ 0 → 0 < m → m < k → m * 3 ≡ q * k → ⊥
no_multiple_3 k m zero none some less is = omega arith
no_multiple_3 k m (suc zero) none some less is = none (omega arith)
no_multiple_3 k m (suc (suc zero)) none some less is = none (omega arith)
no_multiple_3 k m (suc (suc (suc q))) none some less is = omega arith

no_multiple_5 : (k m q : ℕ) → k % 5 ≢ 0 → 0 < m → m < k → m * 5 ≡ q * k → ⊥
no_multiple_5 k m zero none some less is = omega arith
no_multiple_5 k m (suc zero) none some less is = none (omega arith)
no_multiple_5 k m (suc (suc zero)) none some less is = none (omega arith)
no_multiple_5 k m (suc (suc (suc zero))) none some less is = none (omega arith)
no_multiple_5 k m (suc (suc (suc (suc zero)))) none some less is = none (omega arith)
no_multiple_5 k m (suc (suc (suc (suc (suc q))))) none some less is = omega arith

no_multiple_7 : (k m q : ℕ) → k % 7 ≢ 0 → 0 < m → m < k → m * 7 ≡ q * k → ⊥
no_multiple_7 k m zero none some less is = omega arith
no_multiple_7 k m (suc zero) none some less is = none (omega arith)
no_multiple_7 k m (suc (suc zero)) none some less is = none (omega arith)
no_multiple_7 k m (suc (suc (suc zero))) none some less is = none (omega arith)
no_multiple_7 k m (suc (suc (suc (suc zero)))) none some less is = none (omega arith)
no_multiple_7 k m (suc (suc (suc (suc (suc zero))))) none some less is = none (omega arith)
no_multiple_7 k m (suc (suc (suc (suc (suc (suc zero)))))) none some less is = none (omega arith)
no_multiple_7 k m (suc (suc (suc (suc (suc (suc (suc q))))))) none some less is = omega arith

-- where d slots further, less than k times, never comes round to the same slot, starts d apart differ
apart : (k d start i j : ℕ) → 0 < k → ((m q : ℕ) → 0 < m → m < k → m * d ≡ q * k → ⊥) → i < j → j < k
    → (start + i * d) % k ≢ (start + j * d) % k
apart k d start i j some never less within same =
    let x = (start + i * d) / k in
    let y = (start + j * d) / k in
    let first : x * k + (start + i * d) % k ≡ start + i * d = div-add-mod' (start + i * d) k in
    let second : y * k + (start + j * d) % k ≡ start + j * d = div-add-mod' (start + j * d) k in
    let m = j - i in
    let sum : i * d + m * d ≡ j * d = between i j d less in
    elim (cases_lt y x) [
      | inl lt ↦
          let more : y * k + k ≤ x * k = larger x y k lt in
          omega arith
      | inr le ↦
          let q = y - x in
          let times : x * k + q * k ≡ y * k = grows x y k le in
          never m q (omega arith) (omega arith) (omega arith)
    ]
  where
    more : (x z k : ℕ) → x * k + z * k ≡ (x + z) * k
    more x z k = omega arith

    between : (i j d : ℕ) → i < j → i * d + (j - i) * d ≡ j * d
    between i j d less = let whole : i + (j - i) ≡ j = omega arith in more i (j - i) d ∙ ap (λ x. x * d) whole

    larger : (x y k : ℕ) → y < x → y * k + k ≤ x * k
    larger x y k lt =
        let whole : suc y + (x - suc y) ≡ x = omega arith in
        let sum : suc y * k + (x - suc y) * k ≡ x * k = more (suc y) (x - suc y) k ∙ ap (λ z. z * k) whole in
        omega arith

    grows : (x y k : ℕ) → x ≤ y → x * k + (y - x) * k ≡ y * k
    grows x y k le = let whole : x + (y - x) ≡ y = omega arith in more x (y - x) k ∙ ap (λ z. z * k) whole

-- starts d apart, for the stride d of the queue
differ_by : (d threads k : ℕ) → stride threads k ≡ d % k → ((m q : ℕ) → 0 < m → m < k → m * d ≡ q * k → ⊥)
    → StartsDiffer threads k
differ_by d threads k is never start i j within less last same =
    let at : (n : ℕ) → nth_start (record { k = k; stride = stride threads k; start = start }) n ≡ (start + n * d) % k =
    λ n. ap (λ x. nth_start (record { k = k; stride = x; start = start }) n) is ∙ nth_is k d start n within in
    apart k d start i j (omega arith) never less last (sym (at i) ∙ same ∙ at j)

pub starts_differ : (threads k : ℕ) → 1 ≤ k → k ≤ 64 → StartsDiffer threads k
starts_differ threads k some few = elim (cases_lt threads 3) [
  | inl two ↦ differ_by 1 threads k (ap (λ x. x % k) (is_1 threads k two)) (no_multiple_1 k)
  | inr many ↦ elim (cases_eq (k % 3) 0) [
    | inr not3 ↦ differ_by 3 threads k (ap (λ x. x % k) (is_3 threads k many not3)) (λ m q. no_multiple_3 k m q not3)
    | inl by3 ↦ elim (cases_eq (k % 5) 0) [
      | inr not5 ↦ differ_by 5 threads k (ap (λ x. x % k) (is_5 threads k many by3 not5))
          (λ m q. no_multiple_5 k m q not5)
      | inl by5 ↦ differ_by 7 threads k (ap (λ x. x % k) (is_7 threads k many by3 by5))
          (λ m q. no_multiple_7 k m q (λ by7. omega arith))
    ]
  ]
]
  where
    is_1 : (threads k : ℕ) → threads < 3 → slots_apart threads k ≡ 1
    is_1 threads k two = grind (arith, nat_tests)

    is_3 : (threads k : ℕ) → 3 ≤ threads → k % 3 ≢ 0 → slots_apart threads k ≡ 3
    is_3 threads k many not3 = grind (arith, nat_tests)

    is_5 : (threads k : ℕ) → 3 ≤ threads → k % 3 ≡ 0 → k % 5 ≢ 0 → slots_apart threads k ≡ 5
    is_5 threads k many by3 not5 = grind (arith, nat_tests)

    is_7 : (threads k : ℕ) → 3 ≤ threads → k % 3 ≡ 0 → k % 5 ≡ 0 → slots_apart threads k ≡ 7
    is_7 threads k many by3 by5 = grind (arith, nat_tests)

-- one stride further, by a comparison
steps_below : (k d start : ℕ) → start < k → d < k → start + d < k → start + d ≡ start_after k d start
steps_below k d start within less below = sym (mod-eq_of_lt below)

steps_round : (k d start : ℕ) → start < k → d < k → k ≤ start + d → start + d - k ≡ start_after k d start
steps_round k d start within less past =
    let whole : start + d ≡ (start + d - k) + k * 1 = omega arith in
    let rest : start + d - k < k = omega arith in
    sym (ap (λ x. x % k) whole ∙ add-mul-mod_self_left (start + d - k) k 1 ∙ mod-eq_of_lt rest)

-- the sum less k, where it is not below
pub steps_on : (k d start : ℕ) (less : Option ℕ) → start < k → d < k → SomeIff less (k ≤ start + d) (start + d - k)
    → unwrap_or less (start + d) ≡ start_after k d start
steps_on k d start None within short below = steps_below k d start within short (omega (arith, below))
steps_on k d start (Some x) within short less = less.1 ∙ steps_round k d start within short less.0
