-- How many words hold an item.
use Rattle.std.proofs.Common.{◌≡◌, ◌≢◌, ℕ, zero, suc, ◌+◌, ◌*◌, ◌-◌, ◌%◌, ◌<◌, ◌≤◌, refl, sym, ap, ◌∙◌, inl, inr, arith}
use Rattle.std.proofs.Common.{cond}
use Rattle.std.specs.Prelude.{◌==◌}
use Rattle.std.proofs.Math.Nat.{mod-eq_of_lt, mod-eq-sub-mod}
use Rattle.std.proofs.lemmas.Bool.{cases_lt, cases_eq}
use Rattle.std.proofs.lemmas.Bool.Decides.{nat_tests}
use Rattle.kfifo_words.specs.Words.{value_of}

-- 1 where a word holds an item
abbrev pub holds : ℕ → ℕ
holds word = cond (value_of word == 0) 0 1

pub holds-filled : (word : ℕ) → value_of word ≢ 0 → holds word ≡ 1
holds-filled word filled = grind (arith, nat_tests)

pub holds-empty : (word : ℕ) → value_of word ≡ 0 → holds word ≡ 0
holds-empty word empty = grind (arith, nat_tests)

-- how many of so many words from this index on hold an item
abbrev pub filled_from : (ℕ → ℕ) → ℕ → ℕ → ℕ
filled_from w i zero = 0
filled_from w i (suc m) = holds (w i) + filled_from w (i + 1) m

pub filled-same : (w v : ℕ → ℕ) (i m : ℕ) → ((j : ℕ) → i ≤ j → j < i + m → v j ≡ w j)
    → filled_from v i m ≡ filled_from w i m
filled-same w v i zero same = refl
filled-same w v i (suc m) same =
    ap (λ (x : ℕ). holds x + filled_from v (i + 1) m) (same i (omega arith) (omega arith))
    ∙ ap (λ (x : ℕ). holds (w i) + x) (filled-same w v (i + 1) m (λ j low high. same j (omega arith) (omega arith)))

pub filled-append : (w : ℕ → ℕ) (i a b : ℕ) → filled_from w i (a + b) ≡ filled_from w i a + filled_from w (i + a) b
filled-append w i zero b =
    let z : 0 + b ≡ b = omega arith in
    let y : i ≡ i + 0 = omega arith in
    ap (filled_from w i) z ∙ ap (λ x. filled_from w x b) y ∙ sum (filled_from w (i + 0) b)
  where
    sum : (x : ℕ) → x ≡ 0 + x
    sum x = omega arith
filled-append w i (suc a) b =
    let z : suc a + b ≡ suc (a + b) = omega arith in
    let y : (i + 1) + a ≡ i + suc a = omega arith in
    ap (filled_from w i) z ∙ ap (λ x. holds (w i) + x) (filled-append w (i + 1) a b)
    ∙ ap (λ x. holds (w i) + (filled_from w (i + 1) a + filled_from w x b)) y
    ∙ sum (holds (w i)) (filled_from w (i + 1) a) (filled_from w (i + suc a) b)
  where
    sum : (x y z : ℕ) → x + (y + z) ≡ x + y + z
    sum x y z = omega arith

pub filled-all : (w : ℕ → ℕ) (i m : ℕ) → ((j : ℕ) → i ≤ j → j < i + m → value_of (w j) ≢ 0) → filled_from w i m ≡ m
filled-all w i zero all = refl
filled-all w i (suc m) all =
    let here : holds (w i) ≡ 1 = holds-filled (w i) (all i (omega arith) (omega arith)) in
    let others : filled_from w (i + 1) m ≡ m =
    filled-all w (i + 1) m (λ j low high. all j (omega arith) (omega arith)) in
    omega arith

-- one word changes
pub filled-change : (w v : ℕ → ℕ) (p i m : ℕ) → i ≤ p → p < i + m → ((j : ℕ) → j ≢ p → v j ≡ w j)
    → filled_from v i m + holds (w p) ≡ filled_from w i m + holds (v p)
filled-change w v p i zero low high same = absurd (omega arith)
filled-change w v p i (suc m) low high same =
    elim (cases_eq i p) [
      | inl here ↦
          let others : filled_from v (i + 1) m ≡ filled_from w (i + 1) m =
          filled-same w v (i + 1) m (λ j l h. same j (λ e. absurd (omega arith))) in
          let a : holds (v i) ≡ holds (v p) = ap (λ x. holds (v x)) here in
          let b : holds (w i) ≡ holds (w p) = ap (λ x. holds (w x)) here in
          omega arith
      | inr apart ↦
          let others : filled_from v (i + 1) m + holds (w p) ≡ filled_from w (i + 1) m + holds (v p) =
          filled-change w v p (i + 1) m (omega arith) (omega arith) same in
          let a : holds (v i) ≡ holds (w i) = ap holds (same i apart) in
          omega arith
    ]

-- so many slots of a segment, cyclically from the start on
pub filled-cyclic : (w : ℕ → ℕ) (base k start p : ℕ) → start < k → p ≤ k
    → ((j : ℕ) → j < p → value_of (w (base + (start + j) % k)) ≢ 0)
    → p ≤ filled_from w base k
filled-cyclic w base k start p start_in few all =
    elim (cases_lt k (start + p)) [
      | inr fits ↦
          let parts : filled_from w base (start + (p + (k - start - p)))
          ≡ filled_from w base start + filled_from w (base + start) (p + (k - start - p)) =
          filled-append w base start (p + (k - start - p)) in
          let more : filled_from w (base + start) (p + (k - start - p))
          ≡ filled_from w (base + start) p + filled_from w (base + start + p) (k - start - p) =
          filled-append w (base + start) p (k - start - p) in
          let seen : filled_from w (base + start) p ≡ p =
          filled-all w (base + start) p (λ j low high. at j (j - base - start) (omega arith) (omega arith)
          (omega arith)) in
          let whole : start + (p + (k - start - p)) ≡ k = omega arith in
          let same : filled_from w base (start + (p + (k - start - p))) ≡ filled_from w base k =
          ap (filled_from w base) whole in
          omega arith
      | inl wraps ↦
          let b : (start + p - k) + ((k - p) + (k - start)) ≡ k = omega arith in
          let parts : filled_from w base ((start + p - k) + ((k - p) + (k - start)))
          ≡ filled_from w base (start + p - k) + filled_from w (base + (start + p - k)) ((k - p) + (k - start)) =
          filled-append w base (start + p - k) ((k - p) + (k - start)) in
          let more : filled_from w (base + (start + p - k)) ((k - p) + (k - start))
          ≡ filled_from w (base + (start + p - k)) (k - p) + filled_from w (base + (start + p - k) + (k - p))
          (k - start) =
          filled-append w (base + (start + p - k)) (k - p) (k - start) in
          let first : filled_from w base (start + p - k) ≡ start + p - k =
          filled-all w base (start + p - k) (λ j low high.
          round j (j - base + k - start) (omega arith) (omega arith) (omega arith) (omega arith)) in
          let last : filled_from w (base + (start + p - k) + (k - p)) (k - start) ≡ k - start =
          filled-all w (base + (start + p - k) + (k - p)) (k - start)
          (λ j low high. at j (j - base - start) (omega arith) (omega arith) (omega arith)) in
          let same : filled_from w base ((start + p - k) + ((k - p) + (k - start))) ≡ filled_from w base k =
          ap (filled_from w base) b in
          omega arith
    ]
  where
    at : (j o : ℕ) → o < p → start + o < k → j ≡ base + (start + o) → value_of (w j) ≢ 0
    at j o less within is none =
        let m : (start + o) % k ≡ start + o = mod-eq_of_lt within in
        all o less (ap (λ x. value_of (w (base + x))) m ∙ ap (λ x. value_of (w x)) (sym is) ∙ none)

    round : (j o : ℕ) → o < p → k ≤ start + o → start + o < k + k → j ≡ base + (start + o - k) → value_of (w j) ≢ 0
    round j o less past within is none =
        let m : (start + o) % k ≡ (start + o - k) % k = mod-eq-sub-mod past in
        let n : (start + o - k) % k ≡ start + o - k = mod-eq_of_lt (omega arith) in
        all o less (ap (λ x. value_of (w (base + x))) (m ∙ n) ∙ ap (λ x. value_of (w x)) (sym is) ∙ none)

-- the first segments, each with so many items
pub filled-segments : (w : ℕ → ℕ) (k p m : ℕ) → ((s : ℕ) → s < m → p ≤ filled_from w (1 + s * k) k)
    → m * p ≤ filled_from w 1 (m * k)
filled-segments w k p zero all = omega arith
filled-segments w k p (suc m) all =
    let old : m * p ≤ filled_from w 1 (m * k) = filled-segments w k p m (λ s less. all s (omega arith)) in
    let new : p ≤ filled_from w (1 + m * k) k = all m (omega arith) in
    let size : suc m * k ≡ m * k + k = omega arith in
    let parts : filled_from w 1 (m * k + k) ≡ filled_from w 1 (m * k) + filled_from w (1 + m * k) k =
    filled-append w 1 (m * k) k in
    let same : filled_from w 1 (suc m * k) ≡ filled_from w 1 (m * k + k) = ap (filled_from w 1) size in
    let product : suc m * p ≡ m * p + p = omega arith in
    omega arith

-- all segments but one have so many items, and that one has an item
pub filled-but_one : (w : ℕ → ℕ) (k p h m : ℕ) → h < m → ((s : ℕ) → s < m → s ≢ h → p ≤ filled_from w (1 + s * k) k)
    → 1 ≤ filled_from w (1 + h * k) k → (m - 1) * p + 1 ≤ filled_from w 1 (m * k)
filled-but_one w k p h zero less all one = absurd (omega arith)
filled-but_one w k p h (suc m) less all one =
    let size : suc m * k ≡ m * k + k = omega arith in
    let parts : filled_from w 1 (m * k + k) ≡ filled_from w 1 (m * k) + filled_from w (1 + m * k) k =
    filled-append w 1 (m * k) k in
    let same : filled_from w 1 (suc m * k) ≡ filled_from w 1 (m * k + k) = ap (filled_from w 1) size in
    let count : (suc m - 1) * p ≡ m * p = ap (λ x. x * p) (let e : suc m - 1 ≡ m = omega arith in e) in
    elim (cases_eq h m) [
      | inl last ↦
          let old : m * p ≤ filled_from w 1 (m * k) =
          filled-segments w k p m (λ s low. all s (omega arith) (λ e. absurd (omega arith))) in
          let there : filled_from w (1 + h * k) k ≡ filled_from w (1 + m * k) k =
          ap (λ x. filled_from w (1 + x * k) k) last in
          omega arith
      | inr earlier ↦
          let old : (m - 1) * p + 1 ≤ filled_from w 1 (m * k) =
          filled-but_one w k p h m (omega arith) (λ s low ne. all s (omega arith) ne) one in
          let new : p ≤ filled_from w (1 + m * k) k = all m (omega arith) (λ e. earlier (sym e)) in
          let product : m * p ≡ (m - 1) * p + p =
          (let e : m ≡ (m - 1) + 1 = omega arith in omega (arith, ap (λ x. x * p) e)) in
          omega arith
    ]
