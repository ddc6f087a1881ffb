-- No more things than places, if no two are in one place; and sums over threads.
use Rattle.std.proofs.Common.{◌≡◌, ◌≢◌, ℕ, zero, suc, ◌+◌, ◌*◌, ◌<◌, ◌≤◌, ◌⊎◌, inl, inr, sym, ◌∙◌, subst, arith, refl}
use Rattle.std.specs.Prelude.{◌==◌, if◌then◌else◌, Bool, true, false}
use Rattle.kfifo_linear.proofs.Abstract.{noted-other, noted-same}
use Rattle.kfifo_linear.specs.Ledger.{noted}
use Rattle.std.proofs.lemmas.Bool.{cases_eq}
use Rattle.std.proofs.lemmas.Bool.Decides.{nat_tests}

-- a list of m + 1 places below m has two that are the same
pub pigeonhole : (m : ℕ) (f : ℕ → ℕ) → ((i : ℕ) → i ≤ m → f i < m) → ((i j : ℕ) → i < j → j ≤ m → f i ≢ f j) → ⊥
pigeonhole zero f below apart = omega (arith, below 0 (omega arith))
pigeonhole (suc m) f below apart = pigeonhole m moved moved_below moved_apart
  where
    -- what is in the last place goes to that of the last thing
    moved : ℕ → ℕ
    moved i = if f i == m then f (suc m) else f i

    moved_is : (i : ℕ) → ((f i ≡ m) × (moved i ≡ f (suc m))) ⊎ ((f i ≢ m) × (moved i ≡ f i))
    moved_is i = grind (arith, nat_tests)

    moved_below : (i : ℕ) → i ≤ m → moved i < m
    moved_below i h = elim (moved_is i) [
      | inl last ↦
          omega (arith, last.0, last.1, below (suc m) (omega arith), apart i (suc m) (omega arith) (omega arith))
      | inr other ↦ omega (arith, other.0, other.1, below i (omega arith))
    ]

    moved_apart : (i j : ℕ) → i < j → j ≤ m → moved i ≢ moved j
    moved_apart i j lt h e = elim (moved_is i) [
      | inl last ↦ elim (moved_is j) [
        | inl same ↦ apart i j lt (omega arith) (last.0 ∙ sym same.0)
        | inr other ↦ apart j (suc m) (omega arith) (omega arith) (sym other.1 ∙ sym e ∙ last.1)
      ]
      | inr other ↦ elim (moved_is j) [
        | inl last ↦ apart i (suc m) (omega arith) (omega arith) (sym other.1 ∙ e ∙ last.1)
        | inr too ↦ apart i j lt (omega arith) (sym other.1 ∙ e ∙ too.1)
      ]
    ]

-- the sum over all threads
abbrev pub total : (ℕ → ℕ) → ℕ → ℕ
total f zero = 0
total f (suc n) = total f n + f n

pub total_rises : (f g : ℕ → ℕ) (n c : ℕ) → ((i : ℕ) → i < n → g i ≤ f i + c) → total g n ≤ total f n + n * c
total_rises f g zero c h = omega arith
total_rises f g (suc n) c h = omega (arith, h n (omega arith), total_rises f g n c (λ i b. h i (omega arith)))

-- where one of them falls
pub total_falls : (f g : ℕ → ℕ) (n a c rise fall : ℕ) → a < n → g a + fall ≤ f a + rise
    → ((i : ℕ) → i < n → i ≢ a → g i ≤ f i + c)
    → total g n + fall ≤ total f n + rise + n * c
total_falls f g zero a c rise fall b own h = absurd (omega arith)
total_falls f g (suc n) a c rise fall b own h = elim (cases_eq a n) [
  | inl last ↦
      let o : g n + fall ≤ f n + rise = subst (λ x. g x + fall ≤ f x + rise) last own in
      omega (arith, o, total_rises f g n c (λ i z. h i (omega arith) (omega arith)))
  | inr ne ↦ omega (
    arith,
    h n (omega arith) (λ z. ne (sym z)),
    total_falls f g n a c rise fall (omega arith) own
        (λ i z. h i (omega arith)),
  )
]

-- how many threads are old
abbrev pub old_threads : (ℕ → Bool) → ℕ → ℕ
old_threads old threads = total (λ t. if old t then 1 else 0) threads

pub few_old : (old : ℕ → Bool) (n : ℕ) → old_threads old n ≤ n
few_old old zero = omega arith
few_old old (suc n) = omega (arith, few_old old n, one (old n))
  where
    one : (b : Bool) → (if b then 1 else 0) ≤ 1
    one true = omega arith
    one false = omega arith

-- one fewer, after an old thread is one no more
pub fewer_old : (old : ℕ → Bool) (n t : ℕ) → t < n → old t ≡ true
    → old_threads (noted old t false) n + 1 ≤ old_threads old n
fewer_old old n t within was_old =
    let k = total_falls (λ u. if old u then 1 else 0) (λ u. if noted old t false u then 1 else 0) n t 0 0 1 within
    (own (old t) was_old)
    (λ u _ ne. other u ne) in
    omega (arith, k)
  where
    own : (b : Bool) → b ≡ true → (if noted old t false t then 1 else 0) + 1 ≤ (if b then 1 else 0) + 0
    own b was = rw (noted-same old t t false refl, was) (omega arith)

    other : (u : ℕ) → u ≢ t → (if noted old t false u then 1 else 0) ≤ (if old u then 1 else 0) + 0
    other u ne = rw (noted-other old t u false ne) (omega arith)
