-- Where the word of a task is cut: at its first colon, and what is behind it at the next.
use Rattle.std.proofs.Common.{◌≡◌, ℕ, ◌<◌, ◌≤◌, ◌^◌, List, [], ◌∷◌, ◌++◌, inl, inr, arith, refl, sym, ◌∙◌, subst}
use Rattle.std.proofs.Common.{append-nil}
use Rattle.std.proofs.lemmas.Str.Parse.{not_in_digits}
use Rattle.kfifo_dispatch.specs.declared.task.Task.{Task}
use Rattle.kfifo_cli_texts.specs.Tasks.{WritesTask}
use Rattle.kfifo_cli_texts.specs.Words.{WritesNumber}
use Rattle.kfifo_cli_texts.proofs.FirstCut.{IsPlain, cut_once}
use Rattle.kfifo_cli_requests.proofs.Digits.{own}

digits_plain : (number : List ℕ) (n : ℕ) → WritesNumber number n → IsPlain 58 number
digits_plain number n w = not_in_digits own number 58 w.digits (λ h. omega (arith, h.0, h.1))

-- two cuts at a first colon are one
cut_same : (a r b s : List ℕ) → IsPlain 58 a → IsPlain 58 b → a ++ 58 ∷ r ≡ b ++ 58 ∷ s → (a ≡ b) × (r ≡ s)
cut_same a r b s pa pb e =
    let cut = cut_once 58 a (58 ∷ r) b (58 ∷ s) pa pb (inr (r, refl)) (inr (s, refl)) e in
    let rests : 58 ∷ r ≡ 58 ∷ s = cut.1 in
    let tails : r ≡ s = cc in
    (cut.0, tails)

-- a text with no colon is cut nowhere
no_cut : (text b s : List ℕ) → IsPlain 58 text → IsPlain 58 b → text ≡ b ++ 58 ∷ s → ⊥
no_cut text b s plain pb e =
    let cut = cut_once 58 text [] b (58 ∷ s) plain pb (inl refl) (inr (s, refl)) (append-nil text ∙ e) in
    let bad : [] ≡ 58 ∷ s = cut.1 in
    cc

-- a word with no colon writes no task
pub no_colon : (word : List ℕ) → IsPlain 58 word → (task : Task) → WritesTask word task → ⊥
no_colon word plain task w = no_cut word w.id (w.left ++ 58 ∷ w.sum) plain (digits_plain w.id task.id w.id_written)
    w.split

module _ (word id rest : List ℕ) (split : word ≡ id ++ 58 ∷ rest) (plain : IsPlain 58 id) where
  first_cut : (task : Task) (w : WritesTask word task) → (w.id ≡ id) × (w.left ++ 58 ∷ w.sum ≡ rest)
  first_cut task w = cut_same w.id (w.left ++ 58 ∷ w.sum) id rest (digits_plain w.id task.id w.id_written) plain
      (sym w.split ∙ split)

  -- nor does one with a single colon
  pub one_colon : IsPlain 58 rest → (task : Task) → WritesTask word task → ⊥
  one_colon none task w = no_cut rest w.left w.sum none (digits_plain w.left task.left w.left_written)
      (sym (first_cut task w).1)

  module _ (left sum : List ℕ) (more : rest ≡ left ++ 58 ∷ sum) (bare : IsPlain 58 left) where
    second_cut : (task : Task) (w : WritesTask word task) → (w.left ≡ left) × (w.sum ≡ sum)
    second_cut task w = cut_same w.left w.sum left sum (digits_plain w.left task.left w.left_written) bare
        ((first_cut task w).1 ∙ more)

    -- nor does one of which a part writes no number that fits
    pub no_id : ((n : ℕ) → 0 ≤ n → n < 2 ^ 32 → WritesNumber id n → ⊥) → (task : Task) → WritesTask word task → ⊥
    no_id none task w =
        none task.id (omega arith) w.id_fits (subst (λ t. WritesNumber t task.id) (first_cut task w).0 w.id_written)

    pub no_left : ((n : ℕ) → 0 ≤ n → n < 2 ^ 16 → WritesNumber left n → ⊥) → (task : Task) → WritesTask word task → ⊥
    no_left none task w = none task.left (omega arith) w.left_fits
        (subst (λ t. WritesNumber t task.left) (second_cut task w).0 w.left_written)

    pub no_sum : ((n : ℕ) → 0 ≤ n → n < 2 ^ 32 → WritesNumber sum n → ⊥) → (task : Task) → WritesTask word task → ⊥
    no_sum none task w =
        none task.sum (omega arith) w.sum_fits (subst (λ t. WritesNumber t task.sum) (second_cut task w).1
        w.sum_written)
