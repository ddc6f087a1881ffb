-- A stretch is cut at its first hyphen.
use Rattle.std.proofs.Common.{◌≡◌, ℕ, ◌<◌, ◌≤◌, List, [], ◌∷◌, ◌++◌, inl, inr, arith, refl, sym, ◌∙◌, subst, ap}
use Rattle.std.proofs.Common.{append-nil}
use Rattle.std.proofs.lemmas.Str.Parse.{not_in_digits}
use Rattle.kfifo_cli_texts.specs.declared.stretch.Stretch.{Stretch}
use Rattle.kfifo_cli_texts.specs.Stretches.{WritesStretch}
use Rattle.kfifo_cli_texts.specs.Words.{WritesNumber}
use Rattle.kfifo_cli_texts.proofs.FirstCut.{IsPlain, cut_once}
use Rattle.kfifo_cli_requests.proofs.Digits.{own}

digits_plain : (number : List ℕ) (n : ℕ) → WritesNumber number n → IsPlain 45 number
digits_plain number n w = not_in_digits own number 45 w.digits (λ h. omega (arith, h.0, h.1))

-- a text with no hyphen writes no stretch
pub no_hyphen : (text : List ℕ) → IsPlain 45 text → (s : Stretch) → WritesStretch text s → ⊥
no_hyphen text plain s w =
    let cut = cut_once 45 text [] w.first (45 ∷ w.last) plain (digits_plain w.first s.first w.first_written) (inl refl)
    (inr (w.last, refl))
    (append-nil text ∙ w.split) in
    let bad : [] ≡ 45 ∷ w.last = cut.1 in
    cc

module _ (text before behind : List ℕ) (split : text ≡ before ++ 45 ∷ behind) (plain : IsPlain 45 before) where
  cut_same : (s : Stretch) (w : WritesStretch text s) → (w.first ≡ before) × (w.last ≡ behind)
  cut_same s w =
      let cut = cut_once 45 w.first (45 ∷ w.last) before (45 ∷ behind) (digits_plain w.first s.first w.first_written)
      plain
      (inr (w.last, refl)) (inr (behind, refl)) (sym w.split ∙ split) in
      let rests : 45 ∷ w.last ≡ 45 ∷ behind = cut.1 in
      let tails : w.last ≡ behind = cc in
      (cut.0, tails)

  -- nor does one of which a part writes no number
  pub no_first : ((n : ℕ) → WritesNumber before n → ⊥) → (s : Stretch) → WritesStretch text s → ⊥
  no_first none s w = none s.first (subst (λ t. WritesNumber t s.first) (cut_same s w).0 w.first_written)

  pub no_last : ((n : ℕ) → WritesNumber behind n → ⊥) → (s : Stretch) → WritesStretch text s → ⊥
  no_last none s w = none s.last (subst (λ t. WritesNumber t s.last) (cut_same s w).1 w.last_written)

  -- nor does one whose last number is less than the first
  pub no_rise : (first last : ℕ) → WritesNumber before first → WritesNumber behind last → last < first → (s : Stretch)
      → WritesStretch text s → ⊥
  no_rise first last one other falls s w =
      let a : WritesNumber before s.first = subst (λ t. WritesNumber t s.first) (cut_same s w).0 w.first_written in
      let b : WritesNumber behind s.last = subst (λ t. WritesNumber t s.last) (cut_same s w).1 w.last_written in
      let same : s.first ≡ first = a.value ∙ sym one.value in
      let same-2 : s.last ≡ last = b.value ∙ sym other.value in
      let rises : s.first ≤ s.last = w.rises in
      omega (arith, falls, rises, same, same-2)
