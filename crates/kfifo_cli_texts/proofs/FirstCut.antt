-- Where a text is cut: at the first such byte, and nowhere else.
use Rattle.std.proofs.Common.{◌≡◌, ◌≢◌, ℕ, zero, suc, List, [], ◌∷◌, ◌++◌, get_or, EachIndex, inl, inr, arith, refl}
use Rattle.std.proofs.Common.{sym, ◌∙◌, ◌⊎◌}

module _ (mark : ℕ) where
  -- no byte is that one
  abbrev pub IsPlain : List ℕ → Type 0
  IsPlain name = EachIndex name (λ i. get_or name i 0 ≢ mark)

  -- nothing, or that byte and more
  abbrev pub IsRest : List ℕ → Type 0
  IsRest rest = (rest ≡ []) ⊎ ((more : List ℕ) × (rest ≡ mark ∷ more))

  pub plain_cons : (x : ℕ) (xs : List ℕ) → x ≢ mark → IsPlain xs → IsPlain (x ∷ xs)
  plain_cons x xs here there zero lt = here
  plain_cons x xs here there (suc i) lt = there i (omega arith)

  plain_tail : (x : ℕ) (xs : List ℕ) → IsPlain (x ∷ xs) → IsPlain xs
  plain_tail x xs h = λ i lt. h (suc i) (omega arith)

  plain_head : (x : ℕ) (xs : List ℕ) → IsPlain (x ∷ xs) → x ≢ mark
  plain_head x xs h = h 0 (omega arith)

  -- a rest begins with no plain byte
  not_rest : (x : ℕ) (xs r : List ℕ) → x ≢ mark → IsRest r → r ≡ x ∷ xs → ⊥
  not_rest x xs r p (inl none) e = let bad : [] ≡ x ∷ xs = sym none ∙ e in cc
  not_rest x xs r p (inr some) e = let same : mark ∷ some.0 ≡ x ∷ xs = sym some.1 ∙ e in p (cc)

  -- a text has one cut
  pub cut_once : (a r b s : List ℕ) → IsPlain a → IsPlain b → IsRest r → IsRest s → a ++ r ≡ b ++ s → (a ≡ b) × (r ≡ s)
  cut_once [] r [] s pa pb ir is e = (refl, e)
  cut_once [] r (y ∷ b) s pa pb ir is e = absurd (not_rest y (b ++ s) r (plain_head y b pb) ir e)
  cut_once (x ∷ a) r [] s pa pb ir is e = absurd (not_rest x (a ++ r) s (plain_head x a pa) is (sym e))
  cut_once (x ∷ a) r (y ∷ b) s pa pb ir is e =
      let whole : x ∷ (a ++ r) ≡ y ∷ (b ++ s) = e in
      let tails : a ++ r ≡ b ++ s = cc in
      let heads : x ≡ y = cc in
      let rest = cut_once a r b s (plain_tail x a pa) (plain_tail y b pb) ir is tails in
      let same : a ≡ b = rest.0 in
      (cc, rest.1)
