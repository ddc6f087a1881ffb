-- Generations in which a handle has no cell: what a call with one finds there, and which are so after a change.
use Rattle.std.proofs.Common.{◌≡◌, ◌<◌, ◌≤◌, ◌+◌, ◌-◌, ℕ, zero, suc, None, List, [], ◌∷◌, ◌++◌, All, take, drop, length}
use Rattle.std.proofs.Common.{refl, sym, ap, ◌∙◌, subst, arith, inl, inr, slice_index_or, slice_set}
use Rattle.std.proofs.lemmas.List.Elements.{All-append, All-cons, All-drop, All-nil}
use Rattle.std.specs.Option.{option_or}
use Rattle.kfifo_live.specs.declared.payload.Given.TheVariants as G
use Rattle.kfifo_pool.specs.Cells.{cell_in}
use Rattle.kfifo_pool.specs.Pooled.{CellsInHand, Pooled, no_cells}
use Rattle.kfifo_renewing.specs.Cells.{CallsCell, CallsFirst, reserved_in}
use Rattle.kfifo_renewing.specs.declared.cells.CellCall.{CellCall}
use Rattle.kfifo_renewing.specs.declared.cells.CellCall.TheVariants as C
use Rattle.kfifo_renewing.specs.Joining.{HasNoCell, PartView, held_by, held_in}
use Rattle.kfifo_renewing.specs.Renewing.{IsUntouched}
use Rattle.kfifo_renewing.proofs.Parts.{all-next, all-without}

one-more : (i : ℕ) → suc i + 1 ≡ suc (i + 1)
one-more i = omega arith

one-less : (n : ℕ) → suc n - 1 ≡ n
one-less n = omega arith

module _ {A : Type 0} where
  drop-nothing : (n : ℕ) → drop {A = A} n [] ≡ []
  drop-nothing zero = refl
  drop-nothing (suc n) = refl

  -- what is so of all from an index on is so of all from the next one on
  pub all-from-next : (P : A → Type 0) (xs : List A) (n : ℕ) → All P (drop n xs) → All P (drop (suc n) xs)
  all-from-next P [] n all = All-nil P
  all-from-next P (x ∷ xs) zero all = (all-next P x xs (x ∷ xs) refl all).1
  all-from-next P (x ∷ xs) (suc n) all = all-from-next P xs n all

  nothing-out : (n i : ℕ) → drop {A = A} n (take i [] ++ drop (i + 1) []) ≡ []
  nothing-out n zero = drop-nothing n
  nothing-out n (suc i) = ap (λ k. drop {A = A} n (drop k [])) (one-more i) ∙ drop-nothing n

  -- where one is taken out
  pub all-from-without : (P : A → Type 0) (xs : List A) (n i : ℕ) → All P (drop n xs)
      → All P (drop n (take i xs ++ drop (i + 1) xs))
  all-from-without P [] n i all = subst (All P) (sym (nothing-out n i)) (All-nil P)
  all-from-without P (x ∷ xs) zero i all = all-without P (x ∷ xs) (take i (x ∷ xs) ++ drop (i + 1) (x ∷ xs)) i refl all
  all-from-without P (x ∷ xs) (suc n) zero all = all-from-next P xs n all
  all-from-without P (x ∷ xs) (suc n) (suc i) all =
      subst (λ k. All P (drop n (take i xs ++ drop k (x ∷ xs)))) (sym (one-more i)) (all-from-without P xs n i all)

  -- where others come behind, of which it is so
  pub all-from-append : (P : A → Type 0) (xs ys : List A) (n : ℕ) → All P (drop n xs) → All P ys
      → All P (drop n (xs ++ ys))
  all-from-append P [] ys n none all = All-drop P n ys all
  all-from-append P (x ∷ xs) ys zero each all = All-append P (x ∷ xs) ys each all
  all-from-append P (x ∷ xs) ys (suc n) each all = all-from-append P xs ys n each all

  -- and of those from a later one on
  pub all-from-later : (P : A → Type 0) (xs : List A) (n m : ℕ) → n ≤ m → All P (drop n xs) → All P (drop m xs)
  all-from-later P [] n m up all = subst (All P) (sym (drop-nothing m)) (All-nil P)
  all-from-later P (x ∷ xs) zero m up all = All-drop P m (x ∷ xs) all
  all-from-later P (x ∷ xs) (suc n) zero up all = absurd (omega (arith, up))
  all-from-later P (x ∷ xs) (suc n) (suc m) up all = all-from-later P xs n m (omega (arith, up)) all

  -- those behind an index are the same, whatever is there
  pub drop-set : (xs : List A) (i n : ℕ) (x : A) → i < n → drop n (slice_set xs i x) ≡ drop n xs
  drop-set [] i n x below = refl
  drop-set (y ∷ xs) i zero x below = absurd (omega (arith, below))
  drop-set (y ∷ xs) zero (suc n) x below = refl
  drop-set (y ∷ xs) (suc i) (suc n) x below = drop-set xs i n x (omega (arith, below))

  -- the same index among those behind the first, and one more with another one before these
  pub all-from-behind : (P : A → Type 0) (x : A) (xs ys : List A) (n : ℕ) → ys ≡ x ∷ xs → (n ≡ 0 → ⊥)
      → All P (drop n ys) → All P (drop (n - 1) xs)
  all-from-behind P x xs ys zero is some all = absurd (some refl)
  all-from-behind P x xs ys (suc n) is some all =
      subst (λ k. All P (drop k xs)) (sym (one-less n)) (subst (λ l. All P (drop (suc n) l)) is all)

  pub all-from-ahead : (P : A → Type 0) (x : A) (xs : List A) (n : ℕ) → (n ≡ 0 → ⊥) → All P (drop (n - 1) xs)
      → All P (drop n (x ∷ xs))
  all-from-ahead P x xs zero some all = absurd (some refl)
  all-from-ahead P x xs (suc n) some all = subst (λ k. All P (drop k xs)) (one-less n) all

  -- the one at an index, and those behind it
  from-next : (P : A → Type 0) (xs : List A) (i : ℕ) (x d : A) → i < length xs → x ≡ slice_index_or xs i d → P x
      → All P (drop (suc i) xs) → All P (drop i xs)
  from-next P [] i x d inside is here all = absurd (omega (arith, inside))
  from-next P (y ∷ xs) zero x d inside is here all = All-cons P y xs (subst P is here) all
  from-next P (y ∷ xs) (suc i) x d inside is here all = from-next P xs i x d (omega (arith, inside)) is here all

  pub all-from-at : (P : A → Type 0) (xs : List A) (n : ℕ) (x d : A) → 0 < n → n - 1 < length xs
      → x ≡ slice_index_or xs (n - 1) d → P x
      → All P (drop n xs) → All P (drop (n - 1) xs)
  all-from-at P xs zero x d some inside is here all = absurd (omega (arith, some))
  all-from-at P xs (suc n) x d some inside is here all = subst (λ k. All P (drop k xs)) (sym (one-less n))
      (from-next P xs n x d (omega (arith, inside)) (is ∙ ap (λ k. slice_index_or xs k d) (one-less n)) here all)

module _ {T : Type 0} where
  pub fresh-without : (p : PartView T) → IsUntouched p.handle → HasNoCell p
  fresh-without p untouched = ap (λ (h : Pooled T). h.cells) untouched.0

  none-called : (call : CellCall) (h : Pooled T) → h.cells ≡ no_cells → CallsCell call (G.NoToken tt) h h
  none-called C.Publish h none = (ap (λ (c : CellsInHand). c.reserved) none, refl)
  none-called C.Cancel h none = inr (refl, (ap (λ (c : CellsInHand). c.reserved) none, refl))
  none-called C.Release h none = inr (refl, (ap (λ (c : CellsInHand). c.received) none, refl))

  -- a call finds no cell, and changes nothing
  pub finds-none : (call : CellCall) (ps : List (PartView T)) → All HasNoCell ps
      → CallsFirst call (G.NoToken tt) (held_by ps) (held_by ps)
  finds-none call [] all = (refl, refl)
  finds-none call (p ∷ ps) all =
      let each = all-next HasNoCell p ps (p ∷ ps) refl all in
      (held_in p, held_by ps, refl, refl, inl (none-called call p.handle each.0, finds-none call ps each.1))

  pub reserved-none : (ps : List (PartView T)) → All HasNoCell ps → reserved_in (held_by ps) ≡ None
  reserved-none [] all = refl
  reserved-none (p ∷ ps) all =
      let each = all-next HasNoCell p ps (p ∷ ps) refl all in
      ap (λ (c : CellsInHand). option_or (cell_in c.reserved) (reserved_in (held_by ps))) each.0
      ∙ reserved-none ps each.1
