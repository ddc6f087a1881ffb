-- Lists whose elements are changed one after the other.
use Rattle.std.proofs.Common.{◌≡◌, ◌<◌, ◌≤◌, ◌+◌, ◌≢◌, arith, ℕ, List, length}
use Rattle.std.proofs.Common.{get_or, sym, subst, ◌∙◌, below_more}
use Rattle.std.proofs.lemmas.List.{get_or_default, get_or-set_same, get_or-set_other}
use Rattle.std.proofs.Math.ListN.{set}

module _ {A : Type 0} (olds hs : List A) (i : ℕ) (h : A) where
  -- those behind are as they were
  pub rest_more : ((k : ℕ) (d : A) → i ≤ k → get_or hs k d ≡ get_or olds k d)
      → (k : ℕ) (d : A) → i + 1 ≤ k → get_or (set hs i h) k d ≡ get_or olds k d
  rest_more rest k d above = let ne : k ≢ i = omega arith in get_or-set_other hs i k h d ne ∙ rest k d (omega arith)

  -- and those before were changed
  pub changed_more : (R : A → A → Type 0) (e : A) → i < length hs
      → ((k : ℕ) (d : A) → i ≤ k → get_or hs k d ≡ get_or olds k d)
      → ((k : ℕ) (d : A) → k < i → R (get_or olds k d) (get_or hs k d)) → R (get_or hs i e) h
      → (k : ℕ) (d : A) → k < i + 1 → R (get_or olds k d) (get_or (set hs i h) k d)
  changed_more R e below rest changed is k d under =
      below_more (λ (j : ℕ). R (get_or olds j d) (get_or (set hs i h) j d)) i
      (λ j lt. let ne : j ≢ i = omega arith in
      subst (λ x. R (get_or olds j d) x) (sym (get_or-set_other hs i j h d ne)) (changed j d lt))
      (subst (λ x. R (get_or olds i d) x) (sym (get_or-set_same hs i h d below))
      (subst (λ o. R o h) (get_or_default hs i e d below ∙ rest i d (omega arith)) is)) k under
