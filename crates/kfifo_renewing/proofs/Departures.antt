-- Of some generations those are left that have left their places, and the others are kept.
use Rattle.std.proofs.Common.{◌≡◌, ◌≤◌, ◌⊎◌, ⊎_elim, ℕ, zero, suc, List, [], ◌∷◌, ◌++◌, All}
use Rattle.std.proofs.Common.{map, refl, sym, ap, ◌∙◌, subst}
use Rattle.std.proofs.Common.{arith, inl, inr}
use Rattle.std.specs.List.{Contains}
use Rattle.std.proofs.lemmas.List.Elements.{All-cons, All-nil}
use mathlib.Core.List.{IsPrefix}
use Rattle.kfifo_live.specs.Pass.{OpenQueue}
use Rattle.kfifo_live.specs.Tokens.{new_token_passes}
use Rattle.kfifo_pool.specs.Pooled.{Pooled, new_handle, new_handles}
use Rattle.kfifo_renewing.specs.declared.change.Change.{Change}
use Rattle.kfifo_renewing.specs.History.{queue_in}
use Rattle.kfifo_renewing.specs.Renewing.{EndsGone, HasLeft, HeldIn, IsNew, IsUntouched, LeavesGone}
use Rattle.kfifo_renewing.proofs.Histories.{gone-later, made-later, prefix-trans}
use Rattle.kfifo_renewing.proofs.Parts.{all-next, contains-cons, contains-head}

module _ {T : Type 0} where
  pub leaves-refl : (log : List Change) (hs : List (HeldIn T)) → LeavesGone log hs hs
  leaves-refl log [] = refl
  leaves-refl log (h ∷ hs) = inl (hs, refl, leaves-refl log hs)

  pub left-later : (xs ys : List Change) (h : HeldIn T) → IsPrefix xs ys → HasLeft xs h → HasLeft ys h
  left-later xs ys h p l = record {
    before = l.before;
    gone = gone-later xs ys h.number p l.gone;
    earlier = prefix-trans l.before xs ys l.earlier p;
    left = l.left;
    one = l.one;
  }

  pub ends-later : (xs ys : List Change) (hs kept : List (HeldIn T)) → IsPrefix xs ys → EndsGone xs hs kept
      → EndsGone ys hs kept
  ends-later xs ys [] kept p none = none
  ends-later xs ys (h ∷ hs) kept p (inl (rest, is, e)) = inl (rest, is, ends-later xs ys hs rest p e)
  ends-later xs ys (h ∷ hs) kept p (inr (left, e)) = inr (left-later xs ys h p left, ends-later xs ys hs kept p e)

  -- each of them is kept, or has left
  pub ends-each : (log : List Change) (hs kept : List (HeldIn T)) (h : HeldIn T) → EndsGone log hs kept → Contains hs h
      → HasLeft log h ⊎ Contains kept h
  ends-each log [] kept h none (k, inside, at) = absurd (omega (arith, inside))
  ends-each log (x ∷ hs) kept h (inl (rest, is, e)) (zero, inside, at) =
      inr (subst (λ l. Contains l h) (sym is) (subst (Contains (x ∷ rest)) at (contains-head x rest)))
  ends-each log (x ∷ hs) kept h (inl (rest, is, e)) (suc k, inside, at) = ⊎_elim inl
      (λ there. inr (subst (λ l. Contains l h) (sym is) (contains-cons x h rest there)))
      (ends-each log hs rest h e (k, omega (arith, inside), at))
  ends-each log (x ∷ hs) kept h (inr (left, e)) (zero, inside, at) = inl (subst (HasLeft log) at left)
  ends-each log (x ∷ hs) kept h (inr (left, e)) (suc k, inside, at) =
      ends-each log hs kept h e (k, omega (arith, inside), at)

  -- one handle more that is kept, and one more that has left
  pub ends-kept : (log : List Change) (hs kept : List (HeldIn T)) (h : HeldIn T) → EndsGone log hs kept
      → EndsGone log (hs ++ h ∷ []) (kept ++ h ∷ [])
  ends-kept log [] kept h none = inl ([], ap (λ l. l ++ h ∷ []) none, refl)
  ends-kept log (x ∷ hs) kept h (inl (rest, is, e)) =
      inl (rest ++ h ∷ [], ap (λ l. l ++ h ∷ []) is, ends-kept log hs rest h e)
  ends-kept log (x ∷ hs) kept h (inr (left, e)) = inr (left, ends-kept log hs kept h e)

  pub ends-left : (log : List Change) (hs kept : List (HeldIn T)) (h : HeldIn T) → EndsGone log hs kept
      → HasLeft log h → EndsGone log (hs ++ h ∷ []) kept
  ends-left log [] kept h none left = inr (left, none)
  ends-left log (x ∷ hs) kept h (inl (rest, is, e)) left = inl (rest, is, ends-left log hs rest h e left)
  ends-left log (x ∷ hs) kept h (inr (had, e)) left = inr (had, ends-left log hs kept h e left)

  pub leaves-later : (xs ys : List Change) (hs kept : List (HeldIn T)) → IsPrefix xs ys → LeavesGone xs hs kept
      → LeavesGone ys hs kept
  leaves-later xs ys [] kept p none = none
  leaves-later xs ys (h ∷ hs) kept p (inl (rest, is, l)) = inl (rest, is, leaves-later xs ys hs rest p l)
  leaves-later xs ys (h ∷ hs) kept p (inr (free, left, l)) =
      inr (free, left-later xs ys h p left, leaves-later xs ys hs kept p l)

  pub leaves-trans : (log : List Change) (a b c : List (HeldIn T)) → LeavesGone log a b → LeavesGone log b c
      → LeavesGone log a c
  leaves-trans log [] b c p q = subst (λ l. LeavesGone log l c) p q
  leaves-trans log (h ∷ a) b c (inl (rest, is, p)) q = ⊎_elim
      (λ keeps. inl (keeps.0, keeps.1, leaves-trans log a rest keeps.0 p keeps.2))
      (λ left. inr (left.0, left.1, leaves-trans log a rest c p left.2))
      (subst (λ l. LeavesGone log l c) is q)
  leaves-trans log (h ∷ a) b c (inr (free, left, p)) q = inr (free, left, leaves-trans log a b c p q)

  -- those of a list and of another one behind it
  pub leaves-split : (log : List Change) (a b kept : List (HeldIn T)) → LeavesGone log (a ++ b) kept
      → (k : List (HeldIn T)) × (l : List (HeldIn T)) × (kept ≡ k ++ l) × LeavesGone log a k × LeavesGone log b l
  leaves-split log [] b kept p = ([], kept, refl, refl, p)
  leaves-split log (h ∷ a) b kept (inl (rest, is, p)) =
      let s = leaves-split log a b rest p in
      (h ∷ s.0, s.1, is ∙ ap (λ l. h ∷ l) s.2, inl (s.0, refl, s.3), s.4)
  leaves-split log (h ∷ a) b kept (inr (free, left, p)) =
      let s = leaves-split log a b kept p in
      (s.0, s.1, s.2, inr (free, left, s.3), s.4)

  pub leaves-append : (log : List Change) (a b x y : List (HeldIn T)) → LeavesGone log a b → LeavesGone log x y
      → LeavesGone log (a ++ x) (b ++ y)
  leaves-append log [] b x y p q = subst (λ l. LeavesGone log x (l ++ y)) (sym p) q
  leaves-append log (h ∷ a) b x y (inl (rest, is, p)) q =
      inl (rest ++ y, ap (λ l. l ++ y) is, leaves-append log a rest x y p q)
  leaves-append log (h ∷ a) b x y (inr (free, left, p)) q = inr (free, left, leaves-append log a b x y p q)

  pub all-kept : (P : HeldIn T → Type 0) (log : List Change) (hs kept : List (HeldIn T)) → LeavesGone log hs kept
      → All P hs → All P kept
  all-kept P log [] kept none all = subst (All P) (sym none) (All-nil P)
  all-kept P log (h ∷ hs) kept (inl (rest, is, l)) all =
      let next = all-next P h hs (h ∷ hs) refl all in
      subst (All P) (sym is) (All-cons P h rest next.0 (all-kept P log hs rest l next.1))
  all-kept P log (h ∷ hs) kept (inr (free, left, l)) all =
      all-kept P log hs kept l (all-next P h hs (h ∷ hs) refl all).1

  -- a new generation is new after an earlier one too, and as more of the history is seen
  pub new-later : (t n m : ℕ) (xs ys : List Change) (h : HeldIn T) → n ≤ m → IsPrefix xs ys → IsNew t m xs h
      → IsNew t n ys h
  new-later t n m xs ys h up p new = (
    let above = new.0 in omega (arith, up, above),
    made-later xs ys h.number (queue_in h.handle.held.pass.pass) p new.1,
    new.2,
  )

  -- the handles of an opening are untouched
  unused_from : (q : OpenQueue) (first count : ℕ)
      → All (λ (h : Pooled T). IsUntouched h) (map new_handle (new_token_passes q first count))
  unused_from q first zero = All-nil (λ (h : Pooled T). IsUntouched h)
  unused_from q first (suc count) =
      All-cons (λ (h : Pooled T). IsUntouched h) _ (map new_handle (new_token_passes q (suc first) count)) (refl, refl)
      (unused_from q (suc first) count)

  pub new_unused : (q : OpenQueue) (count : ℕ) → All (λ (h : Pooled T). IsUntouched h) (new_handles q count)
  new_unused q count = unused_from q 0 count
