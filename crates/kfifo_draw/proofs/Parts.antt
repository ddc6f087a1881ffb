-- The numbers of which a fact holds, one more at a time.
use Rattle.std.proofs.lemmas.Bool.{cases_lt}
use Rattle.std.proofs.Common.{◌≡◌, ℕ, ◌+◌, ◌<◌, ◌≤◌, ◌⊎◌, inl, inr, ◌↔◌, List, [], ◌∷◌, ◌++◌, length, refl, sym, subst}
use Rattle.std.proofs.Common.{arith, length-append}
use Rattle.kfifo_model.specs.Lists.{EachPair, IsIn}
use Rattle.kfifo_model.proofs.Lists.{in_append, in_left, in_right, pairs_push}
use Rattle.kfifo_draw.specs.Drawing.{AreThoseBelow, CountsThose}

module _ (P : ℕ → Type 0) where
  -- there is no number below the first
  pub drawn_none : AreThoseBelow P 0 []
  drawn_none = record {
    rising = tt;
    each = λ c. ((λ i. absurd i), (λ w. absurd (omega (arith, w.0))));
  }

  -- a number of which it holds is one of them
  pub drawn_more : (n : ℕ) (drawn : List ℕ) → AreThoseBelow P n drawn → P n → AreThoseBelow P (n + 1) (drawn ++ n ∷ [])
  drawn_more n drawn d here = record {
    rising = pairs_push (λ a b. a < b) drawn n d.rising (λ x i. (((d.each x).0) i).0);
    each = λ c. (
      (λ i. elim (in_append c drawn (n ∷ []) i) [
        | inl j ↦ (let w = ((d.each c).0) j in ((omega (arith, w.0)), w.1))
        | inr j ↦ elim j [
          | inl e ↦ ((omega (arith, e)), subst P (sym e) here)
          | inr k ↦ absurd k
        ]
      ]),
      (λ w. elim (cases_lt c n) [
        | inl below ↦ in_left c drawn (n ∷ []) (((d.each c).1) (below, w.1))
        | inr from ↦ (let e : c ≡ n = omega (arith, w.0, from) in in_right c drawn (n ∷ []) (inl e))
      ]),
    );
  }

  -- another is not
  pub drawn_same : (n : ℕ) (drawn : List ℕ) → AreThoseBelow P n drawn → (P n → ⊥) → AreThoseBelow P (n + 1) drawn
  drawn_same n drawn d away = record {
    rising = d.rising;
    each = λ c. (
      (λ i. let w = ((d.each c).0) i in ((omega (arith, w.0)), w.1)),
      (λ w. elim (cases_lt c n) [
        | inl below ↦ ((d.each c).1) (below, w.1)
        | inr from ↦ (let e : c ≡ n = omega (arith, w.0, from) in absurd (away (subst P e w.1)))
      ]),
    );
  }

  -- the same of their number
  pub count_none : CountsThose P 0 0
  count_none = ([], drawn_none, refl)

  pub count_more : (n count : ℕ) → CountsThose P n count → P n → CountsThose P (n + 1) (count + 1)
  count_more n count w here =
      (w.0 ++ n ∷ [], drawn_more n w.0 w.1 here, omega (arith, w.2, length-append w.0 (n ∷ [])))

  pub count_same : (n count : ℕ) → CountsThose P n count → (P n → ⊥) → CountsThose P (n + 1) count
  count_same n count w away = (w.0, drawn_same n w.0 w.1 away, w.2)
