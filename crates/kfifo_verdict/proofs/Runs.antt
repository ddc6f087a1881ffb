-- What stays, comes and goes along a run.
use Rattle.std.proofs.Common.{ℕ, zero, suc, ◌≡◌, ◌≢◌, ◌+◌, ◌≤◌, ◌⊎◌, Bool, cond, eqb, List, [], ◌∷◌, ◌++◌, length, map}
use Rattle.std.proofs.Common.{refl, sym, ◌∙◌, ap, subst, inl, inr, arith, Some, slice_get, append_assoc}
use Rattle.std.specs.List.{remove}
use Rattle.kfifo_verdict.proofs.Types.{Call, Effect}
use Rattle.kfifo_model.specs.Lists.{IsIn}
use Rattle.kfifo_model.specs.declared.effects.Effect.TheVariants.{Adds, Takes, FindsNone, Refused, Wrong}
use Rattle.kfifo_model.specs.Relaxed.{Leaves, IsRun}
use Rattle.kfifo_model.specs.Histories.{does}
use Rattle.kfifo_model.specs.Overtaking.{adds, takes}
use Rattle.kfifo_model.proofs.Forgetting.{Has}
use Rattle.kfifo_model.proofs.Lists.{in_append, in_left, in_right}

-- the effects are legal from the items, and leave the items after
abbrev pub RunsTo : ℕ → List ℕ → List Effect → List ℕ → Type 0
RunsTo k items [] after = items ≡ after
RunsTo k items (e ∷ es) after = (mid : List ℕ) × Leaves k items e mid × RunsTo k mid es after

pub run_split : (k : ℕ) (items : List ℕ) (es fs : List Effect) → IsRun k items (es ++ fs) → (mid : List ℕ)
    × RunsTo k items es mid
    × IsRun k mid fs
run_split k items [] fs r = (items, refl, r)
run_split k items (e ∷ es) fs r = let p = run_split k r.0 es fs r.2 in (p.0, (r.0, r.1, p.1), p.2)

-- a run's beginning is a run
pub run_front : (k : ℕ) (items : List ℕ) (es fs : List Effect) → IsRun k items (es ++ fs) → IsRun k items es
run_front k items [] fs r = tt
run_front k items (e ∷ es) fs r = (r.0, r.1, run_front k r.0 es fs r.2)

pub runs_split : (k : ℕ) (items : List ℕ) (es fs : List Effect) (after : List ℕ) → RunsTo k items (es ++ fs) after
    → (mid : List ℕ)
    × RunsTo k items es mid × RunsTo k mid fs after
runs_split k items [] fs after r = (items, refl, r)
runs_split k items (e ∷ es) fs after r = let p = runs_split k r.0 es fs after r.2 in (p.0, (r.0, r.1, p.1), p.2)

pub has_map : (h : List Call) (e : Effect) (l : List ℕ) → Has e (map (does h) l) → (c : ℕ) × IsIn c l × (does h c ≡ e)
has_map h e [] i = absurd i
has_map h e (c ∷ l) (inl q) = (c, inl refl, sym q)
has_map h e (c ∷ l) (inr i) = let p = has_map h e l i in (p.0, inr p.1, p.2)

pub into_map : (h : List Call) (e : Effect) (l : List ℕ) (c : ℕ) → IsIn c l → does h c ≡ e → Has e (map (does h) l)
into_map h e [] c i q = absurd i
into_map h e (d ∷ l) c (inl same) q = inl (sym q ∙ ap (does h) same)
into_map h e (d ∷ l) c (inr i) q = inr (into_map h e l c i q)

pub in_get : (l : List ℕ) (i x : ℕ) → slice_get l i ≡ Some x → IsIn x l
in_get [] i x e = absurd (cc)
in_get (y ∷ l) zero x e = inl (let q : y ≡ x = cc in sym q)
in_get (y ∷ l) (suc i) x e = inr (in_get l i x e)

stays_in : (x y : ℕ) (l : List ℕ) (i : ℕ) → IsIn x l → slice_get l i ≡ Some y → x ≢ y → IsIn x (remove l i)
stays_in x y [] i h e ne = absurd h
stays_in x y (z ∷ l) zero (inl q) e ne = absurd (ne (let s : z ≡ y = cc in q ∙ s))
stays_in x y (z ∷ l) zero (inr h) e ne = h
stays_in x y (z ∷ l) (suc i) (inl q) e ne = inl q
stays_in x y (z ∷ l) (suc i) (inr h) e ne = inr (stays_in x y l i h e ne)

was_in : (x : ℕ) (l : List ℕ) (i : ℕ) → IsIn x (remove l i) → IsIn x l
was_in x [] zero h = h
was_in x [] (suc i) h = h
was_in x (y ∷ l) zero h = inr h
was_in x (y ∷ l) (suc i) (inl e) = inl e
was_in x (y ∷ l) (suc i) (inr h) = inr (was_in x l i h)

-- an item that a call does not take stays
kept_by : (k x : ℕ) (items after : List ℕ) (e : Effect) → Leaves k items e after → IsIn x items → (Takes x ≡ e → ⊥)
    → IsIn x after
kept_by k x items after (Adds y) s h never = let P : List ℕ → Type 0 = λ w. IsIn x w in
    subst P (sym s) (in_left x items (y ∷ []) h)
kept_by k x items after (Takes y) s h never =
    let P : List ℕ → Type 0 = λ w. IsIn x w in
    subst P (sym s.3) (stays_in x y items s.0 h s.2 (λ q. never (ap (λ w. Takes w) q)))
kept_by k x items after FindsNone s h never = let P : List ℕ → Type 0 = λ w. IsIn x w in subst P (s.0 ∙ sym s.1) h
kept_by k x items after Refused s h never = let P : List ℕ → Type 0 = λ w. IsIn x w in subst P (sym s) h
kept_by k x items after Wrong s h never = absurd s

pub kept_along : (k x : ℕ) (items after : List ℕ) (es : List Effect) → RunsTo k items es after → IsIn x items
    → (Has (Takes x) es → ⊥)
    → IsIn x after
kept_along k x items after [] r h never = let P : List ℕ → Type 0 = λ w. IsIn x w in subst P r h
kept_along k x items after (e ∷ es) r h never =
    kept_along k x r.0 after es r.2 (kept_by k x items r.0 e r.1 h (λ q. never (inl q))) (λ i. never (inr i))

added_by : (k x : ℕ) (items after : List ℕ) (e : Effect) → Leaves k items e after → Adds x ≡ e → IsIn x after
added_by k x items after e s q =
    let P : Effect → Type 0 = λ w. Leaves k items w after in
    let t = subst P (sym q) s in
    let Q : List ℕ → Type 0 = λ w. IsIn x w in
    subst Q (sym t) (in_right x items (x ∷ []) (inl refl))

-- an item that is added and not taken is there
pub put_along : (k x : ℕ) (items after : List ℕ) (es : List Effect) → RunsTo k items es after → Has (Adds x) es
    → (Has (Takes x) es → ⊥)
    → IsIn x after
put_along k x items after [] r h never = absurd h
put_along k x items after (e ∷ es) r (inl q) never = kept_along k x r.0 after es r.2 (added_by k x items r.0 e r.1 q)
    (λ i. never (inr i))
put_along k x items after (e ∷ es) r (inr h) never = put_along k x r.0 after es r.2 h (λ i. never (inr i))

was_by : (k x : ℕ) (items after : List ℕ) (e : Effect) → Leaves k items e after → IsIn x after → IsIn x items
    ⊎ (Adds x ≡ e)
was_by k x items after (Adds y) s h =
    let P : List ℕ → Type 0 = λ w. IsIn x w in
    elim (in_append x items (y ∷ []) (subst P s h))
    [ inl i ↦ inl i | inr i ↦ elim i [ inl q ↦ inr (ap (λ w. Adds w) q) | inr never ↦ absurd never ] ]
was_by k x items after (Takes y) s h = let P : List ℕ → Type 0 = λ w. IsIn x w in
    inl (was_in x items s.0 (subst P s.3 h))
was_by k x items after FindsNone s h = let P : List ℕ → Type 0 = λ w. IsIn x w in inl (subst P (s.1 ∙ sym s.0) h)
was_by k x items after Refused s h = let P : List ℕ → Type 0 = λ w. IsIn x w in inl (subst P s h)
was_by k x items after Wrong s h = absurd s

-- an item that is there was there or was added
pub came_along : (k x : ℕ) (items after : List ℕ) (es : List Effect) → RunsTo k items es after → IsIn x after
    → IsIn x items
    ⊎ Has (Adds x) es
came_along k x items after [] r h = inl (let P : List ℕ → Type 0 = λ w. IsIn x w in subst P (sym r) h)
came_along k x items after (e ∷ es) r h =
    elim (came_along k x r.0 after es r.2 h) [
      | inl i ↦ elim (was_by k x items r.0 e r.1 i) [ inl j ↦ inl j | inr q ↦ inr (inl q) ]
      | inr i ↦ inr (inr i)
    ]

-- ---- items before another one

-- y stands in the list, and what stands before it was there before, with each item that is kept
pub record IsBehind (y : ℕ) (front after : List ℕ) (Goes : ℕ → Type 0) : Type 0 where
  pub before : List ℕ
  pub behind : List ℕ
  pub is : after ≡ before ++ y ∷ behind
  pub was : (x : ℕ) → IsIn x before → IsIn x front
  pub kept : (x : ℕ) → IsIn x front → (Goes x → ⊥) → IsIn x before

remove_round : (y z : ℕ) (front back : List ℕ) (i : ℕ) → slice_get (front ++ y ∷ back) i ≡ Some z → (y ≡ z → ⊥)
    → IsBehind y front (remove (front ++ y ∷ back) i) (λ x. x ≡ z)
remove_round y z [] back zero e ne = absurd (ne (cc))
remove_round y z [] back (suc i) e ne = record {
  before = [];
  behind = remove back i;
  is = refl;
  was = λ x h. h;
  kept = λ x h never. h;
}
remove_round y z (a ∷ front) back zero e ne =
    record {
      before = front;
      behind = back;
      is = refl;
      was = λ x h. inr h;
      kept = λ x h never. elim h [ inl q ↦ absurd (never (let s : a ≡ z = cc in q ∙ s)) | inr j ↦ j ];
    }
remove_round y z (a ∷ front) back (suc i) e ne =
    let on = remove_round y z front back i e ne in
    record {
      before = a ∷ on.before;
      behind = on.behind;
      is = ap (λ t. a ∷ t) on.is;
      was = λ x h. elim h [ inl q ↦ inl q | inr j ↦ inr (on.was x j) ];
      kept = λ x h never. elim h [ inl q ↦ inl q | inr j ↦ inr (on.kept x j never) ];
    }

behind_by : (k y : ℕ) (front back after : List ℕ) (e : Effect) → Leaves k (front ++ y ∷ back) e after
    → (Takes y ≡ e → ⊥)
    → IsBehind y front after (λ x. Takes x ≡ e)
behind_by k y front back after (Adds z) s never =
    record {
      before = front;
      behind = back ++ z ∷ [];
      is = s ∙ append_assoc front (y ∷ back) (z ∷ []);
      was = λ x h. h;
      kept = λ x h n. h;
    }
behind_by k y front back after (Takes z) s never =
    let r = remove_round y z front back s.0 s.2 (λ q. never (ap (λ w. Takes w) q)) in
    record {
      before = r.before;
      behind = r.behind;
      is = s.3 ∙ r.is;
      was = r.was;
      kept = λ x h n. r.kept x h (λ q. n (ap (λ w. Takes w) q));
    }
behind_by k y front back after FindsNone s never =
    record { before = front; behind = back; is = s.1 ∙ sym s.0; was = λ x h. h; kept = λ x h n. h }
behind_by k y front back after Refused s never = record {
  before = front;
  behind = back;
  is = s;
  was = λ x h. h;
  kept = λ x h n. h;
}
behind_by k y front back after Wrong s never = absurd s

-- where y is not taken, what is older than it stays before it
pub behind_along : (k y : ℕ) (front back items after : List ℕ) (es : List Effect) → items ≡ front ++ y ∷ back
    → RunsTo k items es after
    → (Has (Takes y) es → ⊥) → IsBehind y front after (λ x. Has (Takes x) es)
behind_along k y front back items after [] is r never =
    record { before = front; behind = back; is = sym r ∙ is; was = λ x h. h; kept = λ x h n. h }
behind_along k y front back items after (e ∷ es) is r never =
    let P : List ℕ → Type 0 = λ w. Leaves k w e r.0 in
    let one = behind_by k y front back r.0 e (subst P is r.1) (λ q. never (inl q)) in
    let on = behind_along k y one.before one.behind r.0 after es one.is r.2 (λ i. never (inr i)) in
    record {
      before = on.before;
      behind = on.behind;
      is = on.is;
      was = λ x h. one.was x (on.was x h);
      kept = λ x h n. on.kept x (one.kept x h (λ q. n (inl q))) (λ i. n (inr i));
    }

-- the place of an item that does not stand before
pub place_behind : (y : ℕ) (front back : List ℕ) (i : ℕ) → (IsIn y front → ⊥) → slice_get (front ++ y ∷ back) i ≡ Some y
    → length front ≤ i
place_behind y [] back i never e = omega arith
place_behind y (a ∷ front) back zero never e = absurd (never (inl (let q : a ≡ y = cc in sym q)))
place_behind y (a ∷ front) back (suc i) never e = let le = place_behind y front back i (λ h. never (inr h)) e in
    omega (arith, le)

-- ---- how often an item comes and goes

-- how often an effect of a list passes a test
abbrev pub times : (Effect → Bool) → List Effect → ℕ
times t [] = 0
times t (e ∷ es) = cond (t e) 1 0 + times t es

-- how often an item stands in a list
abbrev pub copies : ℕ → List ℕ → ℕ
copies x [] = 0
copies x (y ∷ l) = cond (eqb x y) 1 0 + copies x l

pub copies_push : (x y : ℕ) (l : List ℕ) → copies x (l ++ y ∷ []) ≡ copies x l + cond (eqb x y) 1 0
copies_push x y [] = omega arith
copies_push x y (z ∷ l) = let on = copies_push x y l in omega (arith, on)

pub copies_remove : (x y : ℕ) (l : List ℕ) (i : ℕ) → slice_get l i ≡ Some y
    → copies x l ≡ cond (eqb x y) 1 0 + copies x (remove l i)
copies_remove x y [] i e = absurd (cc)
copies_remove x y (z ∷ l) zero e = let q : z ≡ y = cc in ap (λ w. cond (eqb x w) 1 0 + copies x l) q
copies_remove x y (z ∷ l) (suc i) e = let on = copies_remove x y l i e in omega (arith, on)

-- no item is taken more often than it is there or is added
pub taken_as_often : (k x : ℕ) (items : List ℕ) (es : List Effect) → IsRun k items es
    → times (takes x) es ≤ copies x items + times (adds x) es
taken_as_often k x items [] r = omega arith
taken_as_often k x items (Adds y ∷ es) r =
    let on = taken_as_often k x r.0 es r.2 in
    let e = ap (copies x) r.1 ∙ copies_push x y items in
    omega (arith, on, e)
taken_as_often k x items (Takes y ∷ es) r =
    let on = taken_as_often k x r.0 es r.2 in
    let s = r.1 in
    let e = copies_remove x y items s.0 s.2 in
    let a = ap (copies x) s.3 in
    omega (arith, on, e, a)
taken_as_often k x items (FindsNone ∷ es) r =
    let on = taken_as_often k x r.0 es r.2 in
    let a = ap (copies x) (r.1.1 ∙ sym r.1.0) in
    omega (arith, on, a)
taken_as_often k x items (Refused ∷ es) r =
    let on = taken_as_often k x r.0 es r.2 in
    let a = ap (copies x) r.1 in
    omega (arith, on, a)
taken_as_often k x items (Wrong ∷ es) r = absurd r.1
