-- Runs from lists that differ in items that nothing takes, runs without idle calls, and what a run can take.
use Rattle.std.proofs.Common.{ℕ, zero, suc, ◌≡◌, ◌<◌, ◌⊎◌, List, [], ◌∷◌, ◌++◌, length, get_or, refl, sym, ◌∙◌, ap}
use Rattle.std.proofs.Common.{subst, inl, inr, arith, Some, slice_get}
use Rattle.std.specs.List.{remove}
use Rattle.kfifo_model.specs.Lists.{IsIn}
use Rattle.kfifo_model.proofs.Types.{Effect}
use Rattle.kfifo_model.specs.declared.effects.Effect.TheVariants.{Adds, Takes, FindsNone, Refused, Wrong}
use Rattle.kfifo_model.specs.Relaxed.{Leaves, IsRun}
use Rattle.kfifo_model.specs.Searching.{IsIdle}

-- the effect is among the effects
abbrev pub Has : Effect → List Effect → Type 0
Has e [] = ⊥
Has e (f ∷ fs) = (e ≡ f) ⊎ Has e fs

-- the same item, or two of no worth
abbrev pub Good : (ℕ → Type 0) → ℕ → ℕ → Type 0
Good W x y = (x ≡ y) ⊎ ((W x → ⊥) × (W y → ⊥))

-- the lists are as good, place by place
abbrev pub Both : (ℕ → Type 0) → List ℕ → List ℕ → Type 0
Both W [] [] = Unit {0}
Both W [] (y ∷ m) = ⊥
Both W (x ∷ l) [] = ⊥
Both W (x ∷ l) (y ∷ m) = Good W x y × Both W l m

pub both_from_places : (W : ℕ → Type 0) (l m : List ℕ) → length m ≡ length l
    → ((i : ℕ) → i < length l → Good W (get_or l i 0) (get_or m i 0)) → Both W l m
both_from_places W [] [] e f = tt
both_from_places W [] (y ∷ m) e f = absurd (omega arith)
both_from_places W (x ∷ l) [] e f = absurd (omega arith)
both_from_places W (x ∷ l) (y ∷ m) e f =
    (f 0 (omega arith), both_from_places W l m (omega arith) (λ i h. f (suc i) (omega arith)))

good_flip : (W : ℕ → Type 0) (x y : ℕ) → Good W x y → Good W y x
good_flip W x y (inl e) = inl (sym e)
good_flip W x y (inr p) = inr (p.1, p.0)

pub both_flip : (W : ℕ → Type 0) (l m : List ℕ) → Both W l m → Both W m l
both_flip W [] [] b = tt
both_flip W [] (y ∷ m) b = b
both_flip W (x ∷ l) [] b = b
both_flip W (x ∷ l) (y ∷ m) b = (good_flip W x y b.0, both_flip W l m b.1)

both_push : (W : ℕ → Type 0) (l m : List ℕ) (x : ℕ) → Both W l m → Both W (l ++ x ∷ []) (m ++ x ∷ [])
both_push W [] [] x b = (inl refl, tt)
both_push W [] (y ∷ m) x b = absurd b
both_push W (z ∷ l) [] x b = absurd b
both_push W (z ∷ l) (y ∷ m) x b = (b.0, both_push W l m x b.1)

both_nil : (W : ℕ → Type 0) (m : List ℕ) → Both W [] m → m ≡ []
both_nil W [] b = refl
both_nil W (y ∷ m) b = absurd b

remove_nil : (i : ℕ) → remove {X = ℕ} [] i ≡ []
remove_nil zero = refl
remove_nil (suc i) = refl

both_remove : (W : ℕ → Type 0) (l m : List ℕ) (i : ℕ) → Both W l m → Both W (remove l i) (remove m i)
both_remove W [] [] zero b = tt
both_remove W [] [] (suc i) b = tt
both_remove W [] (y ∷ m) i b = absurd b
both_remove W (x ∷ l) [] i b = absurd b
both_remove W (x ∷ l) (y ∷ m) zero b = b.1
both_remove W (x ∷ l) (y ∷ m) (suc i) b = (b.0, both_remove W l m i b.1)

good_worth : (W : ℕ → Type 0) (x y : ℕ) → W x → Good W x y → y ≡ x
good_worth W x y w (inl e) = sym e
good_worth W x y w (inr p) = absurd (p.0 w)

both_get : (W : ℕ → Type 0) (l m : List ℕ) (i x : ℕ) → W x → Both W l m → slice_get l i ≡ Some x
    → slice_get m i ≡ Some x
both_get W [] [] i x w b e = absurd (cc)
both_get W [] (y ∷ m) i x w b e = absurd b
both_get W (z ∷ l) [] i x w b e = absurd b
both_get W (z ∷ l) (y ∷ m) zero x w b e =
    let same : z ≡ x = cc in
    let v = good_worth W z y (subst W (sym same) w) b.0 in
    ap (λ t. Some t) (v ∙ same)
both_get W (z ∷ l) (y ∷ m) (suc i) x w b e = both_get W l m i x w b.1 e

-- what runs from one list runs from one as good, where what is taken has worth
pub as_good_runs : (k : ℕ) (W : ℕ → Type 0) (es : List Effect) (l m : List ℕ) → ((x : ℕ) → Has (Takes x) es → W x)
    → Both W l m
    → IsRun k l es → IsRun k m es
as_good_runs k W [] l m f b r = tt
as_good_runs k W (Adds x ∷ es) l m f b r =
    let P : List ℕ → Type 0 = λ t. IsRun k t es in (
      m ++ x ∷ [],
      refl,
      as_good_runs k W es (l ++ x ∷ []) (m ++ x ∷ []) (λ y h. f y (inr h)) (both_push W l m x b)
          (subst P r.1 r.2),
    )
as_good_runs k W (Takes x ∷ es) l m f b r =
    let P : List ℕ → Type 0 = λ t. IsRun k t es in
    let s = r.1 in (
      remove m s.0,
      (s.0, s.1, both_get W l m s.0 x (f x (inl refl)) b s.2, refl),
      as_good_runs k W es (remove l s.0) (remove m s.0) (λ y h. f y (inr h)) (both_remove W l m s.0 b)
          (subst P s.3 r.2),
    )
as_good_runs k W (FindsNone ∷ es) l m f b r =
    let P : List ℕ → Type 0 = λ t. IsRun k t es in
    let B : List ℕ → Type 0 = λ t. Both W t m in
    let s = r.1 in
    let none = both_nil W m (subst B s.0 b) in
    ([], (none, refl), as_good_runs k W es [] [] (λ y h. f y (inr h)) tt (subst P s.1 r.2))
as_good_runs k W (Refused ∷ es) l m f b r =
    let P : List ℕ → Type 0 = λ t. IsRun k t es in
    (m, refl, as_good_runs k W es l m (λ y h. f y (inr h)) b (subst P r.1 r.2))
as_good_runs k W (Wrong ∷ es) l m f b r = absurd r.1

idle_same : (k : ℕ) (items after others : List ℕ) (e : Effect) → IsIdle others e → Leaves k items e after
    → after ≡ items
idle_same k items after others (Adds x) i s = absurd i
idle_same k items after others (Takes x) i s = absurd i
idle_same k items after others FindsNone i s = s.1 ∙ sym s.0
idle_same k items after others Refused i s = s
idle_same k items after others Wrong i s = absurd s

-- an idle call in a run may be left out
pub without_idle : (k : ℕ) (items others : List ℕ) (e : Effect) (es fs : List Effect) → IsIdle others e
    → IsRun k items (es ++ e ∷ fs)
    → IsRun k items (es ++ fs)
without_idle k items others e [] fs i r = let P : List ℕ → Type 0 = λ t. IsRun k t fs in
    subst P (idle_same k items r.0 others e i r.1) r.2
without_idle k items others e (d ∷ es) fs i r = (r.0, r.1, without_idle k r.0 others e es fs i r.2)

-- and may go first
pub idle_first : (k : ℕ) (items : List ℕ) (e : Effect) (es : List Effect) → IsIdle items e → IsRun k items es
    → IsRun k items (e ∷ es)
idle_first k items (Adds x) es i r = absurd i
idle_first k items (Takes x) es i r = absurd i
idle_first k [] FindsNone es i r = ([], (refl, refl), r)
idle_first k (x ∷ items) FindsNone es i r = absurd i
idle_first k items Refused es i r = (items, refl, r)
idle_first k items Wrong es i r = absurd i

in_get : (l : List ℕ) (i x : ℕ) → slice_get l i ≡ Some x → IsIn x l
in_get [] i x e = absurd (cc)
in_get (y ∷ l) zero x e = inl (let q : y ≡ x = cc in sym q)
in_get (y ∷ l) (suc i) x e = inr (in_get l i x e)

in_removed : (x : ℕ) (l : List ℕ) (i : ℕ) → IsIn x (remove l i) → IsIn x l
in_removed x [] zero h = h
in_removed x [] (suc i) h = h
in_removed x (y ∷ l) zero h = inr h
in_removed x (y ∷ l) (suc i) (inl e) = inl e
in_removed x (y ∷ l) (suc i) (inr h) = inr (in_removed x l i h)

in_pushed : (x y : ℕ) (l : List ℕ) → IsIn x (l ++ y ∷ []) → IsIn x l ⊎ (x ≡ y)
in_pushed x y [] (inl e) = inr e
in_pushed x y [] (inr h) = absurd h
in_pushed x y (z ∷ l) (inl e) = inl (inl e)
in_pushed x y (z ∷ l) (inr h) = elim (in_pushed x y l h) [ inl i ↦ inl (inr i) | inr e ↦ inr e ]

later : (x : ℕ) (e : Effect) (es : List Effect) (l : List ℕ) → IsIn x l ⊎ Has (Adds x) es
    → IsIn x l ⊎ Has (Adds x) (e ∷ es)
later x e es l (inl i) = inl i
later x e es l (inr h) = inr (inr h)

pushed_later : (x y : ℕ) (es : List Effect) (l : List ℕ) → IsIn x (l ++ y ∷ []) ⊎ Has (Adds x) es
    → IsIn x l ⊎ Has (Adds x) (Adds y ∷ es)
pushed_later x y es l (inl i) = elim (in_pushed x y l i) [ inl j ↦ inl j | inr e ↦ inr (inl (ap (λ t. Adds t) e)) ]
pushed_later x y es l (inr h) = inr (inr h)

removed_later : (x : ℕ) (e : Effect) (es : List Effect) (l : List ℕ) (i : ℕ) → IsIn x (remove l i) ⊎ Has (Adds x) es
    → IsIn x l
    ⊎ Has (Adds x) (e ∷ es)
removed_later x e es l i (inl h) = inl (in_removed x l i h)
removed_later x e es l i (inr h) = inr (inr h)

-- what a run takes is there or is added
pub taken_from : (k : ℕ) (x : ℕ) (es : List Effect) (l : List ℕ) → Has (Takes x) es → IsRun k l es
    → IsIn x l ⊎ Has (Adds x) es
taken_from k x [] l h r = absurd h
taken_from k x (Adds y ∷ es) l (inl e) r = absurd (cc)
taken_from k x (Adds y ∷ es) l (inr h) r = let P : List ℕ → Type 0 = λ t. IsRun k t es in
    pushed_later x y es l (taken_from k x es (l ++ y ∷ []) h (subst P r.1 r.2))
taken_from k x (Takes y ∷ es) l (inl e) r =
    inl (let s = r.1 in let q : x ≡ y = cc in in_get l s.0 x (s.2 ∙ ap (λ t. Some t) (sym q)))
taken_from k x (Takes y ∷ es) l (inr h) r =
    let P : List ℕ → Type 0 = λ t. IsRun k t es in
    let s = r.1 in
    removed_later x (Takes y) es l s.0 (taken_from k x es (remove l s.0) h (subst P s.3 r.2))
taken_from k x (FindsNone ∷ es) l (inl e) r = absurd (cc)
taken_from k x (FindsNone ∷ es) l (inr h) r = let P : List ℕ → Type 0 = λ t. IsRun k t es in let s = r.1 in
    later x FindsNone es l (taken_from k x es l h (subst P (s.1 ∙ sym s.0) r.2))
taken_from k x (Refused ∷ es) l (inl e) r = absurd (cc)
taken_from k x (Refused ∷ es) l (inr h) r = let P : List ℕ → Type 0 = λ t. IsRun k t es in
    later x Refused es l (taken_from k x es l h (subst P r.1 r.2))
taken_from k x (Wrong ∷ es) l h r = absurd r.1
