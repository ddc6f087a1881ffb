-- Where equal items may go, taking the first of them is as good as any choice.
use Rattle.std.proofs.Common.{ℕ, zero, suc, ◌≡◌, ◌+◌, ◌<◌, ◌≤◌, ◌⊎◌, Bool, true, false, cond, ◌&&◌, eqb, ltb, List, []}
use Rattle.std.proofs.Common.{◌∷◌, ◌++◌, length, refl, sym, ◌∙◌, ap, subst, inl, inr, arith, add-one, Option, Some}
use Rattle.std.proofs.Common.{None, slice_get}
use Rattle.std.specs.List.{remove}
use Rattle.std.proofs.lemmas.Bool.{cases_eq, cases_lt, cases_order, cond-true, cond-false, eq-eqb, ne_eqb, and_parts}
use Rattle.std.proofs.lemmas.Bool.{and_from, ltb-true, lt-ltb}
use Rattle.std.proofs.lemmas.List.Edits.{remove-append_left}
use Rattle.kfifo_model.specs.Lists.{place}
use Rattle.kfifo_model.proofs.Types.{Effect}
use Rattle.kfifo_model.specs.declared.effects.Effect.TheVariants.{Adds, Takes, FindsNone, Refused, Wrong}
use Rattle.kfifo_model.specs.Relaxed.{Leaves, IsRun, next}

remove_nil : (i : ℕ) → remove {X = ℕ} [] i ≡ []
remove_nil zero = refl
remove_nil (suc i) = refl

twice_nil : (i j : ℕ) → remove {X = ℕ} (remove [] i) j ≡ []
twice_nil i j = ap (λ (t : List ℕ). remove t j) (remove_nil i) ∙ remove_nil j

get_nil : (i j : ℕ) → slice_get {X = ℕ} (remove [] i) j ≡ None
get_nil i j = ap (λ (t : List ℕ). slice_get t j) (remove_nil i)

-- two removals in either order: here i ≤ j
pub remove_swap : (l : List ℕ) (i j : ℕ) → i ≤ j → remove (remove l i) j ≡ remove (remove l (suc j)) i
remove_swap [] i j h = twice_nil i j ∙ sym (twice_nil (suc j) i)
remove_swap (x ∷ l) zero j h = refl
remove_swap (x ∷ l) (suc i) zero h = absurd (omega arith)
remove_swap (x ∷ l) (suc i) (suc j) h = ap (λ t. x ∷ t) (remove_swap l i j (omega arith))

get_after : (l : List ℕ) (i j : ℕ) → i ≤ j → slice_get (remove l i) j ≡ slice_get l (suc j)
get_after [] i j h = get_nil i j
get_after (x ∷ l) zero j h = refl
get_after (x ∷ l) (suc i) zero h = absurd (omega arith)
get_after (x ∷ l) (suc i) (suc j) h = get_after l i j (omega arith)

get_before : (l : List ℕ) (i j : ℕ) → j < i → slice_get (remove l i) j ≡ slice_get l j
get_before [] i j h = get_nil i j
get_before (x ∷ l) zero j h = absurd (omega arith)
get_before (x ∷ l) (suc i) zero h = refl
get_before (x ∷ l) (suc i) (suc j) h = get_before l i j (omega arith)

-- after takes x out of before, at a place below k
abbrev Out : ℕ → List ℕ → ℕ → List ℕ → Type 0
Out k before x after = (i : ℕ) × (i < k) × (slice_get before i ≡ Some x) × (after ≡ remove before i)

same_some : (o : Option ℕ) (x y : ℕ) → o ≡ Some x → o ≡ Some y → x ≡ y
same_some o x y p q = cc

-- x at i and v at a later place suc j: taken in either order, each is within k
later_first : (k : ℕ) (l d e : List ℕ) (x v i j : ℕ) → i ≤ j → suc j < k → slice_get l i ≡ Some x
    → slice_get l (suc j) ≡ Some v
    → d ≡ remove l i → e ≡ remove l (suc j) → (c : List ℕ) × (j' : ℕ) × (suc j' < k) × (slice_get d j' ≡ Some v)
    × (c ≡ remove d j')
    × Out k e x c
later_first k l d e x v i j le lt gx gv dd ee = (
  remove d j,
  j,
  lt,
  ap (λ t. slice_get t j) dd ∙ get_after l i j le ∙ gv,
  refl,
  (
    i,
    omega arith,
    ap (λ t. slice_get t i) ee ∙ get_before l (suc j) i (omega arith) ∙ gx,
    ap (λ t. remove t j) dd ∙ remove_swap l i j le ∙ ap (λ t. remove t i) (sym ee),
  ),
)

-- x at suc i and v at an earlier place j
earlier_first : (k : ℕ) (l d e : List ℕ) (x v i j : ℕ) → j ≤ i → suc i < k → slice_get l (suc i) ≡ Some x
    → slice_get l j ≡ Some v
    → d ≡ remove l (suc i) → e ≡ remove l j → (c : List ℕ) × (j' : ℕ) × (suc j' < k) × (slice_get d j' ≡ Some v)
    × (c ≡ remove d j')
    × Out k e x c
earlier_first k l d e x v i j le lt gx gv dd ee = (
  remove d j,
  j,
  omega arith,
  ap (λ t. slice_get t j) dd ∙ get_before l (suc i) j (omega arith) ∙ gv,
  refl,
  (
    i,
    omega arith,
    ap (λ t. slice_get t i) ee ∙ get_after l j i le ∙ gx,
    ap (λ t. remove t j) dd ∙ sym (remove_swap l j i le) ∙ ap (λ t. remove t i) (sym ee),
  ),
)

swapped_below : (k : ℕ) (g d c : List ℕ) (x v j i : ℕ) → j < i → i < k → slice_get g i ≡ Some x → d ≡ remove g i
    → suc j < k
    → slice_get d j ≡ Some v → c ≡ remove d j → (f : List ℕ) × Out k g v f × Out k f x c
swapped_below k g d c x v j zero h ik gx dd lt gv e = absurd (omega arith)
swapped_below k g d c x v j (suc i) h ik gx dd lt gv e = (
  remove g j,
  (j, omega arith, sym (get_before g (suc i) j h) ∙ ap (λ t. slice_get t j) (sym dd) ∙ gv, refl),
  (
    i,
    omega arith,
    get_after g j i (omega arith) ∙ gx,
    e ∙ ap (λ t. remove t j) dd
        ∙ sym (remove_swap g j i (omega arith)),
  ),
)

-- v at j of d, which took x out of g: g takes v out as well, and then x
swapped : (k : ℕ) (g d c : List ℕ) (x v j : ℕ) → Out k g x d → suc j < k → slice_get d j ≡ Some v → c ≡ remove d j
    → (f : List ℕ)
    × Out k g v f × Out k f x c
swapped k g d c x v j o lt gv ce =
    elim (cases_lt j o.0) [
      | inl below ↦ swapped_below k g d c x v j o.0 below o.1 o.2 o.3 lt gv ce
      | inr above ↦ (
        remove g (suc j),
        (suc j, lt, sym (get_after g o.0 j above) ∙ ap (λ t. slice_get t j) (sym o.3) ∙ gv, refl),
        (
          o.0,
          o.1,
          get_before g (suc j) o.0 (omega arith) ∙ o.2,
          ce ∙ ap (λ t. remove t j) o.3 ∙ remove_swap g o.0 j
              above,
        ),
      )
    ]

-- Lists from which the same item can go, which leaves one list.
abbrev Meet : ℕ → List ℕ → List ℕ → Type 0
Meet k g o = (x : ℕ) × (d : List ℕ) × Out k g x d × Out k o x d

abbrev Alike : ℕ → List ℕ → List ℕ → Type 0
Alike k g o = (g ≡ o) ⊎ Meet k g o

get_append : (l : List ℕ) (i x y : ℕ) → slice_get l i ≡ Some x → slice_get (l ++ y ∷ []) i ≡ Some x
get_append [] i x y h = cc
get_append (z ∷ l) zero x y h = h
get_append (z ∷ l) (suc i) x y h = get_append l i x y h

get_inside : (l : List ℕ) (i x : ℕ) → slice_get l i ≡ Some x → i < length l
get_inside [] i x h = cc
get_inside (z ∷ l) zero x h = omega arith
get_inside (z ∷ l) (suc i) x h = let r = get_inside l i x h in omega arith

out_append : (k : ℕ) (l d : List ℕ) (x y : ℕ) → Out k l x d → Out k (l ++ y ∷ []) x (d ++ y ∷ [])
out_append k l d x y o = (
  o.0,
  o.1,
  get_append l o.0 x y o.2,
  ap (λ t. t ++ y ∷ []) o.3 ∙ sym (remove-append_left l (y ∷ []) o.0 (get_inside l o.0 x o.2)),
)

out_none : (k : ℕ) (l d : List ℕ) (x : ℕ) → Out k l x d → l ≡ [] → ⊥
out_none k l d x o e = let i = get_inside l o.0 x o.2 in let z : length l ≡ 0 = ap length e in omega arith

-- One legal step from o has its like from g.
pub record Like (k : ℕ) (g : List ℕ) (e : Effect) (after : List ℕ) : Type 0 where
  pub to : List ℕ
  pub step : Leaves k g e to
  pub alike : Alike k to after

-- x at i and v at j of o
like_apart : (k : ℕ) (g o d after : List ℕ) (x v : ℕ) → Out k g x d → (c : List ℕ) × (j : ℕ) × (suc j < k)
    × (slice_get d j ≡ Some v)
    × (c ≡ remove d j) × Out k after x c → Like k g (Takes v) after
like_apart k g o d after x v og p =
    let s = swapped k g d p.0 x v p.1 og p.2 p.3 p.4 in
    record { to = s.0; step = s.1; alike = inr (x, p.0, s.2, p.5) }

like_taken : (k : ℕ) (g o d after : List ℕ) (x v i j : ℕ) → Out k g x d → i < k → slice_get o i ≡ Some x
    → d ≡ remove o i → j < k
    → slice_get o j ≡ Some v → after ≡ remove o j → (i ≡ j) ⊎ ((i < j) ⊎ (j < i)) → Like k g (Takes v) after
like_taken k g o d after x v i j og ik gx dd jk gv e (inl q) =
    let same : x ≡ v = same_some (slice_get o j) x v (ap (slice_get o) (sym q) ∙ gx) gv in
    let there : d ≡ after = dd ∙ ap (remove o) q ∙ sym e in
    record { to = d; step = (og.0, og.1, og.2 ∙ ap (λ z. Some z) same, og.3); alike = inl there }
like_taken k g o d after x v i zero og ik gx dd jk gv e (inr (inl lt)) = absurd (omega arith)
like_taken k g o d after x v i (suc j) og ik gx dd jk gv e (inr (inl lt)) =
    like_apart k g o d after x v og (later_first k o d after x v i j (omega arith) jk gx gv dd e)
like_taken k g o d after x v zero j og ik gx dd jk gv e (inr (inr lt)) = absurd (omega arith)
like_taken k g o d after x v (suc i) j og ik gx dd jk gv e (inr (inr lt)) =
    like_apart k g o d after x v og (earlier_first k o d after x v i j (omega arith) ik gx gv dd e)

like : (k : ℕ) (g o after : List ℕ) (e : Effect) → Meet k g o → Leaves k o e after → Like k g e after
like k g o after (Adds y) m l =
    record {
      to = g ++ y ∷ [];
      step = refl;
      alike = inr (
        m.0,
        m.1 ++ y ∷ [],
        out_append k g m.1 m.0 y m.2,
        (let P : List ℕ → Type 0 = λ t. Out k t m.0 (m.1 ++ y ∷ []) in subst P (sym l) (out_append k o m.1 m.0 y m.3)),
      );
    }
like k g o after (Takes v) m l =
    let om : Out k o m.0 m.1 = m.3 in
    like_taken k g o m.1 after m.0 v om.0 l.0 m.2 om.1 om.2 om.3 l.1 l.2 l.3 (cases_order om.0 l.0)
like k g o after FindsNone m l = absurd (out_none k o m.1 m.0 m.3 l.0)
like k g o after Refused m l =
    record {
      to = g;
      step = refl;
      alike = inr (m.0, m.1, m.2, (let P : List ℕ → Type 0 = λ t. Out k t m.0 m.1 in subst P (sym l) m.3));
    }
like k g o after Wrong m l = absurd l

-- what runs from o runs from what is alike
pub alike_runs : (k : ℕ) (es : List Effect) (g o : List ℕ) → Alike k g o → IsRun k o es → IsRun k g es
alike_runs k [] g o a r = tt
alike_runs k (e ∷ es) g o (inl q) r = let P : List ℕ → Type 0 = λ t. IsRun k t (e ∷ es) in subst P (sym q) r
alike_runs k (e ∷ es) g o (inr m) r =
    let s = like k g o r.0 e m r.1 in
    (s.to, s.step, alike_runs k es s.to r.0 s.alike r.2)

get_suc : (y : ℕ) (l : List ℕ) (x i : ℕ) → slice_get l i ≡ Some x → slice_get (y ∷ l) (i + 1) ≡ Some x
get_suc y l x i h = ap (slice_get (y ∷ l)) (add-one i) ∙ h

-- the place of the first x is below that of any other
pub place_least : (l : List ℕ) (x j : ℕ) → slice_get l j ≡ Some x → (place l x ≤ j) × (slice_get l (place l x) ≡ Some x)
place_least [] x j h = absurd (cc)
place_least (y ∷ l) x zero h =
    let e : y ≡ x = cc in
    let z = cond-true (eqb y x) 0 (place l x + 1) (eq-eqb y x e) in
    (omega arith, ap (slice_get (y ∷ l)) z ∙ h)
place_least (y ∷ l) x (suc j) h =
    elim (cases_eq y x) [
      | inl e ↦ (let z = cond-true (eqb y x) 0 (place l x + 1) (eq-eqb y x e) in
          (omega arith, ap (slice_get (y ∷ l)) z ∙ ap (λ t. Some t) e))
      | inr ne ↦ (let z = cond-false (eqb y x) 0 (place l x + 1) (ne_eqb y x ne) in let r = place_least l x j h in
          (omega arith, ap (slice_get (y ∷ l)) z ∙ get_suc y l x (place l x) r.1))
    ]

next_takes : (k : ℕ) (l : List ℕ) (x : ℕ) → place l x < k → place l x < length l
    → next k l (Takes x) ≡ Some (remove l (place l x))
next_takes k l x p q = cond-true (ltb (place l x) k && ltb (place l x) (length l)) (Some (remove l (place l x))) None
    (and_from (ltb (place l x) k) (ltb (place l x) (length l)) (lt-ltb (place l x) k p)
    (lt-ltb (place l x) (length l) q))

pub place_in : (l : List ℕ) (x : ℕ) → place l x < length l → slice_get l (place l x) ≡ Some x
place_in [] x h = absurd (omega arith)
place_in (y ∷ l) x h =
    elim (cases_eq y x) [
      | inl e ↦ (let z = cond-true (eqb y x) 0 (place l x + 1) (eq-eqb y x e) in ap (slice_get (y ∷ l)) z
          ∙ ap (λ t. Some t) e)
      | inr ne ↦ (let z = cond-false (eqb y x) 0 (place l x + 1) (ne_eqb y x ne) in ap (slice_get (y ∷ l)) z
          ∙ get_suc y l x (place l x) (place_in l x (omega arith)))
    ]

same_list : (o : Option (List ℕ)) (x y : List ℕ) → o ≡ Some x → o ≡ Some y → x ≡ y
same_list o x y p q = cc

takes_test : (k : ℕ) (l after : List ℕ) (x : ℕ) (b : Bool) → b ≡ (ltb (place l x) k && ltb (place l x) (length l))
    → cond b (Some (remove l (place l x))) None ≡ Some after → (place l x < k) × (place l x < length l)
    × (after ≡ remove l (place l x))
takes_test k l after x true q h =
    let p = and_parts (ltb (place l x) k) (ltb (place l x) (length l)) (sym q) in
    (ltb-true (place l x) k p.0, ltb-true (place l x) (length l) p.1, cc)
takes_test k l after x false q h = absurd (cc)

next_leaves : (k : ℕ) (l after : List ℕ) (e : Effect) → next k l e ≡ Some after → Leaves k l e after
next_leaves k l after (Adds x) h = cc
next_leaves k l after (Takes x) h =
    let t = takes_test k l after x (ltb (place l x) k && ltb (place l x) (length l)) refl h in
    (place l x, t.0, place_in l x t.1, t.2)
next_leaves k [] after FindsNone h = (refl, cc)
next_leaves k (y ∷ l) after FindsNone h = absurd (cc)
next_leaves k l after Refused h = cc
next_leaves k l after Wrong h = absurd (cc)

take_alike : (k : ℕ) (l o : List ℕ) (x i j : ℕ) → i ≤ j → j < k → slice_get l i ≡ Some x → slice_get l j ≡ Some x
    → o ≡ remove l j
    → Alike k (remove l i) o
take_alike k l o x i zero le jk gi gj e = let z : i ≡ 0 = omega arith in inl (ap (remove l) z ∙ sym e)
take_alike k l o x i (suc j) le jk gi gj e =
    elim (cases_lt j i) [
      | inl lt ↦ (let z : i ≡ suc j = omega arith in inl (ap (remove l) z ∙ sym e))
      | inr ge ↦ (let p = later_first k l (remove l i) o x x i j ge jk gi gj refl e in let jp : suc p.1
          < k = p.2 in inr (x, p.0, (p.1, omega arith, p.3, p.4), p.5))
    ]

-- the first item is as good as any
takes_first : (k : ℕ) (l o : List ℕ) (x : ℕ) → Leaves k l (Takes x) o
    → (next k l (Takes x) ≡ Some (remove l (place l x)))
    × Alike k (remove l (place l x)) o
takes_first k l o x s =
    let p = place_least l x s.0 s.2 in
    let jk : s.0 < k = s.1 in
    let le : place l x ≤ s.0 = p.0 in
    let within = get_inside l s.0 x s.2 in
    (next_takes k l x (omega arith) (omega arith), take_alike k l o x (place l x) s.0 p.0 s.1 p.1 s.2 s.3)

-- one step forward along the first choices
leaves_next : (k : ℕ) (l o : List ℕ) (e : Effect) → Leaves k l e o → (g : List ℕ) × (next k l e ≡ Some g) × Alike k g o
leaves_next k l o (Adds x) s = (l ++ x ∷ [], refl, inl (sym s))
leaves_next k l o (Takes x) s = let p = takes_first k l o x s in (remove l (place l x), p.0, p.1)
leaves_next k [] o FindsNone s = ([], refl, inl (sym s.1))
leaves_next k (y ∷ l) o FindsNone s = let bad : ⊥ = (let h = s.0 in cc) in absurd bad
leaves_next k l o Refused s = (l, refl, inl (sym s))
leaves_next k l o Wrong s = absurd s

-- a run goes on with the list that the first choices leave, and only so
pub run_on : (k : ℕ) (l after : List ℕ) (e : Effect) (es : List Effect) → next k l e ≡ Some after → IsRun k l (e ∷ es)
    → IsRun k after es
run_on k l after e es h r =
    let p = leaves_next k l r.0 e r.1 in
    let same : p.0 ≡ after = same_list (next k l e) p.0 after p.1 h in
    let P : List ℕ → Type 0 = λ t. IsRun k t es in
    subst P same (alike_runs k es p.0 r.0 p.2 r.2)

pub run_back : (k : ℕ) (l after : List ℕ) (e : Effect) (es : List Effect) → next k l e ≡ Some after → IsRun k after es
    → IsRun k l (e ∷ es)
run_back k l after e es h r = (after, next_leaves k l after e h, r)

pub no_run : (k : ℕ) (l : List ℕ) (e : Effect) (es : List Effect) → next k l e ≡ None → IsRun k l (e ∷ es) → ⊥
no_run k l e es h r = let p = leaves_next k l r.0 e r.1 in let q : next k l e ≡ Some p.0 = p.1 in cc
