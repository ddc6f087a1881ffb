-- One more call of an order: the run so far goes on or breaks there, and it ends before no earlier one begins or does.
use Rattle.std.proofs.Common.{ℕ, ◌≡◌, ◌≢◌, ◌+◌, ◌<◌, ◌≤◌, ◌↔◌, ◌&&◌, ltb, List, [], ◌∷◌, ◌++◌, length, map, take}
use Rattle.std.proofs.Common.{get_or, refl, sym, ◌∙◌, ap, subst, inl, inr, arith, Option, Some, None, append_assoc}
use Rattle.std.specs.List.{remove}
use Rattle.std.proofs.lemmas.Bool.{cases_lt, cond-false, and_parts, ltb-true, false_from_ne_true}
use Rattle.std.proofs.lemmas.Option.{get_or_from_slice_get}
use Rattle.std.proofs.lemmas.List.{get_or_past, get_or_default, map_more, append-nil}
use Rattle.kfifo_model.proofs.Types.{Call, Effect, End}
use Rattle.kfifo_model.specs.declared.effects.Effect.TheVariants.{Takes}
use Rattle.kfifo_model.specs.Relaxed.{IsRun, next}
use Rattle.kfifo_model.specs.declared.orders.Tried.{Tried}
use Rattle.kfifo_model.specs.declared.orders.Tried.TheVariants.{NotLegal, Went, Took}
use Rattle.kfifo_model.specs.Lists.{place}
use Rattle.kfifo_model.specs.Verdicts.{IsTried}
use Rattle.kfifo_model.specs.Histories.{call, no_call, does, CanStand, EndsBelow, Precedes, HasOnlyCalls, KeepsBefore}
use Rattle.kfifo_model.proofs.Places.{each_place, pairs_place}
use Rattle.kfifo_model.proofs.Greedy.{run_on, run_back, no_run, place_in}

pub in_bounds : (h : List Call) (n : ℕ) → CanStand (call h n).end (call h n).op → n < length h
in_bounds h n s =
    elim (cases_lt n (length h)) [
      | inl lt ↦ lt
      | inr le ↦ (let P : Call → Type 0 = λ w. CanStand w.end w.op in absurd (subst P (get_or_past h n no_call le) s))
    ]

-- a number of an order is that of a call
pub at_bounds : (h : List Call) (order : List ℕ) (j : ℕ) → HasOnlyCalls h order → j < length order
    → get_or order j 0 < length h
at_bounds h order j p lt =
    in_bounds h (get_or order j 0) (each_place (λ c. CanStand (call h c).end (call h c).op) order j p lt)

pub read : (h : List Call) (n : ℕ) (d : Call) → n < length h → get_or h n d ≡ call h n
read h n d lt = get_or_default h n d no_call lt

-- the run so far, which goes on as one from the items
abbrev pub RunsAs : ℕ → List Call → List ℕ → ℕ → List ℕ → Type 0
RunsAs k h order p items = (es : List Effect) → IsRun k [] (map (does h) (take p order) ++ es) ↔ IsRun k items es

one_more : (h : List Call) (order : List ℕ) (p : ℕ) (es : List Effect) → p < length order
    → map (does h) (take (p + 1) order) ++ es ≡ map (does h) (take p order) ++ does h (get_or order p 0) ∷ es
one_more h order p es lt = ap (λ t. t ++ es) (map_more (does h) order p 0 lt)
    ∙ append_assoc (map (does h) (take p order)) (does h (get_or order p 0) ∷ []) es

pub goes_on : (k : ℕ) (h : List Call) (order : List ℕ) (p : ℕ) (items after : List ℕ) → p < length order
    → RunsAs k h order p items
    → next k items (does h (get_or order p 0)) ≡ Some after → RunsAs k h order (p + 1) after
goes_on k h order p items after lt r e es =
    let P : List Effect → Type 0 = λ t. IsRun k [] t ↔ IsRun k after es in
    let s = r (does h (get_or order p 0) ∷ es) in
    subst P (sym (one_more h order p es lt)) (
      λ a. run_on k items after (does h (get_or order p 0)) es e (s.0 a),
      λ b. s.1 (run_back k items after (does h (get_or order p 0)) es e b),
    )

pub breaks_at : (k : ℕ) (h : List Call) (order : List ℕ) (p : ℕ) (items : List ℕ) → p < length order
    → RunsAs k h order p items
    → next k items (does h (get_or order p 0)) ≡ None → (p < length order) × IsRun k [] (map (does h) (take p order))
    × (IsRun k [] (map (does h) (take (p + 1) order)) → ⊥)
breaks_at k h order p items lt r e =
    let P : List Effect → Type 0 = λ t. IsRun k [] t in (
      lt,
      subst P (append-nil (map (does h) (take p order))) ((r []).1 tt),
      λ a. no_run k items (does h (get_or order p 0)) [] e
          ((r (does h (get_or order p 0) ∷ [])).0
          (subst P (sym (append-nil (map (does h) (take (p + 1) order))) ∙ one_more h order p [] lt) a)),
    )

pub runs_whole : (k : ℕ) (h : List Call) (order : List ℕ) (p : ℕ) (items : List ℕ) → take p order ≡ order
    → RunsAs k h order p items
    → IsRun k [] (map (does h) order)
runs_whole k h order p items e r =
    let P : List Effect → Type 0 = λ t. IsRun k [] t in
    subst P (append-nil (map (does h) (take p order)) ∙ ap (map (does h)) e) ((r []).1 tt)

-- a call that ends below the first step of one before it
pub breaks_before : (h : List Call) (order : List ℕ) (i j : ℕ) (end : End) → i < j → j < length order
    → (call h (get_or order j 0)).end ≡ Some end → end.last < (call h (get_or order i 0)).first
    → KeepsBefore h order → ⊥
breaks_before h order i j end lt lj e l keeps =
    let P : Option End → Type 0 = λ o. EndsBelow o (call h (get_or order i 0)).first in
    pairs_place (λ c d. Precedes h d c → ⊥) order i j keeps lt lj (subst P (sym e) l)

pub ends_at : (o : Option End) (end : End) (s : ℕ) → o ≡ Some end → EndsBelow o s → end.last < s
ends_at o end s e b = let P : Option End → Type 0 = λ o. EndsBelow o s in subst P e b

pub no_end : (o : Option End) (s : ℕ) → o ≡ None → EndsBelow o s → ⊥
no_end o s e b = let P : Option End → Type 0 = λ o. EndsBelow o s in subst P e b

-- one more call, which does not end below the first step of any before it
pub keeps_more : (h : List Call) (order : List ℕ) (n latest : ℕ)
    → ((i j : ℕ) → i < j → j < n → Precedes h (get_or order j 0) (get_or order i 0) → ⊥)
    → ((j : ℕ) → j < n → (call h (get_or order j 0)).first ≤ latest)
    → ((s : ℕ) → s ≤ latest → EndsBelow (call h (get_or order n 0)).end s → ⊥) → (i j : ℕ) → i < j → j < n + 1
    → Precedes h (get_or order j 0) (get_or order i 0) → ⊥
keeps_more h order n latest kept most safe i j lt lj b =
    elim (cases_lt j n) [
      | inl below ↦ kept i j lt below b
      | inr le ↦ (let e : j ≡ n = omega arith in let P : ℕ → Type 0 =
          λ w. Precedes h (get_or order w 0) (get_or order i 0) in
          safe (call h (get_or order i 0)).first (most i (omega arith)) (subst P e b))
    ]

pub most_more : (h : List Call) (order : List ℕ) (n latest now : ℕ)
    → ((j : ℕ) → j < n → (call h (get_or order j 0)).first ≤ latest)
    → latest ≤ now → (call h (get_or order n 0)).first ≤ now → (j : ℕ) → j < n + 1
    → (call h (get_or order j 0)).first ≤ now
most_more h order n latest now most up last j lj =
    elim (cases_lt j n) [
      | inl below ↦ (let m = most j below in omega arith)
      | inr le ↦ (let e : j ≡ n = omega arith in let P : ℕ → Type 0 =
          λ w. (call h (get_or order w 0)).first ≤ now in subst P (sym e) last)
    ]

pub safe_some : (o : Option End) (end : End) (latest s : ℕ) → o ≡ Some end → latest ≤ end.last → s ≤ latest
    → EndsBelow o s → ⊥
safe_some o end latest s e le sl b = let lt = ends_at o end s e b in omega arith

-- no such item among the first k
pub not_below : (k : ℕ) (items : List ℕ) (x : ℕ) → ((j : ℕ) → j < k → j < length items → get_or items j 0 ≡ x → ⊥)
    → next k items (Takes x) ≡ None
not_below k items x f =
    cond-false (ltb (place items x) k && ltb (place items x) (length items)) (Some (remove items (place items x))) None
    (false_from_ne_true _ (λ e. let p = and_parts (ltb (place items x) k) (ltb (place items x) (length items)) e in
    let lt = ltb-true (place items x) (length items) p.1 in
    f (place items x) (ltb-true (place items x) k p.0) lt
    (get_or_from_slice_get items (place items x) x 0 (place_in items x lt))))

-- a call that was tried and is not illegal went
pub tried_went : (k : ℕ) (before after : List ℕ) (e : Effect) (t : Tried) → IsTried k before after e t → t ≢ NotLegal
    → next k before e ≡ Some after
tried_went k before after e NotLegal i ne = absurd (ne refl)
tried_went k before after e Went i ne = i.0
tried_went k before after e (Took p) i ne = i.0
