-- The first steps of a history's calls rise with their numbers.
use Rattle.std.proofs.Common.{ℕ, zero, suc, ◌≡◌, ◌+◌, ◌<◌, ◌≤◌, true, false, leb, List, length, sym, ap, subst, inl}
use Rattle.std.proofs.Common.{inr, arith, Option, Some, None}
use Rattle.std.specs.List.{AllWithin}
use Rattle.std.specs.List.Sorted.{IsNonDecreasingBy, IsPartitionPoint}
use Rattle.std.proofs.lemmas.Bool.{cases_lt, leb-true, leb-false}
use Rattle.std.proofs.lemmas.List.{get_or_default}
use Rattle.kfifo_verdict.proofs.Types.{Call, End}
use Rattle.kfifo_model.specs.Histories.{call, no_call, EndsBelow, Precedes}
use Rattle.kfifo_model.specs.Validity.{IsHistory, EndsFrom}
use Rattle.kfifo_verdict.specs.Finding.{first_of, IsStart}

pub rising : (h : List Call) (i j : ℕ) → IsHistory h → i < j → j < length h → first_of h i < first_of h j
rising h i zero v lt inside = absurd (omega arith)
rising h i (suc j) v lt inside =
    let here : j < length h = omega arith in
    let step = (v (suc j) inside).rises j (let e : j + 1 ≡ suc j = omega arith in e) in
    elim (cases_lt i j) [
      | inl below ↦ (let on = rising h i j v below here in omega (arith, on, step))
      | inr le ↦ (let same : i ≡ j = omega arith in let P : ℕ → Type 0 =
          λ w. first_of h w < first_of h (suc j) in subst P (sym same) step)
    ]

pub not_falling : (h : List Call) (i j : ℕ) → IsHistory h → i ≤ j → j < length h → first_of h i ≤ first_of h j
not_falling h i j v le inside =
    elim (cases_lt i j) [
      | inl lt ↦ (let r = rising h i j v lt inside in omega (arith, r))
      | inr ge ↦ (let same : i ≡ j = omega arith in let e = ap (first_of h) same in omega (arith, e))
    ]

-- of two calls the one that begins first has the lesser number
pub sooner : (h : List Call) (i j : ℕ) → IsHistory h → i < length h → first_of h i < first_of h j → i < j
sooner h i j v inside lt =
    elim (cases_lt i j) [
      | inl below ↦ below
      | inr le ↦ (let r = not_falling h j i v le inside in absurd (omega (arith, r, lt)))
    ]

pub ends_later : (o : Option End) (a b : ℕ) → a ≤ b → EndsBelow o a → EndsBelow o b
ends_later (Some end) a b le l = omega arith
ends_later None a b le l = l

-- a moment that a call reaches is below one that it does not
pub reached : (o : Option End) (a b : ℕ) → EndsFrom a o → EndsBelow o b → a < b
reached (Some end) a b f l = omega arith
reached None a b f l = absurd l

-- a call that precedes another has the lesser number
pub precedes_below : (h : List Call) (c d : ℕ) → IsHistory h → c < length h → Precedes h c d → c < d
precedes_below h c d v inside p =
    sooner h c d v inside (reached (call h c).end (first_of h c) (first_of h d) (v c inside).ends p)

pub by_first : (h : List Call) → IsHistory h → IsNonDecreasingBy (λ c. c.first) h
by_first h v i j d le inside =
    let a = ap (λ w. w.first) (get_or_default h i d no_call (let lt : i < length h = omega arith in lt)) in
    let b = ap (λ w. w.first) (get_or_default h j d no_call inside) in
    let r = not_falling h i j v le inside in
    omega (arith, a, b, r)

-- the calls up to one that begins by a step begin by it
pub begun_to : (h : List Call) (n step : ℕ) → IsHistory h → n < length h → first_of h n ≤ step
    → AllWithin (λ (c : Call). c.first ≤ step) h 0 (n + 1)
begun_to h n step v inside begun k d low lt =
    let e = ap (λ (c : Call). c.first) (get_or_default h k d no_call (omega (arith, lt, inside))) in
    let r = not_falling h k n v (omega (arith, lt)) inside in
    omega (arith, e, r, begun)

-- the first call that begins after a step
pub up_to_here : (h : List Call) (i step : ℕ) → IsHistory h → i < length h
    → AllWithin (λ (c : Call). c.first ≤ step) h 0 i
    → step < first_of h i → IsPartitionPoint (λ (c : Call). c.first ≤ step) (λ (c : Call). step < c.first) h i
up_to_here h i step v inside begun after = (
  begun,
  λ k d le lt.
      let e = ap (λ (c : Call). c.first) (get_or_default h k d no_call lt) in
      let r = not_falling h i k v le lt in
      omega (arith, e, r, after),
)

pub up_to_point : (h : List Call) (step i : ℕ)
    → IsPartitionPoint (λ (c : Call). leb c.first step ≡ true) (λ (c : Call). leb c.first step ≡ false) h i
    → IsPartitionPoint (λ (c : Call). c.first ≤ step) (λ (c : Call). step < c.first) h i
up_to_point h step i p = (λ k d a b. leb-true _ _ (p.0 k d a b), λ k d a b. leb-false _ _ (p.1 k d a b))

pub start_found : (h : List Call) (end : End) (i : ℕ) → i ≤ length h
    → IsPartitionPoint (λ (c : Call). c.first ≤ end.last) (λ (c : Call). end.last < c.first) h i
    → IsStart h (Some end) i
start_found h end i le p = record {
  bound = le;
  starts = λ d inside. (
    λ lt. elim (cases_lt d i) [
      | inl below ↦ (let t = p.0 d no_call (omega arith) below in absurd (omega (arith, t, lt)))
      | inr ge ↦ ge
    ],
    λ ge. p.1 d no_call ge inside,
  );
}
