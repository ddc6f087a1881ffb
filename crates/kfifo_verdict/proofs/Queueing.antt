-- Triples of numbers in order, and calls by their turns.
use Rattle.std.proofs.Common.{◌≡◌, ◌≢◌, ℕ, zero, suc, ◌+◌, ◌-◌, ◌<◌, ◌≤◌, ◌⊎◌, inl, inr, false, eqb, refl, sym, ◌∙◌, ap}
use Rattle.std.proofs.Common.{subst, arith, List, length, get_or, map, Ordering, Less, Equal, Greater}
use Rattle.std.proofs.lemmas.Bool.{cases_eq, cases_lt, eq-eqb, ne_eqb, false≢true}
use Rattle.std.proofs.lemmas.List.{get_or-map, get_or_default, length-map}
use Rattle.std.proofs.lemmas.List.Sorted.{All-permutation, Contains-permutation, IsPermutation-map}
use Rattle.std.proofs.lemmas.Map.Keys.{IsDistinct-IsPermutation, IsDistinct-from_apart, apart_from_distinct}
use Rattle.std.specs.List.{All, Contains, IsDistinct}
use Rattle.std.specs.List.Sorted.{IsPermutation, IsSortedBy}
use Rattle.std.specs.Ordering.{is_lt, nat_cmp, ordering_then}
use Rattle.std.specs.Cmp.{nat_cmp_is}
use Rattle.kfifo_model.specs.Lists.{IsIn}
use Rattle.kfifo_model.proofs.Places.{in_from_place, in_place, pairs_from_places}
use Rattle.kfifo_verdict.proofs.Types.{Turn}
use Rattle.kfifo_verdict.specs.Plain.{lower, place, turn, AreNumbered, IsBefore, IsByTurns}

-- it is not higher
abbrev pub Lex : ℕ × ℕ × ℕ → ℕ × ℕ × ℕ → Type 0
Lex a b = (a.0 < b.0) ⊎ ((a.0 ≡ b.0) × ((a.1 < b.1) ⊎ ((a.1 ≡ b.1) × (a.2 ≤ b.2))))

-- the first numbers that differ decide
first_tells : (x y : ℕ) (o : Ordering) → is_lt (ordering_then (nat_cmp y x) o) ≡ false
    → (x < y) ⊎ ((x ≡ y) × (is_lt o ≡ false))
first_tells x y o e =
    elim (cases_lt x y) [
      | inl lt ↦ inl lt
      | inr ge ↦ elim (cases_lt y x) [
        | inl gt ↦ (
            let less : Less ≡ nat_cmp y x = nat_cmp_is y x Less gt in
            absurd (false≢true (sym e ∙ ap (λ w. is_lt (ordering_then w o)) (sym less)))
            )
        | inr le ↦ (
            let same : y ≡ x = omega (arith, ge, le) in
            let equal : Equal ≡ nat_cmp y x = nat_cmp_is y x Equal same in
            inr (sym same, ap (λ w. is_lt (ordering_then w o)) equal ∙ e)
            )
      ]
    ]

last_tells : (x y : ℕ) → is_lt (nat_cmp y x) ≡ false → x ≤ y
last_tells x y e = elim (cases_lt y x) [
  | inl lt ↦ absurd (false≢true (sym e ∙ ap is_lt (sym (nat_cmp_is y x Less lt))))
  | inr le ↦ le
]

then_then : (a b c : Ordering) → ordering_then (ordering_then a b) c ≡ ordering_then a (ordering_then b c)
then_then Less b c = refl
then_then Equal b c = refl
then_then Greater b c = refl

not_lower : (a b : ℕ × ℕ × ℕ) → lower b a ≡ false → Lex a b
not_lower a b e =
    elim (first_tells a.0 b.0 (ordering_then (nat_cmp b.1 a.1) (nat_cmp b.2 a.2))
    (sym (ap is_lt (then_then (nat_cmp b.0 a.0) (nat_cmp b.1 a.1) (nat_cmp b.2 a.2))) ∙ e)) [
      | inl lt ↦ inl lt
      | inr p ↦ inr (
        p.0,
        elim (first_tells a.1 b.1 (nat_cmp b.2 a.2) p.1) [
          | inl lt ↦ inl lt
          | inr q ↦ inr (q.0, last_tells a.2 b.2 q.1)
        ],
      )
    ]

lex_self : (a : ℕ × ℕ × ℕ) → Lex a a
lex_self a = inr (refl, inr (refl, omega arith))

lex_trans : (a b c : ℕ × ℕ × ℕ) → Lex a b → Lex b c → Lex a c
lex_trans a b c (inl p) (inl q) = inl (omega (arith, p, q))
lex_trans a b c (inl p) (inr q) = let e = q.0 in inl (omega (arith, p, e))
lex_trans a b c (inr p) (inl q) = let e = p.0 in inl (omega (arith, e, q))
lex_trans a b c (inr p) (inr q) = inr (p.0 ∙ q.0, second p.1 q.1)
  where
    second : (a.1 < b.1) ⊎ ((a.1 ≡ b.1) × (a.2 ≤ b.2)) → (b.1 < c.1) ⊎ ((b.1 ≡ c.1) × (b.2 ≤ c.2)) → (a.1 < c.1)
        ⊎ ((a.1 ≡ c.1) × (a.2 ≤ c.2))
    second (inl x) (inl y) = inl (omega (arith, x, y))
    second (inl x) (inr y) = let e = y.0 in inl (omega (arith, x, e))
    second (inr x) (inl y) = let e = x.0 in inl (omega (arith, e, y))
    second (inr x) (inr y) = let le = x.1 in let up = y.1 in inr (x.0 ∙ y.0, omega (arith, le, up))

rises_by : (line : List (ℕ × ℕ × ℕ)) → IsSortedBy lower line → (i m : ℕ) → i + m < length line
    → Lex (place line i) (place line (i + m))
rises_by line up i zero less = let z : i + 0 ≡ i = omega arith in let P : ℕ
    → Type 0 = λ w. Lex (place line i) (place line w) in
    subst P (sym z) (lex_self (place line i))
rises_by line up i (suc m) less =
    let before : Lex (place line i) (place line (i + m)) = rises_by line up i m (omega arith) in
    let next : Lex (place line (i + m)) (place line ((i + m) + 1)) =
    not_lower (place line (i + m)) (place line ((i + m) + 1)) (up (i + m) (0, 0, 0) (omega arith) (omega arith)) in
    let z : (i + m) + 1 ≡ i + suc m = omega arith in
    let P : ℕ → Type 0 = λ w. Lex (place line i) (place line w) in
    subst P z (lex_trans (place line i) (place line (i + m)) (place line ((i + m) + 1)) before next)

-- each is not higher than those behind it
pub line_rises : (line : List (ℕ × ℕ × ℕ)) → IsSortedBy lower line → (i j : ℕ) → i ≤ j → j < length line
    → Lex (place line i) (place line j)
line_rises line up i j le less =
    let z : i + (j - i) ≡ j = omega arith in
    let P : ℕ → Type 0 = λ w. Lex (place line i) (place line w) in
    subst P z (rises_by line up i (j - i) (omega arith))

-- ---- calls by their turns

abbrev pub numbers : List (ℕ × ℕ × ℕ) → List ℕ
numbers triples = map (λ t. t.2) triples

eqb-flips : (x y : ℕ) → eqb x y ≡ eqb y x
eqb-flips x y = elim (cases_eq x y) [
  | inl e ↦ eq-eqb x y e ∙ sym (eq-eqb y x (sym e))
  | inr ne ↦ ne_eqb x y ne ∙ sym (ne_eqb y x (λ e. ne (sym e)))
]

-- a triple of its call's turn
abbrev IsOwn : List Turn → ℕ × ℕ × ℕ → Type 0
IsOwn ts e = (e.2 < length ts) × (e ≡ ((turn ts e.2).moment, (turn ts e.2).rank, e.2))

contains_in : (l : List ℕ) (x : ℕ) → Contains l x → IsIn x l
contains_in l x c =
    subst (λ y. IsIn y l) c.2 (subst (λ y. IsIn y l) (get_or_default l c.0 0 x c.1) (in_from_place l c.0 c.1))

module _ (ts : List Turn) (first sorted : List (ℕ × ℕ × ℕ)) (n : AreNumbered ts (length ts) first)
    (moved : IsPermutation first sorted) (up : IsSortedBy lower sorted) where
  number_first : (i : ℕ) → i < length ts → (place first i).2 ≡ i
  number_first i lt = ap (λ (t : ℕ × ℕ × ℕ). t.2) (n.at i lt)

  own_first : All (IsOwn ts) first
  own_first i d lt =
      let size = n.sized in
      let inside : i < length ts = omega (arith, lt, size) in
      let P : ℕ × ℕ × ℕ → Type 0 = λ w. IsOwn ts w in
      let here : IsOwn ts ((turn ts i).moment, (turn ts i).rank, i) = (inside, refl) in
      subst P (sym (n.at i inside) ∙ get_or_default first i (0, 0, 0) d lt) here

  own : All (IsOwn ts) sorted
  own = All-permutation (IsOwn ts) first sorted moved own_first

  moved_numbers : IsPermutation (numbers first) (numbers sorted)
  moved_numbers = IsPermutation-map (λ (t : ℕ × ℕ × ℕ). t.2) first sorted moved

  number_at : (l : List (ℕ × ℕ × ℕ)) (i d : ℕ) → i < length l → get_or (numbers l) i d ≡ (place l i).2
  number_at l i d lt = get_or-map (λ (t : ℕ × ℕ × ℕ). t.2) l i (0, 0, 0) d lt

  long : (l : List (ℕ × ℕ × ℕ)) → length (numbers l) ≡ length l
  long l = length-map l (λ (t : ℕ × ℕ × ℕ). t.2)

  differ : IsDistinct eqb (numbers sorted)
  differ = IsDistinct-IsPermutation eqb eqb-flips (numbers first) (numbers sorted) moved_numbers
      (IsDistinct-from_apart eqb (numbers first) (λ i j d lt less.
      let size = n.sized in
      let all = long first in
      let in_j : j < length first = omega (arith, less, all) in
      let in_i : i < length first = omega (arith, in_j, lt) in
      let a : get_or (numbers first) i d ≡ i = number_at first i d in_i ∙ number_first i (omega (arith, in_i, size)) in
      let b : get_or (numbers first) j d ≡ j = number_at first j d in_j ∙ number_first j (omega (arith, in_j, size)) in
      ne_eqb (get_or (numbers first) i d) (get_or (numbers first) j d) (λ e. absurd (omega (arith, a, b, e, lt)))))

  apart : (i j : ℕ) → i < j → j < length (numbers sorted)
      → get_or (numbers sorted) i 0 ≡ get_or (numbers sorted) j 0 → ⊥
  apart i j lt less e = false≢true (sym (apart_from_distinct eqb (numbers sorted) i j 0 differ lt less)
      ∙ eq-eqb (get_or (numbers sorted) i 0) (get_or (numbers sorted) j 0) e)

  earlier : (i j : ℕ) → i < j → j < length (numbers sorted)
      → IsBefore ts (get_or (numbers sorted) i 0) (get_or (numbers sorted) j 0)
  earlier i j lt less =
      let all = long sorted in
      let in_j : j < length sorted = omega (arith, less, all) in
      let in_i : i < length sorted = omega (arith, in_j, lt) in
      let c = (place sorted i).2 in
      let d = (place sorted j).2 in
      let of_c = (own i (0, 0, 0) in_i).1 in
      let of_d = (own j (0, 0, 0) in_j).1 in
      let mc = ap (λ (t : ℕ × ℕ × ℕ). t.0) of_c in
      let md = ap (λ (t : ℕ × ℕ × ℕ). t.0) of_d in
      let rc = ap (λ (t : ℕ × ℕ × ℕ). t.1) of_c in
      let rd = ap (λ (t : ℕ × ℕ × ℕ). t.1) of_d in
      let nc = number_at sorted i 0 in_i in
      let nd = number_at sorted j 0 in_j in
      let ne : c ≢ d = λ e. apart i j lt less (nc ∙ e ∙ sym nd) in
      let here : IsBefore ts c d = elim (line_rises sorted up i j (omega arith) in_j) [
        | inl low ↦ inl (omega (arith, mc, md, low))
        | inr p ↦ (let e = p.0 in inr (
          omega (arith, mc, md, e),
          elim p.1 [
            | inl low ↦ inl (omega (arith, rc, rd, low))
            | inr q ↦ (let f = q.0 in let le = q.1 in inr (omega (arith, rc, rd, f), omega (arith, le, ne)))
          ],
        ))
      ] in
      let P : ℕ → ℕ → Type 0 = λ v w. IsBefore ts v w in
      subst (λ v. P v (get_or (numbers sorted) j 0)) (sym nc) (subst (λ w. P c w) (sym nd) here)

  pub sorted_by_turns : IsByTurns ts (numbers sorted)
  sorted_by_turns = record {
    sorted = pairs_from_places (IsBefore ts) (numbers sorted) earlier;
    inside = λ c i.
        let p = in_place c (numbers sorted) i in
        let all = long sorted in
        let inside = p.1 in
        let in_p : p.0 < length sorted = omega (arith, inside, all) in
        let o = (own p.0 (0, 0, 0) in_p).0 in
        let e = sym (number_at sorted p.0 0 in_p) ∙ p.2 in
        omega (arith, o, e);
    all = λ c lt.
        let size = n.sized in
        let all = long first in
        let in_c : c < length first = omega (arith, lt, size) in
        contains_in (numbers sorted) c (Contains-permutation (numbers first) (numbers sorted) c moved_numbers
        (c, omega (arith, in_c, all), number_at first c c in_c ∙ number_first c lt));
  }
