-- The calls that stand, sorted by point and number, are the order.
use Rattle.std.proofs.Common.{◌≡◌, ℕ, zero, suc, ◌+◌, ◌-◌, ◌<◌, ◌≤◌, ◌⊎◌, inl, inr, Bool, true, false, cond, eqb, refl}
use Rattle.std.proofs.Common.{sym, ◌∙◌, ap, subst, arith, List, [], ◌∷◌, ◌++◌, length, get_or, append-nil, map, Option}
use Rattle.std.proofs.Common.{Some, None, is_some}
use Rattle.std.proofs.lemmas.Bool.{cases_eq, cases_lt, eq-eqb, ne_eqb, false≢true}
use Rattle.std.proofs.lemmas.List.{get_or-map, get_or_default, get_or_past, length-map}
use Rattle.std.proofs.lemmas.Grind.{same_number_lists}
use Rattle.std.proofs.lemmas.List.Elements.{All-append, All-cons, All-nil}
use Rattle.std.proofs.lemmas.List.Sorted.{All-permutation, Contains-permutation, IsPermutation-map}
use Rattle.std.proofs.lemmas.Map.Keys.{IsDistinct-IsPermutation, IsDistinct-from_apart, apart_from_distinct}
use Rattle.std.proofs.lemmas.Option.{none-some, same_Some}
use Rattle.std.specs.List.{All, Contains, IsDistinct}
use Rattle.std.specs.List.Sorted.{IsPermutation, IsSortedBy}
use Rattle.std.specs.Ordering.{is_lt, nat_cmp, ordering_then}
use Rattle.std.specs.Cmp.{nat_cmp_is}
use Rattle.std.proofs.Common.{Less, Equal}
use Rattle.kfifo_linear.proofs.Types.{Event, Shape}
use Rattle.kfifo_model.specs.Lists.{IsIn, EachPair}
use Rattle.kfifo_model.proofs.Lists.{in_append, in_left, in_right, pairs_push}
use Rattle.kfifo_model.proofs.Places.{in_from_place, in_place, pairs_from_places, pairs_place}
use Rattle.kfifo_linear.specs.Ledger.{Gone, Inside, Ledger, Outside, Standing, Stood, Took}
use Rattle.kfifo_linear.specs.Roles.{Spot, refused_at, spot, spot_if, spot_of}
use Rattle.kfifo_linear.specs.Notes.{Notes, point_at, point_from, points_below, slot, with_point}
use Rattle.kfifo_linear.specs.declared.notes.Whereabouts.TheVariants.{Nowhere}
use Rattle.kfifo_linear.specs.Following.{Follower, Follows, Tells, brief}
use Rattle.kfifo_linear.proofs.Schedule.{one_order}
use Rattle.kfifo_linear.specs.Points.{IsByPoint, IsEarlier}
use Rattle.kfifo_linear.specs.Order.{ledger_after_all, marks_of, order_of, point, point_of, stands}

-- numbers that a list has, by place and by recursion
contains_in : (l : List ℕ) (x : ℕ) → Contains l x → IsIn x l
contains_in l x c =
    subst (λ y. IsIn y l) c.2 (subst (λ y. IsIn y l) (get_or_default l c.0 0 x c.1) (in_from_place l c.0 c.1))

in_contains : (l : List ℕ) (x : ℕ) → IsIn x l → Contains l x
in_contains l x i = let p = in_place x l i in (p.0, p.1, get_or_default l p.0 x 0 p.1 ∙ p.2)

-- the numbers of the calls that stand
abbrev pub numbers : List (ℕ × ℕ) → List ℕ
numbers points = map (λ x. x.1) points

-- ---- pairs in order

-- a pair is lower than another by its first number, or by its second where the first ones are the same
abbrev pub lower : ℕ × ℕ → ℕ × ℕ → Bool
lower a b = is_lt (ordering_then (nat_cmp a.0 b.0) (nat_cmp a.1 b.1))

-- it is not higher
abbrev Lex : ℕ × ℕ → ℕ × ℕ → Type 0
Lex a b = (a.0 < b.0) ⊎ ((a.0 ≡ b.0) × (a.1 ≤ b.1))

not_lower : (a b : ℕ × ℕ) → lower b a ≡ false → Lex a b
not_lower a b e =
    elim (cases_lt a.0 b.0) [
      | inl lt ↦ inl lt
      | inr ge ↦ elim (cases_lt b.0 a.0) [
        | inl gt ↦
            let less : Less ≡ nat_cmp b.0 a.0 = nat_cmp_is b.0 a.0 Less gt in
            absurd (false≢true (sym e ∙ ap (λ o. is_lt (ordering_then o (nat_cmp b.1 a.1))) (sym less)))
        | inr le ↦
            let same : b.0 ≡ a.0 = omega (arith, ge, le) in
            let equal : Equal ≡ nat_cmp b.0 a.0 = nat_cmp_is b.0 a.0 Equal same in
            let second : is_lt (nat_cmp b.1 a.1) ≡ false = ap (λ o. is_lt (ordering_then o (nat_cmp b.1 a.1))) equal
            ∙ e in
            inr (
              sym same,
              elim (cases_lt b.1 a.1) [
                | inl lt ↦ absurd (false≢true (sym second ∙ ap is_lt (sym (nat_cmp_is b.1 a.1 Less lt))))
                | inr up ↦ up
              ],
            )
      ]
    ]

lex_trans : (a b c : ℕ × ℕ) → Lex a b → Lex b c → Lex a c
lex_trans a b c p q = grind arith

-- each is not higher than those behind it
rises : (xs : List (ℕ × ℕ)) (d : ℕ × ℕ) → IsSortedBy lower xs → (i m : ℕ) → i + m < length xs
    → Lex (get_or xs i d) (get_or xs (i + m) d)
rises xs d up i zero less = let z : i + 0 ≡ i = omega arith in rw z (inr (refl, omega arith))
rises xs d up i (suc m) less =
    let before : Lex (get_or xs i d) (get_or xs (i + m) d) = rises xs d up i m (omega arith) in
    let next : Lex (get_or xs (i + m) d) (get_or xs ((i + m) + 1) d) =
    not_lower (get_or xs (i + m) d) (get_or xs ((i + m) + 1) d) (up (i + m) d (omega arith) (omega arith)) in
    let z : i + suc m ≡ (i + m) + 1 = omega arith in
    rw z (lex_trans (get_or xs i d) (get_or xs (i + m) d) (get_or xs ((i + m) + 1) d) before next)

-- ---- the calls that stand

numbers-append : (xs ys : List (ℕ × ℕ)) → numbers (xs ++ ys) ≡ numbers xs ++ numbers ys
numbers-append [] ys = refl
numbers-append (x ∷ xs) ys = ap (λ t. x.1 ∷ t) (numbers-append xs ys)

in_with : (o : Option ℕ) (call c : ℕ) → IsIn c (numbers (with_point o call)) → c ≡ call
in_with (Some p) call c (inl e) = e
in_with (Some p) call c (inr h) = absurd h
in_with None call c h = absurd h

-- numbers below a bound
below : (n : Notes) (m c : ℕ) → IsIn c (numbers (points_below n m)) → c < m
below n zero c h = absurd h
below n (suc m) c h =
    elim (in_append c (numbers (points_below n m)) (numbers (with_point (point_at n m) m))
    (subst (IsIn c) (numbers-append (points_below n m) (with_point (point_at n m) m)) h)) [
      | inl a ↦ let lt = below n m c a in omega arith
      | inr b ↦ let is = in_with (point_at n m) m c b in omega arith
    ]

abbrev Below : ℕ → ℕ → Type 0
Below x y = x < y

rise_with : (o : Option ℕ) (m : ℕ) (a : List ℕ) → EachPair Below a → ((x : ℕ) → IsIn x a → x < m)
    → EachPair Below (a ++ numbers (with_point o m))
rise_with None m a p h = rw (append-nil a) p
rise_with (Some x) m a p h = pairs_push Below a m p h

numbers_rise : (n : Notes) (m : ℕ) → EachPair Below (numbers (points_below n m))
numbers_rise n zero = tt
numbers_rise n (suc m) = rw (numbers-append (points_below n m) (with_point (point_at n m) m))
    (rise_with (point_at n m) m (numbers (points_below n m)) (numbers_rise n m) (below n m))

-- each has its point
abbrev HasPoint : Notes → ℕ × ℕ → Type 0
HasPoint n x = point_at n x.1 ≡ Some x.0

point_with : (n : Notes) (o : Option ℕ) (m : ℕ) → point_at n m ≡ o → All (HasPoint n) (with_point o m)
point_with n None m e = All-nil (HasPoint n)
point_with n (Some p) m e = All-cons (HasPoint n) (p, m) [] e (All-nil (HasPoint n))

have_points : (n : Notes) (m : ℕ) → All (HasPoint n) (points_below n m)
have_points n zero = All-nil (HasPoint n)
have_points n (suc m) = All-append (HasPoint n) (points_below n m) (with_point (point_at n m) m) (have_points n m)
    (point_with n (point_at n m) m refl)

-- each that has a point is there
is_there : (n : Notes) (m c p : ℕ) → c < m → point_at n c ≡ Some p → IsIn c (numbers (points_below n m))
is_there n zero c p less e = absurd (omega arith)
is_there n (suc m) c p less e =
    rw (numbers-append (points_below n m) (with_point (point_at n m) m)) (elim (cases_eq c m) [
      | inl same ↦ in_right c (numbers (points_below n m)) (numbers (with_point (point_at n m) m))
          (rw (sym (ap (point_at n) same) ∙ e) (inl same))
      | inr ne ↦ in_left c (numbers (points_below n m)) (numbers (with_point (point_at n m) m))
          (is_there n m c p (omega arith) e)
    ])

-- ---- what the notes say of the ledger

abbrev point_in : Option Spot → Option ℕ
point_in None = None
point_in (Some s) = Some s.point

point_if_is : (b c : Bool) (p q : ℕ) (s : Spot) → b ≡ c → p ≡ q → s.point ≡ q
    → cond b (Some p) None ≡ point_in (spot_if c s)
point_if_is b true p q s e f g = rw (e, f) (ap Some (sym g))
point_if_is b false p q s e f g = rw e refl

point_of_standing : (l : Ledger) (n : Notes) (c : ℕ) (standing : Standing) → Tells l n
    → point_from n (brief standing (l.last c)) ≡ point_in (spot_of l c standing)
point_of_standing l n c Outside h = by_last (l.last c)
  where
    by_last : (last : Option ℕ) → point_from n (brief Outside last) ≡ point_in (refused_at last)
    by_last None = refl
    by_last (Some e) = refl
point_of_standing l n c (Inside i) h = point_if_is (slot n i).settled (l.settled i) (slot n i).point (l.point i) _
    (h.settled i) (h.point i) refl
point_of_standing l n c (Gone i v p) h = refl
point_of_standing l n c (Took o v p) h = refl
point_of_standing l n c (Stood v p) h = refl

point_is : (l : Ledger) (n : Notes) (c : ℕ) → Tells l n → point_at n c ≡ point_in (spot l c)
unfolding spot
point_is l n c h = ap (point_from n) (h.calls c) ∙ point_of_standing l n c (l.standing c) h

point_stands : (o : Option Spot) (p : ℕ) → point_in o ≡ Some p → (is_some o ≡ true) × (point_of o ≡ p)
point_stands None p e = absurd (none-some p e)
point_stands (Some s) p e = (refl, same_Some s.point p e)

stands_point : (o : Option Spot) → is_some o ≡ true → point_in o ≡ Some (point_of o)
stands_point None e = absurd (false≢true e)
stands_point (Some s) e = refl

-- ---- the sorted calls

eqb-flips : (x y : ℕ) → eqb x y ≡ eqb y x
eqb-flips x y = elim (cases_eq x y) [
  | inl e ↦ eq-eqb x y e ∙ sym (eq-eqb y x (sym e))
  | inr ne ↦ ne_eqb x y ne ∙ sym (ne_eqb y x (λ e. ne (sym e)))
]

distinct : (xs : List ℕ) → EachPair Below xs → IsDistinct eqb xs
distinct xs h = IsDistinct-from_apart eqb xs (λ i j d lt less.
    let low : get_or xs i 0 < get_or xs j 0 = pairs_place Below xs i j h lt less in
    let a : get_or xs i d ≡ get_or xs i 0 = get_or_default xs i d 0 (omega arith) in
    let b : get_or xs j d ≡ get_or xs j 0 = get_or_default xs j d 0 less in
    ne_eqb (get_or xs i d) (get_or xs j d) (λ e. absurd (omega arith)))

apart_in : (xs : List ℕ) (i j : ℕ) → IsDistinct eqb xs → i < j → j < length xs → get_or xs i 0 ≡ get_or xs j 0 → ⊥
apart_in xs i j h lt less e =
    false≢true (sym (apart_from_distinct eqb xs i j 0 h lt less) ∙ eq-eqb (get_or xs i 0) (get_or xs j 0) e)

module _ (shape : Shape) (l : Ledger) (n : Notes) (h : Tells l n) (sorted : List (ℕ × ℕ))
    (moved : IsPermutation (points_below n (length n.calls)) sorted) (up : IsSortedBy lower sorted) where
  all_points : All (HasPoint n) sorted
  all_points = All-permutation (HasPoint n) (points_below n (length n.calls)) sorted moved
      (have_points n (length n.calls))

  moved_numbers : IsPermutation (numbers (points_below n (length n.calls))) (numbers sorted)
  moved_numbers = IsPermutation-map (λ (x : ℕ × ℕ). x.1) (points_below n (length n.calls)) sorted moved

  differ : IsDistinct eqb (numbers sorted)
  differ = IsDistinct-IsPermutation eqb eqb-flips (numbers (points_below n (length n.calls))) (numbers sorted)
      moved_numbers (distinct (numbers (points_below n (length n.calls))) (numbers_rise n (length n.calls)))

  -- the call at a place
  number_at : (i : ℕ) → i < length sorted → get_or (numbers sorted) i 0 ≡ (get_or sorted i (0, 0)).1
  number_at i less = get_or-map (λ (x : ℕ × ℕ). x.1) sorted i (0, 0) 0 less

  standing_at : (i : ℕ) → i < length sorted → (stands l (get_or (numbers sorted) i 0) ≡ true)
      × (point l (get_or (numbers sorted) i 0) ≡ (get_or sorted i (0, 0)).0)
  standing_at i less = rw (number_at i less)
      (point_stands (spot l (get_or sorted i (0, 0)).1) (get_or sorted i (0, 0)).0
      (sym (point_is l n (get_or sorted i (0, 0)).1 h) ∙ all_points i (0, 0) less))

  earlier : (i j : ℕ) → i < j → j < length (numbers sorted)
      → IsEarlier (point l) (get_or (numbers sorted) i 0) (get_or (numbers sorted) j 0)
  earlier i j lt less =
      let long : length (numbers sorted) ≡ length sorted = length-map sorted (λ (x : ℕ × ℕ). x.1) in
      let within : j < length sorted = omega (arith, less, long) in
      let a = standing_at i (omega arith) in
      let b = standing_at j within in
      let na = number_at i (omega arith) in
      let nb = number_at j within in
      let z : i + (j - i) ≡ j = omega arith in
      let lex : Lex (get_or sorted i (0, 0)) (get_or sorted j (0, 0)) =
      subst (λ k. Lex (get_or sorted i (0, 0)) (get_or sorted k (0, 0))) z
      (rises sorted (0, 0) up i (j - i) (omega arith)) in
      elim lex [
        | inl low ↦ (omega (arith, a.1, b.1, low), λ e. absurd (omega (arith, a.1, b.1, low, e)))
        | inr same ↦ (
          omega (arith, a.1, b.1, same.0),
          λ e. elim (cases_lt (get_or (numbers sorted) i 0) (get_or (numbers sorted) j 0)) [
            | inl lower_number ↦ lower_number
            | inr ge ↦ absurd (apart_in (numbers sorted) i j differ lt less (omega (arith, na, nb, same.1, ge)))
          ],
        )
      ]

  pub sorted_by_point : IsByPoint (marks_of shape l) (numbers sorted)
  sorted_by_point = record {
    sorted = pairs_from_places (IsEarlier (point l)) (numbers sorted) earlier;
    only = λ c i.
        let p = in_place c (numbers sorted) i in
        let long : length (numbers sorted) ≡ length sorted = length-map sorted (λ (x : ℕ × ℕ). x.1) in
        subst (λ d. stands l d ≡ true) p.2 (standing_at p.0 (omega (arith, p.1, long))).0;
    every = λ c s.
        let has : point_at n c ≡ Some (point l c) = point_is l n c h ∙ stands_point (spot l c) s in
        elim (cases_lt c (length n.calls)) [
          | inl less ↦ contains_in (numbers sorted) c
              (Contains-permutation (numbers (points_below n (length n.calls))) (numbers sorted) c moved_numbers
              (in_contains (numbers (points_below n (length n.calls))) c
              (is_there n (length n.calls) c (point l c) less has)))
          | inr past ↦
              absurd (none-some (point l c) (sym (ap (point_from n) (get_or_past n.calls c Nowhere past)) ∙ has))
        ];
  }

  -- and each stands behind its point
  pub points_are : map (λ (x : ℕ × ℕ). x.0) sorted ≡ map (point l) (numbers sorted)
  points_are =
      let firsts : List ℕ = map (λ (x : ℕ × ℕ). x.0) sorted in
      let long : length firsts ≡ length sorted = length-map sorted (λ (x : ℕ × ℕ). x.0) in
      let many : length (numbers sorted) ≡ length sorted = length-map sorted (λ (x : ℕ × ℕ). x.1) in
      let all : length (map (point l) (numbers sorted)) ≡ length (numbers sorted) =
      length-map (numbers sorted) (point l) in
      same_number_lists firsts (map (point l) (numbers sorted)) (omega arith) (λ k less.
      let within : k < length sorted = omega arith in
      get_or-map (λ (x : ℕ × ℕ). x.0) sorted k (0, 0) 0 within ∙ sym (standing_at k within).1
      ∙ sym (get_or-map (point l) (numbers sorted) k 0 0 (omega arith)))

-- of a linearizer that has followed a schedule, the calls by their sorted points are the order
pub order_is : (f : Follower) (threads room : ℕ) (events : List Event) (sorted : List (ℕ × ℕ))
    → Follows threads room events f
    → threads ≤ 64 → IsPermutation (points_below f.notes (length f.notes.calls)) sorted → IsSortedBy lower sorted
    → numbers sorted ≡ order_of f.shape threads events
order_is f threads room events sorted h few moved up =
    one_order f.shape threads few events f.world h.reached (numbers sorted)
    (sorted_by_point f.shape (ledger_after_all f.shape threads events) f.notes h.tells sorted moved up)

pub points_follow : (f : Follower) (threads room : ℕ) (events : List Event) (sorted : List (ℕ × ℕ))
    → Follows threads room events f
    → IsPermutation (points_below f.notes (length f.notes.calls)) sorted → IsSortedBy lower sorted
    → map (λ (x : ℕ × ℕ). x.0) sorted ≡ map (point (ledger_after_all f.shape threads events)) (numbers sorted)
points_follow f threads room events sorted h moved up =
    points_are f.shape (ledger_after_all f.shape threads events) f.notes h.tells sorted moved up
