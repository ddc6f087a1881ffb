-- The calls in ascending order of point are an order of the history; and there is such a list.
use Rattle.std.proofs.Common.{ℕ, zero, suc, ◌≡◌, ◌+◌, ◌<◌, ◌≤◌, true, ◌&&◌, eqb, List, length, subst, inl, inr, arith}
use Rattle.std.proofs.Common.{Option, Some, None}
use Rattle.std.specs.List.{filter, flat_map, range_with_len}
use Rattle.std.proofs.lemmas.Bool.{cases_eq, cases_lt, and_parts, and_from, eqb-true, eq-eqb}
use Rattle.std.proofs.lemmas.List.{get_or_past}
use Rattle.kfifo_linear.proofs.Types.{Call, End}
use Rattle.kfifo_model.specs.Lists.{IsIn, EachPair}
use Rattle.kfifo_model.specs.Histories.{call, no_call, does, CanStand, Precedes, EndsBelow, IsOrder, IsLegal}
use Rattle.kfifo_model.specs.Overtaking.{numbers_of}
use Rattle.kfifo_linear.specs.Points.{Marks, PointsFit, IsEarlier, IsByPoint, StandsFit, IsNoLater, by_point}
use Rattle.kfifo_model.proofs.Lists.{in_append, in_left, in_right, each_from, pairs_append, pairs_weaker}
use Rattle.kfifo_model.proofs.Ranges.{into_range, range_rises, in_filter, into_filter, pairs_filter, Below}
use Rattle.kfifo_linear.proofs.Run.{earlier_differ, run_by_point}

ends_later : (o : Option End) (p s : ℕ) → IsNoLater p o → EndsBelow o s → p < s
ends_later None p s h b = absurd b
ends_later (Some end) p s h b = omega arith

pub points_part : (h : List Call) (m : Marks) (c d : ℕ) → StandsFit h m → m.stands c ≡ true → m.stands d ≡ true
    → Precedes h c d
    → m.point c < m.point d
points_part h m c d f sc sd b =
    let lt : m.point c < (call h d).first = ends_later (call h c).end (m.point c) (call h d).first
    (f.point_to c sc) b in
    let le : (call h d).first ≤ m.point d = f.point_from d sd in
    omega arith

no_precedes : (h : List Call) (m : Marks) (c d : ℕ) → StandsFit h m → m.stands c ≡ true → m.stands d ≡ true
    → IsEarlier m.point c d
    → Precedes h d c → ⊥
no_precedes h m c d f sc sd e b =
    let lt = points_part h m d c f sd sc b in
    let le : m.point c ≤ m.point d = e.0 in
    omega arith

pub is_order : (h : List Call) (m : Marks) (order : List ℕ) → StandsFit h m → IsByPoint m order → IsOrder h order
is_order h m order f p = record {
  distinct = earlier_differ m.point order p.sorted;
  calls = each_from (λ c. CanStand (call h c).end (call h c).op) order (λ c i. f.can_stand c (p.only c i));
  complete = λ c e. p.every c (f.finished_stand c e);
  before = pairs_weaker (IsEarlier m.point) (λ c d. Precedes h d c → ⊥) order
      (λ c d i j e. no_precedes h m c d f (p.only c i) (p.only d j) e) p.sorted;
}

-- The calls that stand, in ascending order of point and number, are a legal order.
pub legal_by_point : (k : ℕ) (h : List Call) (m : Marks) (order : List ℕ) → PointsFit k (does h) m → StandsFit h m
    → IsByPoint m order
    → IsLegal k h order
legal_by_point k h m order f s p = record {
  is_order = is_order h m order s p;
  is_run = run_by_point k (does h) m order f p;
}

-- the calls of one step
abbrev at_step : Marks → List Call → ℕ → List ℕ
at_step m h p = filter (λ c. m.stands c && eqb (m.point c) p) (numbers_of h)

abbrev from_step : Marks → List Call → ℕ → ℕ → List ℕ
from_step m h a n = flat_map (at_step m h) (range_with_len a n)

in_step : (m : Marks) (h : List Call) (p c : ℕ) → IsIn c (at_step m h p) → (m.stands c ≡ true) × (m.point c ≡ p)
in_step m h p c i =
    let e = and_parts (m.stands c) (eqb (m.point c) p)
    (in_filter (λ c. m.stands c && eqb (m.point c) p) c (numbers_of h) i).1 in
    (e.0, eqb-true (m.point c) p e.1)

in_steps : (m : Marks) (h : List Call) (a n c : ℕ) → IsIn c (from_step m h a n) → (m.stands c ≡ true) × (a ≤ m.point c)
in_steps m h a zero c i = absurd i
in_steps m h a (suc n) c i =
    elim (in_append c (at_step m h a) (from_step m h (a + 1) n) i) [
      | inl j ↦ (let e = in_step m h a c j in (e.0, (let q : m.point c ≡ a = e.1 in omega arith)))
      | inr j ↦ (let e = in_steps m h (a + 1) n c j in (e.0, (let q : a + 1 ≤ m.point c = e.1 in omega arith)))
    ]

into_steps : (m : Marks) (h : List Call) (a n c : ℕ) → m.stands c ≡ true → c < length h → a ≤ m.point c
    → m.point c < a + n
    → IsIn c (from_step m h a n)
into_steps m h a zero c s lt l u = absurd (omega arith)
into_steps m h a (suc n) c s lt l u =
    elim (cases_eq (m.point c) a) [
      | inl e ↦ in_left c (at_step m h a) (from_step m h (a + 1) n)
          (into_filter (λ c. m.stands c && eqb (m.point c) a) c (numbers_of h)
          (into_range 0 (length h) c (omega arith) (omega arith))
          (and_from (m.stands c) (eqb (m.point c) a) s (eq-eqb (m.point c) a e)))
      | inr ne ↦ in_right c (at_step m h a) (from_step m h (a + 1) n)
          (into_steps m h (a + 1) n c s lt (omega arith) (omega arith))
    ]

step_sorted : (m : Marks) (h : List Call) (p : ℕ) → EachPair (IsEarlier m.point) (at_step m h p)
step_sorted m h p =
    pairs_weaker Below (IsEarlier m.point) (at_step m h p)
    (λ x y i j lt. let a : m.point x ≡ p = (in_step m h p x i).1 in let b : m.point y ≡ p =
    (in_step m h p y j).1 in (omega arith, λ e. lt))
    (pairs_filter Below (λ c. m.stands c && eqb (m.point c) p) (numbers_of h) (range_rises 0 (length h)))

steps_sorted : (m : Marks) (h : List Call) (a n : ℕ) → EachPair (IsEarlier m.point) (from_step m h a n)
steps_sorted m h a zero = tt
steps_sorted m h a (suc n) =
    pairs_append (IsEarlier m.point) (at_step m h a) (from_step m h (a + 1) n) (step_sorted m h a)
    (steps_sorted m h (a + 1) n)
    (λ x y i j. let p : m.point x ≡ a = (in_step m h a x i).1 in let q : a + 1
    ≤ m.point y = (in_steps m h (a + 1) n y j).1 in (omega arith, λ e. absurd (omega arith)))

-- no call past the history stands
pub in_history : (h : List Call) (m : Marks) (c : ℕ) → StandsFit h m → m.stands c ≡ true → c < length h
in_history h m c f s =
    elim (cases_lt c (length h)) [
      | inl lt ↦ lt
      | inr le ↦ (let P : Call → Type 0 =
          λ w. CanStand w.end w.op in absurd (subst P (get_or_past h c no_call le) (f.can_stand c s)))
    ]

pub is_by_point : (h : List Call) (m : Marks) (steps : ℕ) → StandsFit h m
    → ((c : ℕ) → m.stands c ≡ true → m.point c < steps)
    → IsByPoint m (by_point m.stands m.point steps h)
is_by_point h m steps f below = record {
  sorted = steps_sorted m h 0 steps;
  only = λ c i. (in_steps m h 0 steps c i).0;
  every = λ c s. into_steps m h 0 steps c s (in_history h m c f s) (omega arith) (let lt = below c s in omega arith);
}
