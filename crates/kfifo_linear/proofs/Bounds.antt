-- How often an item is overtaken.
use Rattle.std.proofs.Common.{ℕ, ◌≡◌, ◌≢◌, ◌+◌, ◌<◌, ◌≤◌, Bool, true, false, not, ◌&&◌, eqb, List, [], ◌∷◌, length, map}
use Rattle.std.proofs.Common.{refl, sym, ◌∙◌, ap, subst, inl, inr, arith, Option, Some, None}
use Rattle.std.specs.List.{filter}
use Rattle.std.proofs.lemmas.Bool.{cases_eq, cond-true, cond-false, and_parts, and_from, eqb-true, eq-eqb, ne_eqb}
use Rattle.std.proofs.lemmas.Bool.{ltb-true, not-true, not_from_false, true_from_ne_false, false≢true}
use Rattle.std.proofs.lemmas.List.{length-map}
use Rattle.kfifo_linear.proofs.Types.{Call, Effect, End}
use Rattle.kfifo_model.specs.declared.calls.Op.{Op}
use Rattle.kfifo_model.specs.declared.calls.Op.TheVariants.{Enqueue, Dequeue}
use Rattle.kfifo_model.specs.Lists.{IsIn, EachPair, place}
use Rattle.kfifo_model.specs.declared.effects.Effect.TheVariants.{Adds, Takes, FindsNone, Refused, Wrong}
use Rattle.kfifo_model.specs.Histories.{call, does, effect_at, IsFinished, HasEnd, EndsBelow}
use Rattle.kfifo_model.specs.Overtaking.{some, adds, takes, overtakes_at, overtakes, overtaken_count, stands_before}
use Rattle.kfifo_model.specs.Overtaking.{ends_below, precedes, numbers_of, overtaken_in, certainly_overtaken}
use Rattle.kfifo_model.specs.Overtaking.{AddsAreDistinct}
use Rattle.kfifo_linear.specs.Points.{Marks, IsAdd, IsTakeOf, PointsFit, IsEarlier, IsByPoint, StandsFit}
use Rattle.kfifo_model.proofs.Lists.{each_at, each_from, each_map, pairs_weaker, pairs_map, in_map, Differ}
use Rattle.kfifo_linear.proofs.Run.{one_visit, earlier_differ, visits_rise, le_from_not}
use Rattle.kfifo_model.proofs.Ranges.{in_filter, pairs_filter, into_range, range_differs, some_at, some_from}
use Rattle.kfifo_linear.proofs.Orders.{points_part, in_history}

-- g is a Got that overtakes c: its item was added later, and it is no later than any Got of c's item
pub record Overtakes (act : ℕ → Effect) (m : Marks) (c g : ℕ) : Type 0 where
  pub stands : m.stands g ≡ true
  pub value : ℕ
  pub got : act g ≡ Takes value
  pub other : c ≢ m.source g
  pub added : m.point c ≤ m.point (m.source g)
  pub taken : (t : ℕ) → IsTakeOf act m c t → m.point g ≤ m.point t

source_add : (k : ℕ) (act : ℕ → Effect) (m : Marks) (c g : ℕ) → PointsFit k act m → Overtakes act m c g
    → IsAdd act m (m.source g)
source_add k act m c g f o = (f.source_stands g o.value o.stands o.got, o.value, f.source_adds g o.value o.stands o.got)

-- the head has left the visit of c's item, which was taken sooner
too_late : (k : ℕ) (act : ℕ → Effect) (m : Marks) (c g : ℕ) → PointsFit k act m → IsAdd act m c → Overtakes act m c g
    → m.visit c < m.head (m.point g) → ⊥
too_late k act m c g f a o lt =
    let t = f.left_behind c (m.point g) a lt in
    let is : IsTakeOf act m c t.0 = t.1 in
    let at : m.head (m.point t.0) ≡ m.visit (m.source t.0) = f.taken t.0 is.1 is.0 is.2 in
    let same : m.visit (m.source t.0) ≡ m.visit c = ap m.visit is.3 in
    let le : m.point g ≤ m.point t.0 = o.taken t.0 is in
    let up = f.head_rises (m.point g) (m.point t.0) le in
    omega arith

same_source : (k : ℕ) (act : ℕ → Effect) (m : Marks) (c x y : ℕ) → PointsFit k act m → Overtakes act m c x
    → Overtakes act m c y
    → m.source x ≡ m.source y → x ≡ y
same_source k act m c x y f o p e = f.taken_once (m.source x) x y (o.stands, o.value, o.got, refl)
    (p.stands, p.value, p.got, sym e)

-- what overtakes c is of its visit
overtakes_in_visit : (k : ℕ) (act : ℕ → Effect) (m : Marks) (c g : ℕ) → PointsFit k act m → IsAdd act m c
    → Overtakes act m c g
    → m.visit (m.source g) ≡ m.visit c
overtakes_in_visit k act m c g f a o =
    let up = visits_rise k act m c (m.source g) f a (source_add k act m c g f o) o.added in
    let at : m.head (m.point g) ≡ m.visit (m.source g) = f.taken g o.value o.stands o.got in
    let down = le_from_not (m.visit c) (m.visit (m.source g)) (λ lt. too_late k act m c g f a o (omega arith)) in
    omega arith

-- the calls that overtake c are fewer than k
pub few_overtake : (k : ℕ) (act : ℕ → Effect) (m : Marks) (c : ℕ) (gs : List ℕ) → PointsFit k act m → IsAdd act m c
    → EachPair Differ gs
    → ((g : ℕ) → IsIn g gs → Overtakes act m c g) → length gs < k
few_overtake k act m c gs f a d o =
    let S : ℕ → ℕ → Type 0 = λ x y. m.source x ≢ m.source y in
    let sources = pairs_map Differ m.source gs
    (pairs_weaker Differ S gs (λ x y i j ne e. ne (same_source k act m c x y f (o x i) (o y j) e)) d) in
    let others = each_map (Differ c) m.source gs (each_from (λ x. Differ c (m.source x)) gs (λ x i. (o x i).other)) in
    let short : length (c ∷ map m.source gs) ≤ k = one_visit k act m (c ∷ map m.source gs) (m.visit c) f
    (others, sources)
    (λ x i. elim i [
      | inl e ↦ (let P : ℕ → Type 0 = λ w. IsAdd act m w in subst P (sym e) a)
      | inr j ↦ (let p = in_map m.source x gs j in let P : ℕ
          → Type 0 = λ w. IsAdd act m w in subst P (sym p.2) (source_add k act m c p.0 f (o p.0 p.1)))
    ])
    (λ x i. elim i [
      | inl e ↦ ap m.visit e
      | inr j ↦
          (let p = in_map m.source x gs j in ap m.visit p.2 ∙ overtakes_in_visit k act m c p.0 f a (o p.0 p.1))
    ]) in
    let n = length-map gs m.source in
    omega arith

adds_is : (x : ℕ) (e : Effect) → adds x e ≡ true → e ≡ Adds x
adds_is x (Adds y) h = ap Adds (sym (eqb-true x y h))
adds_is x (Takes y) h = absurd (false≢true h)
adds_is x FindsNone h = absurd (false≢true h)
adds_is x Refused h = absurd (false≢true h)
adds_is x Wrong h = absurd (false≢true h)

takes_from : (x : ℕ) (e : Effect) → e ≡ Takes x → takes x e ≡ true
takes_from x e h = ap (takes x) h ∙ eq-eqb x x refl

-- What is known of a relation between calls, and of the calls that are counted.
pub record Counts (act : ℕ → Effect) (m : Marks) (before : ℕ → ℕ → Bool) (numbers : List ℕ) : Type 0 where
  pub differ : EachPair Differ numbers
  pub listed : (c : ℕ) → m.stands c ≡ true → IsIn c numbers
  pub takes_stand : (g y : ℕ) → IsIn g numbers → act g ≡ Takes y → m.stands g ≡ true
  pub sooner : (c d : ℕ) → m.stands c ≡ true → m.stands d ≡ true → before c d ≡ true → m.point c ≤ m.point d
  pub apart : (c : ℕ) → m.stands c ≡ true → before c c ≡ true → ⊥

-- the parts of the test
pub record Passes (act : ℕ → Effect) (before : ℕ → ℕ → Bool) (numbers : List ℕ) (c d x : ℕ) : Type 0 where
  pub value : ℕ
  pub got : act d ≡ Takes value
  pub enqueue : ℕ
  pub listed : IsIn enqueue numbers
  pub adds_it : act enqueue ≡ Adds value
  pub added : before c enqueue ≡ true
  pub taken : (t : ℕ) → IsIn t numbers → act t ≡ Takes x → before d t ≡ true

before_takes : (act : ℕ → Effect) (before : ℕ → ℕ → Bool) (numbers : List ℕ) (d x : ℕ)
    → not (some (λ t. takes x (act t) && not (before d t)) numbers) ≡ true → (t : ℕ) → IsIn t numbers → act t ≡ Takes x
    → before d t ≡ true
before_takes act before numbers d x h t i e =
    true_from_ne_false (before d t) (λ u.
    let none : some (λ t. takes x (act t) && not (before d t)) numbers ≡ false =
    not-true (some (λ t. takes x (act t) && not (before d t)) numbers) h in
    let one : some (λ t. takes x (act t) && not (before d t)) numbers ≡ true =
    some_from (λ t. takes x (act t) && not (before d t)) t numbers i
    (and_from (takes x (act t)) (not (before d t)) (takes_from x (act t) e) (not_from_false (before d t) u)) in
    false≢true (sym none ∙ one))

passes_at : (act : ℕ → Effect) (before : ℕ → ℕ → Bool) (numbers : List ℕ) (c d x : ℕ) (e : Effect) → act d ≡ e
    → overtakes_at act before numbers c d (Adds x) e ≡ true → Passes act before numbers c d x
passes_at act before numbers c d x (Takes y) q h =
    let p = and_parts (some (λ e. adds y (act e) && before c e) numbers)
    (not (some (λ t. takes x (act t) && not (before d t)) numbers))
    h in
    let s = some_at (λ e. adds y (act e) && before c e) numbers p.0 in
    let b = and_parts (adds y (act s.0)) (before c s.0) s.2 in
    record {
      value = y;
      got = q;
      enqueue = s.0;
      listed = s.1;
      adds_it = adds_is y (act s.0) b.0;
      added = b.1;
      taken = before_takes act before numbers d x p.1;
    }
passes_at act before numbers c d x (Adds y) q h = absurd (false≢true h)
passes_at act before numbers c d x FindsNone q h = absurd (false≢true h)
passes_at act before numbers c d x Refused q h = absurd (false≢true h)
passes_at act before numbers c d x Wrong q h = absurd (false≢true h)

same_value : (act : ℕ → Effect) (c x y : ℕ) → act c ≡ Adds x → act c ≡ Adds y → y ≡ x
same_value act c x y p q = cc

takes_value : (k : ℕ) (act : ℕ → Effect) (m : Marks) (c x t : ℕ) → PointsFit k act m → act c ≡ Adds x
    → IsTakeOf act m c t → act t ≡ Takes x
takes_value k act m c x t f q i =
    let s : act (m.source t) ≡ Adds i.1 = f.source_adds t i.1 i.0 i.2 in
    let e : i.1 ≡ x = same_value act c x i.1 q (ap act (sym i.3) ∙ s) in
    i.2 ∙ ap Takes e

overtakes_from : (k : ℕ) (act : ℕ → Effect) (m : Marks) (before : ℕ → ℕ → Bool) (numbers : List ℕ) (c x g : ℕ)
    → PointsFit k act m
    → Counts act m before numbers → AddsAreDistinct act numbers → m.stands c ≡ true → act c ≡ Adds x → IsIn g numbers
    → Passes act before numbers c g x → Overtakes act m c g
overtakes_from k act m before numbers c x g f n distinct sc q i p =
    let sg = n.takes_stand g p.value i p.got in
    let ss = f.source_stands g p.value sg p.got in
    let same : p.enqueue ≡ m.source g = distinct p.value p.enqueue (m.source g) p.listed (n.listed (m.source g) ss)
    p.adds_it
    (f.source_adds g p.value sg p.got) in
    let b : before c (m.source g) ≡ true = ap (before c) (sym same) ∙ p.added in
    record {
      stands = sg;
      value = p.value;
      got = p.got;
      other = λ e. n.apart c sc (ap (before c) e ∙ b);
      added = n.sooner c (m.source g) sc ss b;
      taken = λ t is. n.sooner g t sg is.0 (p.taken t (n.listed t is.0) (takes_value k act m c x t f q is));
    }

overtakes_as : (act : ℕ → Effect) (before : ℕ → ℕ → Bool) (numbers : List ℕ) (c x g : ℕ) → act c ≡ Adds x
    → overtakes act before numbers c g ≡ true → overtakes_at act before numbers c g (Adds x) (act g) ≡ true
overtakes_as act before numbers c x g q h = ap (λ e. overtakes_at act before numbers c g e (act g)) (sym q) ∙ h

-- the count is below k
pub count_below : (k : ℕ) (act : ℕ → Effect) (m : Marks) (before : ℕ → ℕ → Bool) (numbers : List ℕ) (c x : ℕ)
    → PointsFit k act m
    → Counts act m before numbers → AddsAreDistinct act numbers → m.stands c ≡ true → act c ≡ Adds x
    → overtaken_count act before numbers c < k
count_below k act m before numbers c x f n distinct sc q =
    few_overtake k act m c (filter (overtakes act before numbers c) numbers) f (sc, x, q)
    (pairs_filter Differ (overtakes act before numbers c) numbers n.differ)
    (λ g i. let p = in_filter (overtakes act before numbers c) g numbers i in
    overtakes_from k act m before numbers c x g f n distinct sc q p.0
    (passes_at act before numbers c g x (act g) refl (overtakes_as act before numbers c x g q p.1)))

-- places in an order
place_here : (n c : ℕ) (ns : List ℕ) → n ≡ c → place (n ∷ ns) c ≡ 0
place_here n c ns e = cond-true (eqb n c) 0 (place ns c + 1) (eq-eqb n c e)

place_on : (n c : ℕ) (ns : List ℕ) → n ≢ c → place (n ∷ ns) c ≡ place ns c + 1
place_on n c ns e = cond-false (eqb n c) 0 (place ns c + 1) (ne_eqb n c e)

not_first : (n c : ℕ) (ns : List ℕ) → IsIn c (n ∷ ns) → n ≢ c → IsIn c ns
not_first n c ns (inl e) ne = absurd (ne (sym e))
not_first n c ns (inr i) ne = i

pub from_places : (R : ℕ → ℕ → Type 0) (order : List ℕ) (c d : ℕ) → EachPair R order → IsIn c order → IsIn d order
    → place order c < place order d → R c d
from_places R [] c d p i j lt = absurd i
from_places R (n ∷ ns) c d p i j lt =
    elim (cases_eq n d) [
      | inl e ↦ (let z = place_here n d ns e in absurd (omega arith))
      | inr nd ↦ elim (cases_eq n c) [
        | inl e ↦ (let P : ℕ → Type 0 = λ w. R w d in subst P e (each_at (R n) d ns p.0 (not_first n d ns j nd)))
        | inr nc ↦ (let x = place_on n c ns nc in let y = place_on n d ns nd in
            from_places R ns c d p.1 (not_first n c ns i nc) (not_first n d ns j nd) (omega arith))
      ]
    ]

irreflexive : (order : List ℕ) (c : ℕ) → stands_before order c c ≡ true → ⊥
irreflexive order c h = let lt = ltb-true (place order c) (place order c) h in omega arith

counts_order : (act : ℕ → Effect) (m : Marks) (order : List ℕ) → IsByPoint m order
    → Counts act m (stands_before order) order
counts_order act m order p = record {
  differ = earlier_differ m.point order p.sorted;
  listed = p.every;
  takes_stand = λ g y i e. p.only g i;
  sooner = λ c d sc sd b. (from_places (IsEarlier m.point) order c d p.sorted (p.every c sc) (p.every d sd)
      (ltb-true (place order c) (place order d) b)).0;
  apart = λ c s b. irreflexive order c b;
}

-- In the order by point an item is overtaken fewer than k times.
pub overtaken_in_order : (k : ℕ) (h : List Call) (m : Marks) (order : List ℕ) (c x : ℕ) → PointsFit k (does h) m
    → IsByPoint m order
    → AddsAreDistinct (does h) order → IsIn c order → does h c ≡ Adds x → overtaken_in h order c < k
overtaken_in_order k h m order c x f p distinct i q =
    count_below k (does h) m (stands_before order) order c x f (counts_order (does h) m order p) distinct (p.only c i) q

ends_from : (o : Option End) (s : ℕ) → ends_below o s ≡ true → EndsBelow o s
ends_from None s h = false≢true h
ends_from (Some end) s h = ltb-true end.last s h

takes_ended : (op : Op) (o : Option End) (y : ℕ) → effect_at op o ≡ Takes y → HasEnd o
takes_ended op (Some end) y e = tt
takes_ended (Enqueue x) None y e = cc
takes_ended Dequeue None y e = cc

takes_finished : (h : List Call) (g y : ℕ) → does h g ≡ Takes y → IsFinished h g
takes_finished h g y e = takes_ended (call h g).op (call h g).end y e

precedes_from : (h : List Call) (m : Marks) (c d : ℕ) → StandsFit h m → m.stands c ≡ true → m.stands d ≡ true
    → precedes h c d ≡ true
    → m.point c < m.point d
precedes_from h m c d s sc sd b = points_part h m c d s sc sd (ends_from (call h c).end (call h d).first b)

counts_history : (h : List Call) (m : Marks) → StandsFit h m → Counts (does h) m (precedes h) (numbers_of h)
counts_history h m s = record {
  differ = range_differs 0 (length h);
  listed = λ c sc. into_range 0 (length h) c (omega arith) (let lt = in_history h m c s sc in omega arith);
  takes_stand = λ g y i e. s.finished_stand g (takes_finished h g y e);
  sooner = λ c d sc sd b. (let lt = precedes_from h m c d s sc sd b in omega arith);
  apart = λ c sc b. (let lt = precedes_from h m c c s sc sc b in omega arith);
}

-- By the history alone an item is certainly overtaken fewer than k times.
pub certainly_overtaken_below : (k : ℕ) (h : List Call) (m : Marks) (c x : ℕ) → PointsFit k (does h) m → StandsFit h m
    → AddsAreDistinct (does h) (numbers_of h) → IsFinished h c → does h c ≡ Adds x → certainly_overtaken h c < k
certainly_overtaken_below k h m c x f s distinct e q =
    count_below k (does h) m (precedes h) (numbers_of h) c x f (counts_history h m s) distinct (s.finished_stand c e) q
