-- The calls in ascending order of point are a run of the k-relaxed queue.
use Rattle.std.proofs.Common.{ℕ, ◌≡◌, ◌≢◌, ◌<◌, ◌≤◌, ◌⊎◌, true, List, [], ◌∷◌, ◌++◌, length, map, refl, sym, ◌∙◌, ap}
use Rattle.std.proofs.Common.{subst, inl, inr, arith, length-append, append_assoc, Some, slice_get}
use Rattle.std.specs.List.{remove}
use Rattle.std.proofs.lemmas.Bool.{cases_lt}
use Rattle.std.proofs.lemmas.List.{map_push, map-append, length-map, get_or_at}
use Rattle.std.proofs.lemmas.Option.{slice_get-get_or}
use Rattle.kfifo_model.specs.Lists.{IsIn, EachPair}
use Rattle.kfifo_linear.proofs.Types.{Effect}
use Rattle.kfifo_model.specs.declared.effects.Effect.TheVariants.{Adds, Takes, FindsNone, Refused, Wrong}
use Rattle.kfifo_model.specs.Relaxed.{Leaves, IsRun}
use Rattle.kfifo_linear.specs.Points.{Marks, IsAdd, IsTakeOf, PointsFit, IsEarlier, IsByPoint}
use Rattle.kfifo_model.proofs.Lists.{in_append, in_left, in_right, IsParted, parted, each_at, pairs_front, pairs_back}
use Rattle.kfifo_model.proofs.Lists.{pairs_across, pairs_push, in_less, in_more, pairs_less, pairs_weaker, pairs_map}
use Rattle.kfifo_model.proofs.Lists.{in_map, at_most, Differ}

-- the item that an enqueue adds
abbrev pub item_of : Effect → ℕ
item_of (Adds x) = x
item_of _ = 0

abbrev pub item : (ℕ → Effect) → ℕ → ℕ
item act c = item_of (act c)

-- The queue, each item named by its enqueue, after the calls that are done.
pub record Holds (act : ℕ → Effect) (m : Marks) (done queue : List ℕ) : Type 0 where
  pub sorted : EachPair (IsEarlier m.point) queue
  pub is_done : (c : ℕ) → IsIn c queue → IsIn c done
  pub is_add : (c : ℕ) → IsIn c queue → IsAdd act m c
  pub untaken : (c g : ℕ) → IsIn c queue → IsIn g done → IsTakeOf act m c g → ⊥
  pub kept : (c : ℕ) → IsIn c done → IsAdd act m c → ((g : ℕ) → IsIn g done → IsTakeOf act m c g → ⊥) → IsIn c queue

-- c is the next call
pub record IsNext (m : Marks) (done : List ℕ) (c : ℕ) : Type 0 where
  pub stands : m.stands c ≡ true
  pub later : (d : ℕ) → IsIn d done → IsEarlier m.point d c
  pub earlier : (d : ℕ) → m.stands d ≡ true → m.point d < m.point c → IsIn d done

not_earlier : (m : Marks) (done rest : List ℕ) (c d : ℕ) → IsByPoint m (done ++ c ∷ rest) → m.point d < m.point c
    → (d ≡ c) ⊎ IsIn d rest
    → ⊥
not_earlier m done rest c d p lt (inl e) = let q = ap m.point e in omega arith
not_earlier m done rest c d p lt (inr i) =
    let le : m.point c ≤ m.point d =
    (each_at (IsEarlier m.point c) d rest (pairs_back (IsEarlier m.point) done (c ∷ rest) p.sorted).0
    i).0 in
    omega arith

is_next : (m : Marks) (done rest : List ℕ) (c : ℕ) → IsByPoint m (done ++ c ∷ rest) → IsNext m done c
is_next m done rest c p = record {
  stands = p.only c (in_right c done (c ∷ rest) (inl refl));
  later = λ d i. pairs_across (IsEarlier m.point) done (c ∷ rest) p.sorted d c i (inl refl);
  earlier = λ d s lt. elim (in_append d done (c ∷ rest) (p.every d s)) [
    | inl i ↦ i
    | inr j ↦ absurd (not_earlier m done rest c d p lt j)
  ];
}

-- a call is not earlier than itself
not_self : (point : ℕ → ℕ) (c d : ℕ) → IsEarlier point c d → c ≡ d → ⊥
not_self point c d h e = let same : point c ≡ point d = ap point e in let lt : c < d = h.1 same in omega arith

pub not_before : (p q : ℕ) → (q ≤ p → ⊥) → p < q
not_before p q h = elim (cases_lt p q) [ inl lt ↦ lt | inr le ↦ absurd (h le) ]

-- a Got comes after the enqueue of its item
source_first : (k : ℕ) (act : ℕ → Effect) (m : Marks) → PointsFit k act m → (c g : ℕ) → IsAdd act m c
    → IsTakeOf act m c g
    → m.point c < m.point g
source_first k act m f c g a t =
    let at : m.tail (m.point c) ≡ m.visit c = f.added c a.1 a.0 a.2 in
    let past : m.visit (m.source g) < m.tail (m.point g) = f.beyond g t.1 t.0 t.2 in
    let same : m.visit (m.source g) ≡ m.visit c = ap m.visit t.3 in
    not_before (m.point c) (m.point g) (λ h. let up = f.tail_rises (m.point g) (m.point c) h in omega arith)

-- an item whose visit the head has left by now is out
pub out_already : (k : ℕ) (act : ℕ → Effect) (m : Marks) (done queue : List ℕ) (c a : ℕ) → PointsFit k act m
    → IsNext m done c
    → Holds act m done queue → IsIn a queue → m.visit a < m.head (m.point c) → ⊥
out_already k act m done queue c a f n h i lt =
    let add : IsAdd act m a = h.is_add a i in
    let g = f.left_behind a (m.point c) add lt in
    let t : IsTakeOf act m a g.0 = g.1 in
    let at : m.head (m.point g.0) ≡ m.visit (m.source g.0) = f.taken g.0 t.1 t.0 t.2 in
    let same : m.visit (m.source g.0) ≡ m.visit a = ap m.visit t.3 in
    let sooner : m.point g.0 < m.point c = not_before (m.point g.0) (m.point c)
    (λ le. let up = f.head_rises (m.point c) (m.point g.0) le in omega arith) in
    h.untaken a g.0 i (n.earlier g.0 t.0 sooner) t

pub visits_rise : (k : ℕ) (act : ℕ → Effect) (m : Marks) (a e : ℕ) → PointsFit k act m → IsAdd act m a → IsAdd act m e
    → m.point a ≤ m.point e → m.visit a ≤ m.visit e
visits_rise k act m a e f i j le =
    let up = f.tail_rises (m.point a) (m.point e) le in
    let x = f.added a i.1 i.0 i.2 in
    let y = f.added e j.1 j.0 j.2 in
    omega arith

pub le_from_not : (a b : ℕ) → (a < b → ⊥) → b ≤ a
le_from_not a b h = elim (cases_lt a b) [ inl lt ↦ absurd (h lt) | inr le ↦ le ]

-- what stands in the queue before the item of a Got is of its visit
same_visit : (k : ℕ) (act : ℕ → Effect) (m : Marks) (done queue : List ℕ) (g a e : ℕ) → PointsFit k act m
    → IsNext m done g
    → Holds act m done queue → IsIn a queue → IsAdd act m e → m.point a ≤ m.point e → m.head (m.point g) ≡ m.visit e
    → m.visit a ≡ m.visit e
same_visit k act m done queue g a e f n h i j le at =
    let up = visits_rise k act m a e f (h.is_add a i) j le in
    let down = le_from_not (m.visit a) (m.head (m.point g)) (out_already k act m done queue g a f n h i) in
    omega arith

found : (k : ℕ) (act : ℕ → Effect) (m : Marks) (done queue : List ℕ) (g c : ℕ) → PointsFit k act m → IsNext m done g
    → Holds act m done queue → IsAdd act m c → IsTakeOf act m c g → IsIn c queue
found k act m done queue g c f n h a t =
    h.kept c (n.earlier c a.0 (source_first k act m f c g a t)) a
    (λ g2 i t2. not_self m.point g2 g (n.later g2 i) (f.taken_once c g2 g t2 t))

slot_in : (k : ℕ) (act : ℕ → Effect) (m : Marks) (l : List ℕ) → PointsFit k act m → ((a : ℕ) → IsIn a l → IsAdd act m a)
    → (s : ℕ) → (x : ℕ)
    × IsIn x l × (s ≡ m.slot x) → s < k
slot_in k act m l f add s p =
    let a = add p.0 p.1 in
    let lt = f.slot_below p.0 a.1 a.0 a.2 in
    let e : s ≡ m.slot p.0 = p.2 in
    omega arith

-- Distinct enqueues of one visit are at most k.
pub one_visit : (k : ℕ) (act : ℕ → Effect) (m : Marks) (l : List ℕ) (v : ℕ) → PointsFit k act m → EachPair Differ l
    → ((a : ℕ) → IsIn a l → IsAdd act m a) → ((a : ℕ) → IsIn a l → m.visit a ≡ v) → length l ≤ k
one_visit k act m l v f d add same =
    let S : ℕ → ℕ → Type 0 = λ x y. m.slot x ≢ m.slot y in
    let pairs = pairs_map Differ m.slot l (pairs_weaker Differ S l
    (λ x y i j ne e. ne (f.slots_differ x y (add x i) (add y j) (same x i ∙ sym (same y j)) e)) d) in
    let short : length (map m.slot l) ≤ k =
    at_most k (map m.slot l) pairs (λ s i. slot_in k act m l f add s (in_map m.slot s l i)) in
    let n = length-map l m.slot in
    omega arith

pub earlier_differ : (point : ℕ → ℕ) (l : List ℕ) → EachPair (IsEarlier point) l → EachPair Differ l
earlier_differ point l p = pairs_weaker (IsEarlier point) Differ l (λ x y i j e. not_self point x y e) p

-- fewer than k stand before the item of a Got
front_short : (k : ℕ) (act : ℕ → Effect) (m : Marks) (done a b : List ℕ) (g e : ℕ) → PointsFit k act m → IsNext m done g
    → Holds act m done (a ++ e ∷ b) → IsTakeOf act m e g → length a < k
front_short k act m done a b g e f n h t =
    let R : ℕ → ℕ → Type 0 = IsEarlier m.point in
    let add : IsAdd act m e = h.is_add e (in_right e a (e ∷ b) (inl refl)) in
    let at : m.head (m.point g) ≡ m.visit e = f.taken g t.1 t.0 t.2 ∙ ap m.visit t.3 in
    let to_e = λ (x : ℕ) (i : IsIn x a). pairs_across R a (e ∷ b) h.sorted x e i (inl refl) in
    let pairs = earlier_differ m.point (a ++ e ∷ []) (pairs_push R a e (pairs_front R a (e ∷ b) h.sorted) to_e) in
    let short : length (a ++ e ∷ []) ≤ k = one_visit k act m (a ++ e ∷ []) (m.visit e) f pairs
    (λ x i. elim (in_append x a (e ∷ []) i) [
      | inl j ↦ h.is_add x (in_left x a (e ∷ b) j)
      | inr j ↦ elim j [ inl q ↦ (let P : ℕ → Type 0 = λ w. IsAdd act m w in subst P (sym q) add) | inr q ↦ absurd q ]
    ])
    (λ x i. elim (in_append x a (e ∷ []) i) [
      | inl j ↦
          same_visit k act m done (a ++ e ∷ b) g x e f n h (in_left x a (e ∷ b) j) add (to_e x j).0 at
      | inr j ↦
          elim j [ inl q ↦ ap m.visit q | inr q ↦ absurd q ]
    ]) in
    omega (arith, length-append a (e ∷ []))

adds_not_takes : (act : ℕ → Effect) (m : Marks) (c d : ℕ) → IsAdd act m c → IsTakeOf act m d c → ⊥
adds_not_takes act m c d a t = let p = a.2 in let q = t.2 in cc

-- a member of a list with c at its end
push_cases : (x c : ℕ) (l : List ℕ) → IsIn x (l ++ c ∷ []) → IsIn x l ⊎ (x ≡ c)
push_cases x c l h = elim (in_append x l (c ∷ []) h) [
  | inl i ↦ inl i
  | inr j ↦ elim j [
    | inl e ↦ inr e
    | inr n ↦ absurd n
  ]
]

take_along : (act : ℕ → Effect) (m : Marks) (d g c : ℕ) → g ≡ c → IsTakeOf act m d g → IsTakeOf act m d c
take_along act m d g c e t = let P : ℕ → Type 0 = λ w. IsTakeOf act m d w in subst P e t

add_along : (act : ℕ → Effect) (m : Marks) (d c : ℕ) → d ≡ c → IsAdd act m d → IsAdd act m c
add_along act m d c e t = let P : ℕ → Type 0 = λ w. IsAdd act m w in subst P e t

-- a call that neither adds nor takes
holds_same : (act : ℕ → Effect) (m : Marks) (done queue : List ℕ) (c : ℕ) → (IsAdd act m c → ⊥)
    → ((d : ℕ) → IsTakeOf act m d c → ⊥)
    → Holds act m done queue → Holds act m (done ++ c ∷ []) queue
holds_same act m done queue c no_add no_take h = record {
  sorted = h.sorted;
  is_done = λ d i. in_left d done (c ∷ []) (h.is_done d i);
  is_add = h.is_add;
  untaken = λ d g i j t. elim (push_cases g c done j) [
    | inl u ↦ h.untaken d g i u t
    | inr e ↦ no_take d (take_along act m d g c e t)
  ];
  kept = λ d i a free. elim (push_cases d c done i) [
    | inl u ↦ h.kept d u a (λ g j t. free g (in_left g done (c ∷ []) j) t)
    | inr e ↦ absurd (no_add (add_along act m d c e a))
  ];
}

holds_added : (k : ℕ) (act : ℕ → Effect) (m : Marks) (done queue : List ℕ) (c : ℕ) → PointsFit k act m → IsNext m done c
    → IsAdd act m c
    → Holds act m done queue → Holds act m (done ++ c ∷ []) (queue ++ c ∷ [])
holds_added k act m done queue c f n a h = record {
  sorted = pairs_push (IsEarlier m.point) queue c h.sorted (λ x i. n.later x (h.is_done x i));
  is_done = λ d i. elim (push_cases d c queue i) [
    | inl u ↦ in_left d done (c ∷ []) (h.is_done d u)
    | inr e ↦ in_right d done (c ∷ []) (inl e)
  ];
  is_add = λ d i. elim (push_cases d c queue i) [ inl u ↦ h.is_add d u | inr e ↦ add_along act m c d (sym e) a ];
  untaken = λ d g i j t. elim (push_cases g c done j) [
    | inl u ↦ elim (push_cases d c queue i) [
      | inl v ↦ h.untaken d g v u t
      | inr e ↦ (let lt = source_first k act m f d g (add_along act m c d (sym e) a) t in let le : m.point g
          ≤ m.point c = (n.later g u).0 in let same : m.point d ≡ m.point c = ap m.point e in absurd (omega arith))
    ]
    | inr e ↦ adds_not_takes act m c d a (take_along act m d g c e t)
  ];
  kept = λ d i b free. elim (push_cases d c done i) [
    | inl u ↦ in_left d queue (c ∷ []) (h.kept d u b (λ g j t. free g (in_left g done (c ∷ []) j) t))
    | inr e ↦ in_right d queue (c ∷ []) (inl e)
  ];
}

not_twice : (act : ℕ → Effect) (m : Marks) (a b : List ℕ) (e d : ℕ) → EachPair Differ (a ++ e ∷ b) → IsIn d (a ++ b)
    → e ≡ d → ⊥
not_twice act m a b e d p i q =
    elim (in_append d a b i) [
      | inl j ↦ pairs_across Differ a (e ∷ b) p d e j (inl refl) (sym q)
      | inr j ↦ each_at (Differ e) d b (pairs_back Differ a (e ∷ b) p).0 j q
    ]

kept_others : (act : ℕ → Effect) (m : Marks) (done a b : List ℕ) (e d g : ℕ) → IsTakeOf act m e g
    → ((g2 : ℕ) → IsIn g2 (done ++ g ∷ []) → IsTakeOf act m d g2 → ⊥) → IsIn d (a ++ e ∷ b) → IsIn d (a ++ b)
kept_others act m done a b e d g t free i =
    elim (in_more d e a b i) [
      | inl q ↦ absurd (free g (in_right g done (g ∷ []) (inl refl)) (t.0, t.1, t.2, t.3 ∙ sym q))
      | inr j ↦ j
    ]

holds_taken : (k : ℕ) (act : ℕ → Effect) (m : Marks) (done a b : List ℕ) (e g : ℕ) → PointsFit k act m → IsNext m done g
    → IsTakeOf act m e g → Holds act m done (a ++ e ∷ b) → Holds act m (done ++ g ∷ []) (a ++ b)
holds_taken k act m done a b e g f n t h = record {
  sorted = pairs_less (IsEarlier m.point) e a b h.sorted;
  is_done = λ d i. in_left d done (g ∷ []) (h.is_done d (in_less d e a b i));
  is_add = λ d i. h.is_add d (in_less d e a b i);
  untaken = λ d g2 i j t2. elim (push_cases g2 g done j) [
    | inl u ↦ h.untaken d g2 (in_less d e a b i) u t2
    | inr q ↦ not_twice act m a b e d (earlier_differ m.point (a ++ e ∷ b) h.sorted) i
        (sym t.3 ∙ (take_along act m d g2 g q t2).3)
  ];
  kept = λ d i add free. elim (push_cases d g done i) [
    | inl u ↦ kept_others act m done a b e d g t free
        (h.kept d u add (λ g2 j t2. free g2 (in_left g2 done (g ∷ []) j) t2))
    | inr q ↦ absurd (adds_not_takes act m g e (add_along act m d g q add) t)
  ];
}

inside : (a b : List ℕ) (x : ℕ) → length a < length (a ++ x ∷ b)
inside a b x = omega (arith, length-append a (x ∷ b))

get_at : (a b : List ℕ) (x : ℕ) → slice_get (a ++ x ∷ b) (length a) ≡ Some x
get_at a b x = slice_get-get_or (a ++ x ∷ b) (length a) 0 (inside a b x)
    ∙ ap (λ y. Some y) (get_or_at a x b 0 (length a) refl)

remove_at : (a b : List ℕ) (x : ℕ) → remove (a ++ x ∷ b) (length a) ≡ a ++ b
remove_at [] b x = refl
remove_at (y ∷ a) b x = ap (λ t. y ∷ t) (remove_at a b x)

item_is : (act : ℕ → Effect) (c x : ℕ) → act c ≡ Adds x → item act c ≡ x
item_is act c x e = ap item_of e

leaves_at : (k : ℕ) (a b after : List ℕ) (y x : ℕ) → y ≡ x → length a < k → after ≡ a ++ b
    → Leaves k (a ++ y ∷ b) (Takes x) after
leaves_at k a b after y x e lt is = (length a, lt, get_at a b y ∙ ap (λ z. Some z) e, is ∙ sym (remove_at a b y))

leaves_taken : (k : ℕ) (act : ℕ → Effect) (a b : List ℕ) (e x : ℕ) → act e ≡ Adds x → length a < k
    → Leaves k (map (item act) (a ++ e ∷ b)) (Takes x) (map (item act) (a ++ b))
leaves_taken k act a b e x q lt =
    let P : List ℕ → Type 0 = λ items. Leaves k items (Takes x) (map (item act) (a ++ b)) in
    let short : length (map (item act) a) < k = omega (arith, length-map a (item act)) in
    subst P (sym (map-append (item act) a (e ∷ b)))
    (leaves_at k (map (item act) a) (map (item act) b) (map (item act) (a ++ b)) (item act e) x (item_is act e x q)
    short
    (map-append (item act) a b))

-- the queue's items before a call, its effect and those after it, of which rest is a run
abbrev pub Goes : ℕ → List ℕ → Effect → List Effect → Type 0
Goes k items e rest = (after : List ℕ) × Leaves k items e after × IsRun k after rest

step_taken : (k : ℕ) (act : ℕ → Effect) (m : Marks) (done queue : List ℕ) (rest : List Effect) (c x : ℕ)
    → PointsFit k act m
    → IsNext m done c → act c ≡ Takes x → Holds act m done queue → IsParted (m.source c) queue
    → ((next : List ℕ) → Holds act m (done ++ c ∷ []) next → IsRun k (map (item act) next) rest)
    → Goes k (map (item act) queue) (Takes x) rest
step_taken k act m done queue rest c x f n q h p go =
    let e = m.source c in
    let t : IsTakeOf act m (m.source c) c = (n.stands, x, q, refl) in
    let H : List ℕ → Type 0 = λ w. Holds act m done w in
    let G : List ℕ → Type 0 = λ w. Goes k (map (item act) w) (Takes x) rest in
    let h2 = subst H p.is h in
    subst G (sym p.is) (
      map (item act) (p.front ++ p.back),
      leaves_taken k act p.front p.back (m.source c) x (f.source_adds c x n.stands q)
          (front_short k act m done p.front p.back c (m.source c) f n h2 t),
      go (p.front ++ p.back) (holds_taken k act m done p.front p.back (m.source c) c f n t h2),
    )

-- at an Empty nothing stands in the queue
nothing_left : (k : ℕ) (act : ℕ → Effect) (m : Marks) (done queue : List ℕ) (c d : ℕ) → PointsFit k act m
    → IsNext m done c
    → act c ≡ FindsNone → Holds act m done queue → IsIn d queue → ⊥
nothing_left k act m done queue c d f n q h i =
    let add : IsAdd act m d = h.is_add d i in
    let le : m.point d ≤ m.point c = (n.later d (h.is_done d i)).0 in
    let at = f.added d add.1 add.0 add.2 in
    let up = f.tail_rises (m.point d) (m.point c) le in
    let ends = f.empty_ends c n.stands q in
    let not_here = f.empty_visit c d n.stands q add le in
    let lt : m.visit d < m.head (m.point c) = omega arith in
    out_already k act m done queue c d f n h i lt

is_nil : (queue : List ℕ) → ((d : ℕ) → IsIn d queue → ⊥) → queue ≡ []
is_nil [] f = refl
is_nil (d ∷ ds) f = absurd (f d (inl refl))

step : (k : ℕ) (act : ℕ → Effect) (m : Marks) (done queue : List ℕ) (rest : List Effect) (c : ℕ) → PointsFit k act m
    → IsNext m done c
    → Holds act m done queue
    → ((next : List ℕ) → Holds act m (done ++ c ∷ []) next → IsRun k (map (item act) next) rest) → (e : Effect)
    → act c ≡ e → Goes k (map (item act) queue) e rest
step k act m done queue rest c f n h go (Adds x) q = (
  map (item act) (queue ++ c ∷ []),
  map_push (item act) queue c ∙ ap (λ y. map (item act) queue ++ y ∷ []) (item_is act c x q),
  go (queue ++ c ∷ []) (holds_added k act m done queue c f n (n.stands, x, q) h),
)
step k act m done queue rest c f n h go (Takes x) q =
    let a : IsAdd act m (m.source c) = (f.source_stands c x n.stands q, x, f.source_adds c x n.stands q) in
    let t : IsTakeOf act m (m.source c) c = (n.stands, x, q, refl) in
    step_taken k act m done queue rest c x f n q h
    (parted (m.source c) queue (found k act m done queue c (m.source c) f n h a t)) go
step k act m done queue rest c f n h go FindsNone q =
    let none = is_nil queue (λ d i. nothing_left k act m done queue c d f n q h i) in (
      map (item act) queue,
      (ap (map (item act)) none, ap (map (item act)) none),
      go queue (holds_same act m done queue c (λ a. let r = a.2 in let bad : ⊥ = cc in bad) (λ d t. let r =
          t.2 in let bad : ⊥ = cc in bad) h),
    )
step k act m done queue rest c f n h go Refused q = (
  map (item act) queue,
  refl,
  go queue (holds_same act m done queue c (λ a. let r = a.2 in let bad : ⊥ = cc in bad) (λ d t. let r =
      t.2 in let bad : ⊥ = cc in bad) h),
)
step k act m done queue rest c f n h go Wrong q = absurd (f.sound c n.stands q)

run_from : (k : ℕ) (act : ℕ → Effect) (m : Marks) (rest done queue : List ℕ) → PointsFit k act m
    → IsByPoint m (done ++ rest)
    → Holds act m done queue → IsRun k (map (item act) queue) (map act rest)
run_from k act m [] done queue f p h = tt
run_from k act m (c ∷ rest) done queue f p h =
    step k act m done queue (map act rest) c f (is_next m done rest c p) h
    (λ next h2. run_from k act m rest (done ++ c ∷ []) next f
    (let P : List ℕ → Type 0 = λ w. IsByPoint m w in subst P (sym (append_assoc done (c ∷ []) rest)) p) h2)
    (act c) refl

nothing_held : (act : ℕ → Effect) (m : Marks) → Holds act m [] []
nothing_held act m = record {
  sorted = tt;
  is_done = λ c i. i;
  is_add = λ c i. absurd i;
  untaken = λ c g i j t. i;
  kept = λ c i a free. i;
}

-- The calls that stand, in ascending order of point and number, are a run.
pub run_by_point : (k : ℕ) (act : ℕ → Effect) (m : Marks) (order : List ℕ) → PointsFit k act m → IsByPoint m order
    → IsRun k [] (map act order)
run_by_point k act m order f p = run_from k act m order [] [] f p (nothing_held act m)
