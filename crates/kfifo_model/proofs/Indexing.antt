-- An index grows call by call; counted over the rivals that it gives, an item's certain overtakings are all of them.
use Rattle.std.proofs.Common.{ℕ, zero, suc, ◌≡◌, ◌≢◌, ◌+◌, ◌<◌, ◌⊎◌, ◌&&◌, ◌||◌, Bool, true, false, cond, not, eqb, ltb}
use Rattle.std.proofs.Common.{List, [], ◌∷◌, ◌++◌, length, refl, sym, ◌∙◌, ap, subst, inl, inr, arith, Option, Some}
use Rattle.std.proofs.Common.{None}
use Rattle.std.specs.Option.{MatchOption, option_map, option_to_list, is_some}
use Rattle.std.proofs.lemmas.Bool.{cases_lt, cases_eq, ne_eqb, false≢true}
use Rattle.std.proofs.lemmas.Bool.{and_parts, eqb-true, eq-eqb, false_from_ne_true}
use Rattle.std.proofs.lemmas.List.Sums.{sum_by-cons, sum_by-append}
use Rattle.std.specs.List.{filter, range_with_len, count_by}
use Rattle.kfifo_model.proofs.Types.{Call, Effect, End, Op, Rival}
use Rattle.kfifo_model.specs.Overtaking.{some, adds, takes, ends_below, precedes, overtakes_at, overtakes, numbers_of}
use Rattle.kfifo_model.specs.Overtaking.{certainly_overtaken}
use Rattle.kfifo_model.proofs.Ranges.{in_range, some_at, some_none, some_below}
use Rattle.kfifo_model.proofs.Measuring.{below, listed, count_more, count_same}
use Rattle.std.specs.Ordering.{nat_cmp, is_eq}
use Rattle.std.specs.BTreeMap.{is_at}
use Rattle.std.specs.declared.cmp.Ordering.TheVariants.{Less, Equal, Greater}
use Rattle.kfifo_model.specs.declared.effects.Side.{Side}
use Rattle.kfifo_model.specs.declared.effects.Side.TheVariants.{In, Out}
use Rattle.kfifo_model.specs.declared.effects.Effect.TheVariants.{Adds, Takes, FindsNone, Refused, Wrong}
use Rattle.kfifo_model.specs.Relaxed.{effect}
use Rattle.kfifo_model.specs.Histories.{call, does, effect_at}
use Rattle.kfifo_model.specs.Index.{side_effect, HasTwo, IsIndex}
use Rattle.kfifo_model.specs.Rivals.{last_of, rival_of, rivals_below, rival_at, ends_before, is_beaten}
use Rattle.kfifo_model.specs.Measures.{done_item_of, done_item, measure_of, measured}
use Rattle.kfifo_model.specs.Measures.{HasDistinctItems, EndsDone, IsDoneEnqueue}
use Rattle.kfifo_model.specs.declared.overtakings.Overtaken.{Overtaken}
use Rattle.kfifo_model.specs.declared.calls.Op.TheVariants.{Enqueue, Dequeue}
use Rattle.kfifo_model.specs.declared.calls.Answer.{Answer}
use Rattle.kfifo_model.specs.declared.calls.Answer.TheVariants.{Done, Full, Got, Empty, Busy, Worn}
use Rattle.std.proofs.lemmas.List.{append-nil}

abbrev Finds : List Call → Side → ℕ → ℕ → Option ℕ → Type 0
Finds h side n x o = MatchOption o ((j : ℕ) → j < n → does h j ≡ side_effect side x → ⊥)
    (λ f. (j : ℕ) × (j < n) × (does h j ≡ side_effect side x) × ((call h j).first ≡ f))

at_below : (n j : ℕ) → j < n + 1 → (j < n) ⊎ (j ≡ n)
at_below n j lt = elim (cases_lt j n) [ inl below ↦ inl below | inr le ↦ inr (omega arith) ]

finds_skip : (h : List Call) (side : Side) (n x : ℕ) (o : Option ℕ) → Finds h side n x o
    → (does h n ≡ side_effect side x → ⊥)
    → Finds h side (n + 1) x o
finds_skip h side n x None f g = λ j lt e. elim (at_below n j lt) [
  | inl below ↦ f j below e
  | inr s ↦ g (ap (does h) (sym s) ∙ e)
]
finds_skip h side n x (Some t) f g = (f.0, (let lt : f.0 < n = f.1 in omega arith), f.2, f.3)

one_effect : (side : Side) (x y : ℕ) → side_effect side x ≡ side_effect side y → x ≡ y
one_effect In x y e = cc
one_effect Out x y e = cc

once_more : (h : List Call) (side : Side) (n : ℕ)
    → ((x i j : ℕ) → i < n → j < n → does h i ≡ side_effect side x → does h j ≡ side_effect side x → i ≡ j)
    → ((x j : ℕ) → j < n → does h j ≡ side_effect side x → does h n ≡ side_effect side x → ⊥) → (x i j : ℕ) → i < n + 1
    → j < n + 1
    → does h i ≡ side_effect side x → does h j ≡ side_effect side x → i ≡ j
once_more h side n f g x i j li lj a b =
    elim (at_below n i li) [
      | inl p ↦ elim (at_below n j lj) [
        | inl q ↦ f x i j p q a b
        | inr e ↦ absurd (g x i p a (ap (does h) (sym e) ∙ b))
      ]
      | inr d ↦ elim (at_below n j lj) [ inl q ↦ absurd (g x j q b (ap (does h) (sym d) ∙ a)) | inr e ↦ d ∙ sym e ]
    ]

pub index_skip : (h : List Call) (side : Side) (n : ℕ) (g : ℕ → Option ℕ) → IsIndex h side n g
    → ((x : ℕ) → does h n ≡ side_effect side x → ⊥) → IsIndex h side (n + 1) g
index_skip h side n g i f = record {
  finds = λ x. finds_skip h side n x (g x) (i.finds x) (f x);
  once = once_more h side n i.once (λ x j lt a b. f x b);
}

found_none : (h : List Call) (side : Side) (n x : ℕ) (o : Option ℕ) → o ≡ None → Finds h side n x o → (j : ℕ) → j < n
    → does h j ≡ side_effect side x → ⊥
found_none h side n x None e f = f
found_none h side n x (Some t) e f = absurd (cc)

pub index_more : (h : List Call) (side : Side) (n x f : ℕ) (g k : ℕ → Option ℕ) → IsIndex h side n g → g x ≡ None
    → does h n ≡ side_effect side x → (call h n).first ≡ f → k x ≡ Some f → ((q : ℕ) → q ≢ x → k q ≡ g q)
    → IsIndex h side (n + 1) k
index_more h side n x f g k i new e first here others = record {
  finds = λ q. elim (cases_eq q x) [
    | inl s ↦ (
        let P : Option ℕ → Type 0 = λ o. Finds h side (n + 1) x o in
        let Q : ℕ → Type 0 = λ w. Finds h side (n + 1) w (k w) in
        subst Q (sym s) (subst P (sym here) (n, omega arith, e, first))
        )
    | inr ne ↦ (
        let P : Option ℕ → Type 0 = λ o. Finds h side (n + 1) q o in
        subst P (sym (others q ne))
        (finds_skip h side n q (g q) (i.finds q) (λ d. ne (one_effect side q x (sym d ∙ e))))
        )
  ];
  once = once_more h side n i.once (λ q j lt a b. let s = one_effect side q x (sym b ∙ e) in let P : ℕ
      → Type 0 = λ w. does h j ≡ side_effect side w in found_none h side n x (g x) new (i.finds x) j lt (subst P s a));
}

not_equal : (a b : Bool) → b ≡ false → is_eq (cond a Less (cond b Equal Greater)) ≡ false
not_equal true b e = refl
not_equal false true e = e
not_equal false false e = refl

pub differs : (x q : ℕ) → q ≢ x → is_at (nat_cmp x) q ≡ false
differs x q ne = not_equal (ltb x q) (eqb x q) (ne_eqb x q (λ e. ne (sym e)))

pub was_none : (o p : Option ℕ) → o ≡ p → false ≡ is_some o → p ≡ None
was_none None p e f = sym e
was_none (Some x) p e f = absurd (false≢true f)

-- ---- counts

count_step : (t : ℕ → Bool) (n : ℕ) (b : Bool) → t n ≡ b
    → length (filter t (range_with_len 0 (n + 1))) ≡ length (filter t (range_with_len 0 n)) + cond b 1 0
count_step t n true e = count_more t n e
count_step t n false e = let z : length (filter t (range_with_len 0 n)) ≡ length (filter t (range_with_len 0 n)) + 0 =
    omega arith in
    count_same t n e ∙ z

abbrev pub test_of : (Rival → Bool) → Option Rival → Bool
test_of p None = false
test_of p (Some r) = p r

count_option : (p : Rival → Bool) (o : Option Rival) → count_by p (option_to_list o) ≡ cond (test_of p o) 1 0
count_option p None = refl
count_option p (Some r) = sum_by-cons (λ x. cond (p x) 1 0) r []
    ∙ (let z : cond (p r) 1 0 + 0 ≡ cond (p r) 1 0 = omega arith in z)

pub count_rivals : (h : List Call) (g : ℕ → Option ℕ) (p : Rival → Bool) (n : ℕ)
    → count_by p (rivals_below h g n) ≡ length (filter (λ d. test_of p (rival_at h g d)) (range_with_len 0 n))
count_rivals h g p zero = refl
count_rivals h g p (suc n) =
    sum_by-append (λ x. cond (p x) 1 0) (rivals_below h g n) (option_to_list (rival_at h g n))
    ∙ (ap (λ t. t + count_by p (option_to_list (rival_at h g n))) (count_rivals h g p n)
    ∙ (ap (λ t. length (filter (λ d. test_of p (rival_at h g d)) (range_with_len 0 n)) + t)
    (count_option p (rival_at h g n))
    ∙ (sym (count_step (λ d. test_of p (rival_at h g d)) n (test_of p (rival_at h g n)) refl)
    ∙ ap (λ k. length (filter (λ d. test_of p (rival_at h g d)) (range_with_len 0 k))) (let z : n + 1 ≡ suc n =
    omega arith in z))))

pub filter_same : (p q : ℕ → Bool) (l : List ℕ) → ((d : ℕ) → p d ≡ q d) → filter p l ≡ filter q l
filter_same p q [] f = refl
filter_same p q (x ∷ l) f = ap (λ b. cond b (x ∷ filter p l) (filter p l)) (f x)
    ∙ ap (λ t. cond (q x) (x ∷ t) t) (filter_same p q l f)

-- ---- a test that only one number can pass

one_some : (t : ℕ → Bool) (n j : ℕ) → j < n → ((i : ℕ) → i < n → t i ≡ true → i ≡ j) → (b : Bool) → t j ≡ b
    → some t (range_with_len 0 n) ≡ t j
one_some t n j lt f true e = some_below t n j lt e ∙ sym e
one_some t n j lt f false e =
    false_from_ne_true (some t (range_with_len 0 n)) (λ s. let p = some_at t (range_with_len 0 n) s in
    let r = in_range 0 n p.0 p.1 in
    let q : p.0 < n = (let a = r.1 in omega arith) in
    false≢true (sym e ∙ (ap t (sym (f p.0 q p.2)) ∙ p.2))) ∙ sym e

adds_is : (x : ℕ) (e : Effect) → adds x e ≡ true → e ≡ Adds x
adds_is x (Adds y) q = ap Adds (sym (eqb-true x y q))
adds_is x (Takes y) q = absurd (false≢true q)
adds_is x FindsNone q = absurd (false≢true q)
adds_is x Refused q = absurd (false≢true q)
adds_is x Wrong q = absurd (false≢true q)

takes_is : (x : ℕ) (e : Effect) → takes x e ≡ true → e ≡ Takes x
takes_is x (Takes y) q = ap Takes (sym (eqb-true x y q))
takes_is x (Adds y) q = absurd (false≢true q)
takes_is x FindsNone q = absurd (false≢true q)
takes_is x Refused q = absurd (false≢true q)
takes_is x Wrong q = absurd (false≢true q)

abbrev option_test : (ℕ → Bool) → Option ℕ → Bool
option_test t None = false
option_test t (Some x) = t x

twice : (b : Bool) → not (not b) ≡ b
twice true = refl
twice false = refl

-- the call that put y comes after one that ended at last
put_after : (h : List Call) (last y : ℕ) (o : Option ℕ) → Finds h In (length h) y o
    → ((i j : ℕ) → i < length h → j < length h → does h i ≡ Adds y → does h j ≡ Adds y → i ≡ j)
    → some (λ e. adds y (does h e) && ltb last (call h e).first) (range_with_len 0 (length h))
    ≡ option_test (ltb last) o
put_after h last y None f once =
    some_none (λ e. adds y (does h e) && ltb last (call h e).first) 0 (length h)
    (λ j lt. false_from_ne_true _ (λ s. let p = and_parts (adds y (does h j)) (ltb last (call h j).first) s in let q : j
    < length h = omega arith in f j q (adds_is y (does h j) p.0)))
put_after h last y (Some t) f once =
    one_some (λ e. adds y (does h e) && ltb last (call h e).first) (length h) f.0 f.1
    (λ i lt s. let p = and_parts (adds y (does h i)) (ltb last (call h i).first) s in once i f.0 lt f.1
    (adds_is y (does h i) p.0) f.2) _
    refl
    ∙ (ap (λ b. b && ltb last (call h f.0).first) (ap (adds y) f.2 ∙ eq-eqb y y refl) ∙ ap (ltb last) f.3)

-- no call that got x begins by the step at which another ended
got_after : (h : List Call) (last x : ℕ) (o : Option ℕ) → Finds h Out (length h) x o
    → ((i j : ℕ) → i < length h → j < length h → does h i ≡ Takes x → does h j ≡ Takes x → i ≡ j)
    → not (some (λ t. takes x (does h t) && not (ltb last (call h t).first)) (range_with_len 0 (length h)))
    ≡ ends_before last o
got_after h last x None f once =
    ap not (some_none (λ t. takes x (does h t) && not (ltb last (call h t).first)) 0 (length h)
    (λ j lt. false_from_ne_true _ (λ s. let p = and_parts (takes x (does h j)) (not (ltb last (call h j).first)) s in
    let q : j
    < length h = omega arith in f j q (takes_is x (does h j) p.0))))
got_after h last x (Some t) f once =
    ap not (one_some (λ e. takes x (does h e) && not (ltb last (call h e).first)) (length h) f.0 f.1
    (λ i lt s. let p = and_parts (takes x (does h i)) (not (ltb last (call h i).first)) s in
    once i f.0 lt f.1 (takes_is x (does h i) p.0) f.2) _ refl
    ∙ (ap (λ b. b && not (ltb last (call h f.0).first)) (ap (takes x) f.2 ∙ eq-eqb x x refl)
    ∙ ap (λ w. not (ltb last w)) f.3))
    ∙ twice (ltb last t)

-- ---- overtakings by the index

some_same : (p q : ℕ → Bool) (l : List ℕ) → ((e : ℕ) → p e ≡ q e) → some p l ≡ some q l
some_same p q [] f = refl
some_same p q (x ∷ l) f = ap (λ b. b || some p l) (f x) ∙ ap (λ b. q x || b) (some_same p q l f)

takes_ended : (op : Op) (o : Option End) (x : ℕ) → effect_at op o ≡ Takes x → (s : ℕ)
    → ends_below o s ≡ ltb (last_of o) s
takes_ended op (Some end) x e s = refl
takes_ended (Enqueue y) None x e s = absurd (cc)
takes_ended Dequeue None x e s = absurd (cc)

done_adds : (a : Answer) (y x : ℕ) → done_item_of a y ≡ Some x → effect (Enqueue y) a ≡ Adds x
done_adds Done y x e = ap Adds (let q : y ≡ x = cc in q)
done_adds Full y x e = absurd (cc)
done_adds (Got z) y x e = absurd (cc)
done_adds Empty y x e = absurd (cc)
done_adds Busy y x e = absurd (cc)
done_adds Worn y x e = absurd (cc)

pub done_effect : (op : Op) (o : Option End) (x : ℕ) → done_item op o ≡ Some x → effect_at op o ≡ Adds x
done_effect (Enqueue y) (Some end) x e = done_adds end.answer y x e
done_effect (Enqueue y) None x e = absurd (cc)
done_effect Dequeue o x e = absurd (cc)

pub done_ended : (op : Op) (o : Option End) (x : ℕ) → done_item op o ≡ Some x → (s : ℕ)
    → ends_below o s ≡ ltb (last_of o) s
done_ended op (Some end) x e s = refl
done_ended (Enqueue y) None x e s = absurd (cc)
done_ended Dequeue None x e s = absurd (cc)

rival_test : (last got_last f : ℕ) (g : Option ℕ) (o : Option ℕ)
    → test_of (is_beaten last g) (option_map (λ t. record { put_first = t; got_last = got_last }) o)
    ≡ (option_test (ltb last) o && ends_before got_last g)
rival_test last got_last f g None = refl
rival_test last got_last f g (Some t) = refl

-- the call d, which has this effect
by_effect : (h : List Call) (puts gots : ℕ → Option ℕ) → IsIndex h In (length h) puts → IsIndex h Out (length h) gots
    → (c x last : ℕ)
    → ((s : ℕ) → ends_below (call h c).end s ≡ ltb last s) → (d : ℕ) (e : Effect) → does h d ≡ e
    → overtakes_at (does h) (precedes h) (numbers_of h) c d (Adds x) e
    ≡ test_of (is_beaten last (gots x)) (rival_of puts e (last_of (call h d).end))
by_effect h puts gots p g c x last ends d (Takes y) q =
    let n = numbers_of h in
    let now = takes_ended (call h d).op (call h d).end y q in
    ap (λ b. b && not (some (λ t. takes x (does h t) && not (precedes h d t)) n))
    (some_same (λ e. adds y (does h e) && precedes h c e) (λ e. adds y (does h e) && ltb last (call h e).first) n
    (λ e. ap (λ b. adds y (does h e) && b) (ends (call h e).first))
    ∙ put_after h last y (puts y) (p.finds y) (p.once y))
    ∙ (ap (λ b. option_test (ltb last) (puts y) && b)
    (ap not (some_same (λ t. takes x (does h t) && not (precedes h d t))
    (λ t. takes x (does h t) && not (ltb (last_of (call h d).end) (call h t).first)) n
    (λ t. ap (λ b. takes x (does h t) && not b) (now (call h t).first)))
    ∙ got_after h (last_of (call h d).end) x (gots x) (g.finds x) (g.once x))
    ∙ sym (rival_test last (last_of (call h d).end) 0 (gots x) (puts y)))
by_effect h puts gots p g c x last ends d (Adds y) q = refl
by_effect h puts gots p g c x last ends d FindsNone q = refl
by_effect h puts gots p g c x last ends d Refused q = refl
by_effect h puts gots p g c x last ends d Wrong q = refl

overtakes_is : (h : List Call) (puts gots : ℕ → Option ℕ) → IsIndex h In (length h) puts → IsIndex h Out (length h) gots
    → (c x last : ℕ)
    → does h c ≡ Adds x → ((s : ℕ) → ends_below (call h c).end s ≡ ltb last s) → (d : ℕ)
    → overtakes (does h) (precedes h) (numbers_of h) c d ≡ test_of (is_beaten last (gots x)) (rival_at h puts d)
overtakes_is h puts gots p g c x last adds ends d =
    ap (λ e. overtakes_at (does h) (precedes h) (numbers_of h) c d e (does h d)) adds
    ∙ by_effect h puts gots p g c x last ends d (does h d) refl

-- the overtakings that are certain, counted over the rivals
pub count_is : (h : List Call) (puts gots : ℕ → Option ℕ) → IsIndex h In (length h) puts → IsIndex h Out (length h) gots
    → (c x last : ℕ)
    → does h c ≡ Adds x → ((s : ℕ) → ends_below (call h c).end s ≡ ltb last s)
    → count_by (λ r. is_beaten last (gots x) r) (rivals_below h puts (length h)) ≡ certainly_overtaken h c
count_is h puts gots p g c x last adds ends =
    count_rivals h puts (λ r. is_beaten last (gots x) r) (length h)
    ∙ ap length (sym (filter_same (overtakes (does h) (precedes h) (numbers_of h) c)
    (λ d. test_of (λ r. is_beaten last (gots x) r) (rival_at h puts d)) (numbers_of h)
    (overtakes_is h puts gots p g c x last adds ends)))

next_measured : (h : List Call) (n : ℕ) → measured h (n + 1)
    ≡ measured h n ++ measure_of n (certainly_overtaken h n) (done_item (call h n).op (call h n).end)
next_measured h n = ap (measured h) (let z : n + 1 ≡ suc n = omega arith in z)

pub measured_none : (h : List Call) (n : ℕ) (found : List Overtaken) → found ≡ measured h n
    → done_item (call h n).op (call h n).end ≡ None
    → found ≡ measured h (n + 1)
measured_none h n found e q =
    e ∙ (sym (append-nil (measured h n)) ∙ (ap (λ o. measured h n ++ measure_of n (certainly_overtaken h n) o) (sym q)
    ∙ sym (next_measured h n)))

pub measured_some : (h : List Call) (puts gots : ℕ → Option ℕ) → IsIndex h In (length h) puts
    → IsIndex h Out (length h) gots
    → (n : ℕ) (rivals : List Rival) (found more : List Overtaken) (o : Overtaken)
    → rivals ≡ rivals_below h puts (length h)
    → found ≡ measured h n → o.call ≡ n → done_item (call h n).op (call h n).end ≡ Some o.item
    → o.count ≡ count_by (λ r. is_beaten (last_of (call h n).end) (gots o.item) r) rivals → more ≡ found ++ o ∷ []
    → more ≡ measured h (n + 1)
measured_some h puts gots p g n rivals found more o rs e number item count is =
    let c = call h n in
    let total : o.count ≡ certainly_overtaken h n =
    count ∙ (ap (λ t. count_by (λ r. is_beaten (last_of c.end) (gots o.item) r) t) rs
    ∙ count_is h puts gots p g n o.item (last_of c.end) (done_effect c.op c.end o.item item)
    (done_ended c.op c.end o.item item)) in
    let same : o ≡ record { call = n; item = o.item; count = certainly_overtaken h n } =
    ap (λ t. let r : Overtaken = record { call = t; item = o.item; count = o.count } in r) number
    ∙ ap (λ t. let r : Overtaken = record { call = n; item = o.item; count = t } in r) total in
    is ∙ (ap (λ t. t ++ o ∷ []) e ∙ (ap (λ t. measured h n ++ t ∷ []) same
    ∙ (ap (λ t. measured h n ++ measure_of n (certainly_overtaken h n) t) (sym item) ∙ sym (next_measured h n))))

-- ---- the faults

pub all_distinct : (h : List Call) (puts gots : ℕ → Option ℕ) → IsIndex h In (length h) puts
    → IsIndex h Out (length h) gots
    → HasDistinctItems h
all_distinct h puts gots p g = (
  λ x c d i j a b. p.once x c d (below h c i) (below h d j) a b,
  λ x c d i j a b. g.once x c d (below h c i) (below h d j) a b,
)

pub two_puts : (h : List Call) → HasTwo h In → HasDistinctItems h → ⊥
two_puts h t d =
    let i : t.1 < t.2 = t.3 in
    let j : t.2 < length h = t.4 in
    let e = d.0 t.0 t.1 t.2 (listed h t.1 (omega arith)) (listed h t.2 (omega arith)) t.5 t.6 in
    omega arith

pub two_gots : (h : List Call) → HasTwo h Out → HasDistinctItems h → ⊥
two_gots h t d =
    let i : t.1 < t.2 = t.3 in
    let j : t.2 < length h = t.4 in
    let e = d.1 t.0 t.1 t.2 (listed h t.1 (omega arith)) (listed h t.2 (omega arith)) t.5 t.6 in
    omega arith

done_of_none : (a : Answer) (x : ℕ) → (a ≡ Done → ⊥) → done_item_of a x ≡ None
done_of_none Done x f = absurd (f refl)
done_of_none Full x f = refl
done_of_none (Got y) x f = refl
done_of_none Empty x f = refl
done_of_none Busy x f = refl
done_of_none Worn x f = refl

done_none : (op : Op) (o : Option End) → (EndsDone op o → ⊥) → done_item op o ≡ None
done_none (Enqueue x) (Some end) f = done_of_none end.answer x f
done_none (Enqueue x) None f = refl
done_none Dequeue o f = refl

pub none_measured : (h : List Call) (n : ℕ) → ((c : ℕ) → IsDoneEnqueue h c → ⊥) → measured h n ≡ []
none_measured h zero f = refl
none_measured h (suc n) f =
    ap (λ t. t ++ measure_of n (certainly_overtaken h n) (done_item (call h n).op (call h n).end)) (none_measured h n f)
    ∙ ap (measure_of n (certainly_overtaken h n)) (done_none (call h n).op (call h n).end (f n))
