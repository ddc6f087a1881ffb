-- Two histories of the same calls, g and h: an order that is legal in h is legal in g, and h has what g has of distinct
-- items, finished enqueues and certain overtakings.
use Rattle.std.proofs.Common.{ℕ, ◌≡◌, ◌<◌, ◌≤◌, ◌⊎◌, ◌&&◌, Bool, true, not, List, [], ◌∷◌, ◌++◌, length, map, refl, sym}
use Rattle.std.proofs.Common.{◌∙◌, ap, subst, inl, inr, arith, Option, Some, None, length-append}
use Rattle.std.specs.List.{filter}
use Rattle.std.proofs.lemmas.Bool.{cases_lt, and_parts, and_from, not-true, not_from_false, false_from_ne_true}
use Rattle.std.proofs.lemmas.Bool.{false≢true, ltb-true, lt-ltb}
use Rattle.std.proofs.lemmas.List.{length-map}
use Rattle.kfifo_model.proofs.Types.{Call, Effect, End, Op}
use Rattle.kfifo_model.specs.declared.calls.Op.TheVariants.{Enqueue, Dequeue}
use Rattle.kfifo_model.specs.Lists.{IsIn, EachPair}
use Rattle.kfifo_model.specs.declared.effects.Effect.TheVariants.{Adds, Takes}
use Rattle.kfifo_model.specs.Relaxed.{effect, IsRun}
use Rattle.kfifo_model.specs.Histories.{call, does, effect_at, CanStand, HasEnd, IsFinished, EndsBelow, Precedes}
use Rattle.kfifo_model.specs.Histories.{HasOnlyCalls, IsOrder, IsLegal}
use Rattle.kfifo_model.specs.Overtaking.{some, adds, takes, overtakes_at, overtakes, ends_below, precedes, numbers_of}
use Rattle.kfifo_model.specs.Overtaking.{certainly_overtaken}
use Rattle.kfifo_model.specs.Measures.{EndsDone, IsDoneEnqueue, HasDistinctItems}
use Rattle.kfifo_model.specs.Matching.{Bijects, Matches}
use Rattle.kfifo_model.proofs.Lists.{in_more, parted, each_at, each_from, each_map, in_map, pairs_map, pairs_weaker}
use Rattle.kfifo_model.proofs.Lists.{Differ}
use Rattle.kfifo_model.proofs.Ranges.{in_filter, into_filter, pairs_filter, range_differs, some_at, some_from}
use Rattle.kfifo_model.proofs.Checking.{in_bounds}
use Rattle.kfifo_model.proofs.Measuring.{listed, below}

-- ---- lists

-- what f makes of a member is a member of what it makes of the list
pub into_map : (f : ℕ → ℕ) (x : ℕ) (l : List ℕ) → IsIn x l → IsIn (f x) (map f l)
into_map f x [] i = absurd i
into_map f x (y ∷ l) (inl e) = inl (ap f e)
into_map f x (y ∷ l) (inr i) = inr (into_map f x l i)

-- f after t, member for member, is r
pub map_through : {X : Type 0} (f r : ℕ → X) (t : ℕ → ℕ) (l : List ℕ) → ((x : ℕ) → IsIn x l → f (t x) ≡ r x)
    → map f (map t l) ≡ map r l
map_through f r t [] e = refl
map_through f r t (x ∷ l) e =
    ap (λ y. y ∷ map f (map t l)) (e x (inl refl)) ∙ ap (λ ys. r x ∷ ys) (map_through f r t l (λ y i. e y (inr i)))

-- a list with no repeats whose members are all in another is no longer than that one
pub no_longer : (l others : List ℕ) → EachPair Differ l → ((x : ℕ) → IsIn x l → IsIn x others)
    → length l ≤ length others
no_longer [] others d f = omega arith
no_longer (x ∷ l) others d f =
    let p = parted x others (f x (inl refl)) in
    let P : ℕ → List ℕ → Type 0 = λ y t. IsIn y t in
    let le : length l ≤ length (p.front ++ p.back) =
    no_longer l (p.front ++ p.back) d.1
    (λ y i. elim (in_more y x p.front p.back (subst (P y) p.is (f y (inr i)))) [
      | inl e ↦ absurd (each_at (Differ x) y l d.0 i (sym e))
      | inr j ↦ j
    ]) in
    let whole = ap length p.is in
    omega (arith, whole, length-append p.front p.back, length-append p.front (x ∷ p.back))

-- ---- numbers one to one

-- the same pairs the other way
abbrev pub flipped : (a b : ℕ) → Bijects a b → Bijects b a
flipped a b t = record {
  to = t.from;
  from = t.to;
  to_within = t.from_within;
  from_within = t.to_within;
  forth = t.back;
  back = t.forth;
}

-- numbers that go to one are one
pub one_to : (a b : ℕ) (t : Bijects a b) (x y : ℕ) → x < a → y < a → t.to x ≡ t.to y → x ≡ y
one_to a b t x y lx ly e = sym (t.forth x lx) ∙ (ap t.from e ∙ t.forth y ly)

-- each number below a has a partner below b
abbrev pub HasPartners : (ℕ → ℕ → Type 0) → ℕ → ℕ → Type 0
HasPartners R a b = (n : ℕ) → n < a → (m : ℕ) × (m < b) × R n m

-- the partner of n, or n itself past a
abbrev partner : (R : ℕ → ℕ → Type 0) (a b n : ℕ) → HasPartners R a b → (n < a) ⊎ (a ≤ n) → ℕ
partner R a b n f (inl lt) = (f n lt).0
partner R a b n f (inr le) = n

is_partner : (R : ℕ → ℕ → Type 0) (a b n : ℕ) (f : HasPartners R a b) (c : (n < a) ⊎ (a ≤ n)) → n < a
    → (partner R a b n f c < b) × R n (partner R a b n f c)
is_partner R a b n f (inl lt) q = ((f n lt).1, (f n lt).2)
is_partner R a b n f (inr le) q = absurd (omega arith)

-- where R gives each number below a one partner below b, and each below b one below a, it pairs them one to one
pub match_by : (R : ℕ → ℕ → Type 0) (a b : ℕ) → HasPartners R a b → HasPartners (λ m n. R n m) b a
    → ((n o m : ℕ) → n < a → o < a → m < b → R n m → R o m → n ≡ o)
    → ((n m p : ℕ) → n < a → m < b → p < b → R n m → R n p → m ≡ p)
    → (t : Bijects a b) × ((n : ℕ) → n < a → R n (t.to n))
match_by R a b left right one_left one_right =
    let S : ℕ → ℕ → Type 0 = λ m n. R n m in
    let to : ℕ → ℕ = λ n. partner R a b n left (cases_lt n a) in
    let from : ℕ → ℕ = λ m. partner S b a m right (cases_lt m b) in
    let there : (n : ℕ) → n < a → (to n < b) × R n (to n) = λ n lt. is_partner R a b n left (cases_lt n a) lt in
    let here : (m : ℕ) → m < b → (from m < a) × R (from m) m = λ m lt. is_partner S b a m right (cases_lt m b) lt in (
      record {
        to = to;
        from = from;
        to_within = λ n lt. (there n lt).0;
        from_within = λ m lt. (here m lt).0;
        forth = λ n lt. let t = there n lt in let u = here (to n) t.0 in
            one_left (from (to n)) n (to n) u.0 lt t.0 u.1 t.1;
        back = λ m lt. let u = here m lt in let t = there (from m) u.0 in
            one_right (from m) (to (from m)) m u.0 t.0 lt t.1 u.1;
      },
      λ n lt. (there n lt).1,
    )

-- ---- calls that match

-- one answer, one effect
same_effect : (op : Op) (o p : Option End) (e f : End) → o ≡ Some e → p ≡ Some f → e.answer ≡ f.answer
    → effect_at op o ≡ effect_at op p
same_effect op o p e f oe pf a = ap (effect_at op) oe ∙ (ap (effect op) a ∙ sym (ap (effect_at op) pf))

-- a call does the same in both histories, here by its number in g, and next by the one in h
pub same_does : (g h : List Call) (m : Matches g h) (n : ℕ) → n < length g → does g n ≡ does h (m.numbers.to n)
same_does g h m n lt =
    let there = call h (m.numbers.to n) in
    let a = m.answers n lt in
    ap (λ op. effect_at op (call g n).end) (m.same_op n lt) ∙ same_effect there.op (call g n).end there.end a.0 a.1 a.2
    a.3 a.4

pub does_back : (g h : List Call) (m : Matches g h) (n : ℕ) → n < length h → does g (m.numbers.from n) ≡ does h n
does_back g h m n lt =
    same_does g h m (m.numbers.from n) (m.numbers.from_within n lt) ∙ ap (does h) (m.numbers.back n lt)

has_end : (o : Option End) (e : End) → o ≡ Some e → HasEnd o
has_end o e q = subst HasEnd (sym q) tt

can_stand : (o : Option End) (op : Op) → HasEnd o → CanStand o op
can_stand (Some e) op f = tt
can_stand None op f = absurd f

-- a finished call is one of the history's
pub finished_within : (h : List Call) (n : ℕ) → IsFinished h n → n < length h
finished_within h n f = in_bounds h n (can_stand (call h n).end (call h n).op f)

-- ---- orders

-- the members of an order are numbers of calls
order_within : (h : List Call) (order : List ℕ) (x : ℕ) → HasOnlyCalls h order → IsIn x order → x < length h
order_within h order x calls i = in_bounds h x (each_at (λ c. CanStand (call h c).end (call h c).op) x order calls i)

-- what precedes in g precedes in h, for calls by their numbers in h
precedes_back : (g h : List Call) (m : Matches g h) (c d : ℕ) → c < length h → d < length h
    → Precedes g (m.numbers.from c) (m.numbers.from d) → Precedes h c d
precedes_back g h m c d lc ld p =
    let t = m.numbers in
    let P : ℕ → Type 0 = λ w. Precedes h w (t.to (t.from d)) in
    let Q : ℕ → Type 0 = λ w. Precedes h c w in
    subst Q (t.back d ld)
    (subst P (t.back c lc) (m.keeps (t.from c) (t.from d) (t.from_within c lc) (t.from_within d ld) p))

-- an order of h is one of g
matched_order : (g h : List Call) (order : List ℕ) (m : Matches g h) → IsOrder h order
    → IsOrder g (map m.numbers.from order)
matched_order g h order m o =
    let t = m.numbers in
    let inside : (x : ℕ) → IsIn x order → x < length h = λ x i. order_within h order x o.calls i in
    record {
      distinct = pairs_map Differ t.from order
          (pairs_weaker Differ (λ x y. Differ (t.from x) (t.from y)) order
          (λ x y i j ne e. ne (one_to (length h) (length g) (flipped (length g) (length h) t) x y (inside x i)
          (inside y j) e)) o.distinct);
      calls = each_map (λ c. CanStand (call g c).end (call g c).op) t.from order
          (each_from (λ c. CanStand (call g (t.from c)).end (call g (t.from c)).op) order
          (λ x i. let a = m.answers (t.from x) (t.from_within x (inside x i)) in
          let c = call g (t.from x) in can_stand c.end c.op (has_end c.end a.0 a.2)));
      complete = λ c f.
          let lt = finished_within g c f in
          let a = m.answers c lt in
          let i = o.complete (t.to c) (has_end (call h (t.to c)).end a.1 a.3) in
          let P : ℕ → Type 0 = λ w. IsIn w (map t.from order) in
          subst P (t.forth c lt) (into_map t.from (t.to c) order i);
      before = pairs_map (λ c d. Precedes g d c → ⊥) t.from order
          (pairs_weaker (λ c d. Precedes h d c → ⊥) (λ c d. Precedes g (t.from d) (t.from c) → ⊥) order
          (λ x y i j no p. no (precedes_back g h m y x (inside y j) (inside x i) p)) o.before);
    }

-- a legal order of h is one of g, by the numbers there
pub matched_legal : (k : ℕ) (g h : List Call) (order : List ℕ) (m : Matches g h) → IsLegal k h order
    → IsLegal k g (map m.numbers.from order)
matched_legal k g h order m l =
    let P : List Effect → Type 0 = λ es. IsRun k [] es in
    let same = map_through (does g) (does h) m.numbers.from order
    (λ x i. does_back g h m x (order_within h order x l.is_order.calls i)) in
    record { is_order = matched_order g h order m l.is_order; is_run = subst P (sym same) l.is_run }

-- ---- overtakings

precedes_true : (o : Option End) (step : ℕ) → EndsBelow o step → ends_below o step ≡ true
precedes_true (Some e) step lt = lt-ltb e.last step lt
precedes_true None step lt = absurd lt

precedes_from : (o : Option End) (step : ℕ) → ends_below o step ≡ true → EndsBelow o step
precedes_from (Some e) step q = ltb-true e.last step q
precedes_from None step q = absurd (false≢true q)

-- what precedes in g precedes in h, as a test
still_precedes : (g h : List Call) (m : Matches g h) (c d : ℕ) → c < length g → d < length g
    → precedes g c d ≡ true → precedes h (m.numbers.to c) (m.numbers.to d) ≡ true
still_precedes g h m c d lc ld q =
    let t = m.numbers in
    precedes_true (call h (t.to c)).end (call h (t.to d)).first
    (m.keeps c d lc ld (precedes_from (call g c).end (call g d).first q))

-- n puts y after c
abbrev puts_after : (ℕ → Effect) → (ℕ → ℕ → Bool) → ℕ → ℕ → ℕ → Bool
puts_after act before c y n = adds y (act n) && before c n

-- n takes x, and not after d
abbrev takes_by : (ℕ → Effect) → (ℕ → ℕ → Bool) → ℕ → ℕ → ℕ → Bool
takes_by act before d x n = takes x (act n) && not (before d n)

both_tests : (a b p q : Bool) → (a ≡ true → p ≡ true) → (q ≡ true → b ≡ true) → (a && not b) ≡ true
    → (p && not q) ≡ true
both_tests a b p q f r e =
    let s = and_parts a (not b) e in
    and_from p (not q) (f s.0) (not_from_false q (false_from_ne_true q (λ w. false≢true (sym (not-true b s.1) ∙ r w))))

-- calls c and d among ns, and i and j among ms, which do the same e and f: where d overtakes c, j overtakes i, if what
-- is put after c is put after i, and what is taken, and not after j, is taken, and not after d
overtakes_still : (act now : ℕ → Effect) (before sooner : ℕ → ℕ → Bool) (ns ms : List ℕ) (c d i j : ℕ) (e f : Effect)
    → ((y : ℕ) → some (puts_after act before c y) ns ≡ true → some (puts_after now sooner i y) ms ≡ true)
    → ((x : ℕ) → some (takes_by now sooner j x) ms ≡ true → some (takes_by act before d x) ns ≡ true)
    → overtakes_at act before ns c d e f ≡ true → overtakes_at now sooner ms i j e f ≡ true
overtakes_still act now before sooner ns ms c d i j (Adds x) (Takes y) put taken q =
    both_tests (some (puts_after act before c y) ns) (some (takes_by act before d x) ns)
    (some (puts_after now sooner i y) ms) (some (takes_by now sooner j x) ms)
    (put y) (taken x) q
overtakes_still act now before sooner ns ms c d i j e f put taken q = absurd (false≢true q)

-- where some call of g puts y after c, some call of h does
still_put : (g h : List Call) (m : Matches g h) (c y : ℕ) → c < length g
    → some (puts_after (does g) (precedes g) c y) (numbers_of g) ≡ true
    → some (puts_after (does h) (precedes h) (m.numbers.to c) y) (numbers_of h) ≡ true
still_put g h m c y lt q =
    let t = m.numbers in
    let s = some_at (puts_after (does g) (precedes g) c y) (numbers_of g) q in
    let ls = below g s.0 s.1 in
    let n = t.to s.0 in
    let p = and_parts (adds y (does g s.0)) (precedes g c s.0) s.2 in
    let puts : adds y (does h n) ≡ true = ap (adds y) (sym (same_does g h m s.0 ls)) ∙ p.0 in
    some_from (puts_after (does h) (precedes h) (t.to c) y) n (numbers_of h) (listed h n (t.to_within s.0 ls))
    (and_from (adds y (does h n)) (precedes h (t.to c) n) puts (still_precedes g h m c s.0 lt ls p.1))

-- where some call of h takes x, and not after d, some call of g does
was_taken : (g h : List Call) (m : Matches g h) (d x : ℕ) → d < length g
    → some (takes_by (does h) (precedes h) (m.numbers.to d) x) (numbers_of h) ≡ true
    → some (takes_by (does g) (precedes g) d x) (numbers_of g) ≡ true
was_taken g h m d x lt q =
    let t = m.numbers in
    let s = some_at (takes_by (does h) (precedes h) (t.to d) x) (numbers_of h) q in
    let ls = below h s.0 s.1 in
    let n = t.from s.0 in
    let ln = t.from_within s.0 ls in
    let p = and_parts (takes x (does h s.0)) (not (precedes h (t.to d) s.0)) s.2 in
    let taken : takes x (does g n) ≡ true = ap (takes x) (does_back g h m s.0 ls) ∙ p.0 in
    let not_before : precedes g d n ≡ true → ⊥ = λ w.
    false≢true (sym (not-true (precedes h (t.to d) s.0) p.1)
    ∙ (ap (precedes h (t.to d)) (sym (t.back s.0 ls)) ∙ still_precedes g h m d n lt ln w)) in
    some_from (takes_by (does g) (precedes g) d x) n (numbers_of g) (listed g n ln)
    (and_from (takes x (does g n)) (not (precedes g d n)) taken
    (not_from_false (precedes g d n) (false_from_ne_true (precedes g d n) not_before)))

-- d overtakes c in a history
abbrev beats : List Call → ℕ → ℕ → Bool
beats h c d = overtakes (does h) (precedes h) (numbers_of h) c d

-- a call that overtakes c in g overtakes it in h
still_beats : (g h : List Call) (m : Matches g h) (c d : ℕ) → c < length g → d < length g
    → beats g c d ≡ true → beats h (m.numbers.to c) (m.numbers.to d) ≡ true
still_beats g h m c d lc ld q =
    let t = m.numbers in
    let there : Effect → Effect
    → Bool = λ e f. overtakes_at (does h) (precedes h) (numbers_of h) (t.to c) (t.to d) e f in
    ap (λ e. there e (does h (t.to d))) (sym (same_does g h m c lc))
    ∙ (ap (λ f. there (does g c) f) (sym (same_does g h m d ld))
    ∙ overtakes_still (does g) (does h) (precedes g) (precedes h) (numbers_of g) (numbers_of h) c d (t.to c) (t.to d)
    (does g c) (does g d)
    (λ y. still_put g h m c y lc) (λ x. was_taken g h m d x ld) q)

-- the numbers of the calls that overtake c
abbrev overtakers : List Call → ℕ → List ℕ
overtakers h c = filter (beats h c) (numbers_of h)

overtaker_below : (h : List Call) (c d : ℕ) → IsIn d (overtakers h c) → d < length h
overtaker_below h c d i = below h d (in_filter (beats h c) d (numbers_of h) i).0

still_overtaker : (g h : List Call) (m : Matches g h) (c d : ℕ) → c < length g → IsIn d (overtakers g c)
    → IsIn (m.numbers.to d) (overtakers h (m.numbers.to c))
still_overtaker g h m c d lt i =
    let t = m.numbers in
    let ld = overtaker_below g c d i in
    into_filter (beats h (t.to c)) (t.to d) (numbers_of h) (listed h (t.to d) (t.to_within d ld))
    (still_beats g h m c d lt ld (in_filter (beats g c) d (numbers_of g) i).1)

-- no two of them go to one number of h
overtakers_differ : (g h : List Call) (m : Matches g h) (c : ℕ) → EachPair Differ (map m.numbers.to (overtakers g c))
overtakers_differ g h m c =
    let t = m.numbers in
    let l = overtakers g c in
    pairs_map Differ t.to l
    (pairs_weaker Differ (λ x y. Differ (t.to x) (t.to y)) l
    (λ x y i j ne e. ne (one_to (length g) (length h) t x y (overtaker_below g c x i) (overtaker_below g c y j) e))
    (pairs_filter Differ (beats g c) (numbers_of g) (range_differs 0 (length g))))

-- the overtakings of an item that g makes certain are no more than those that h makes certain
pub matched_overtaken : (g h : List Call) (m : Matches g h) (c : ℕ) → c < length g
    → certainly_overtaken g c ≤ certainly_overtaken h (m.numbers.to c)
matched_overtaken g h m c lt =
    let t = m.numbers in
    let l = overtakers g c in
    let others = overtakers h (t.to c) in
    let P : ℕ → Type 0 = λ w. IsIn w others in
    let le : length (map t.to l) ≤ length others =
    no_longer (map t.to l) others (overtakers_differ g h m c)
    (λ y i. let p = in_map t.to y l i in subst P (sym p.2) (still_overtaker g h m c p.0 lt p.1)) in
    let sized : length (map t.to l) ≡ length l = length-map l t.to in
    let Q : ℕ → Type 0 = λ n. n ≤ length others in
    subst Q sized le

-- ---- items

-- where only one call of g does e, only one of h does
one_call : (g h : List Call) (m : Matches g h) (e : Effect) (c d : ℕ)
    → ((i j : ℕ) → IsIn i (numbers_of g) → IsIn j (numbers_of g) → does g i ≡ e → does g j ≡ e → i ≡ j)
    → IsIn c (numbers_of h) → IsIn d (numbers_of h) → does h c ≡ e → does h d ≡ e → c ≡ d
one_call g h m e c d once ic id a b =
    let t = m.numbers in
    let lc = below h c ic in
    let ld = below h d id in
    let one = once (t.from c) (t.from d) (listed g (t.from c) (t.from_within c lc))
    (listed g (t.from d) (t.from_within d ld))
    (does_back g h m c lc ∙ a) (does_back g h m d ld ∙ b) in
    one_to (length h) (length g) (flipped (length g) (length h) t) c d lc ld one

-- where no item is added or taken twice in g, none is in h
pub matched_distinct : (g h : List Call) (m : Matches g h) → HasDistinctItems g → HasDistinctItems h
matched_distinct g h m d = (
  λ x c i. one_call g h m (Adds x) c i (d.0 x),
  λ x c i. one_call g h m (Takes x) c i (d.1 x),
)

done_stands : (op : Op) (o : Option End) → EndsDone op o → CanStand o op
done_stands (Enqueue x) (Some e) q = tt
done_stands (Enqueue x) None q = absurd q
done_stands Dequeue o q = absurd q

-- an enqueue that was Done is one of the history's calls
pub done_within : (h : List Call) (c : ℕ) → IsDoneEnqueue h c → c < length h
done_within h c d = in_bounds h c (done_stands (call h c).op (call h c).end d)

done_same : (op : Op) (e f : End) → e.answer ≡ f.answer → EndsDone op (Some e) → EndsDone op (Some f)
done_same (Enqueue x) e f a q = sym a ∙ q
done_same Dequeue e f a q = q

-- an enqueue that was Done in g was Done in h
pub matched_done : (g h : List Call) (m : Matches g h) (c : ℕ) → c < length g → IsDoneEnqueue g c
    → IsDoneEnqueue h (m.numbers.to c)
matched_done g h m c lt d =
    let there = call h (m.numbers.to c) in
    let a = m.answers c lt in
    let P : Option End → Type 0 = λ o. EndsDone (call g c).op o in
    let Q : Option End → Type 0 = λ o. EndsDone there.op o in
    let R : Op → Type 0 = λ op. EndsDone op (Some a.0) in
    subst Q (sym a.3) (done_same there.op a.0 a.1 a.4 (subst R (m.same_op c lt) (subst P a.2 d)))
