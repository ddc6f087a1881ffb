-- Each kind of evidence refutes every order.
use Rattle.std.proofs.Common.{ℕ, ◌≡◌, ◌≢◌, ◌<◌, ◌≤◌, ◌⊎◌, ◌+◌, ◌&&◌, Bool, true, cond, leb, count_by, List, [], ◌∷◌}
use Rattle.std.proofs.Common.{◌++◌, length, map, refl, sym, ◌∙◌, ap, subst, inl, inr, arith, Option, Some, None}
use Rattle.std.proofs.Common.{slice_get, append_assoc}
use Rattle.std.proofs.lemmas.Bool.{cases_lt, eqb-true, leb-true, le-leb, and_parts, and_from}
use Rattle.std.proofs.lemmas.List.{map-append}
use Rattle.std.proofs.lemmas.List.Sums.{sum_by-append}
use Rattle.kfifo_verdict.proofs.Types.{Call, Effect, End}
use Rattle.kfifo_model.specs.declared.calls.Op.{Op}
use Rattle.kfifo_model.specs.declared.calls.Op.TheVariants.{Enqueue, Dequeue}
use Rattle.kfifo_model.specs.Lists.{IsIn, EachPair}
use Rattle.kfifo_model.specs.declared.effects.Effect.TheVariants.{Adds, Takes, FindsNone, Refused, Wrong}
use Rattle.kfifo_model.specs.Relaxed.{Leaves, IsRun}
use Rattle.kfifo_model.specs.Histories.{HasNoRepeats, call, does, effect_at, HasEnd, CanStand, IsFinished, EndsBelow}
use Rattle.kfifo_model.specs.Histories.{Precedes, IsLegal}
use Rattle.kfifo_model.specs.Overtaking.{adds, takes}
use Rattle.kfifo_model.specs.Validity.{IsHistory, EndsFrom}
use Rattle.kfifo_model.specs.Searching.{HasOrder}
use Rattle.kfifo_model.proofs.Lists.{in_append, in_left, in_right, parted, each_at, each_from, pairs_back, pairs_front}
use Rattle.kfifo_model.proofs.Lists.{pairs_across, pairs_weaker, Differ}
use Rattle.kfifo_model.proofs.Forgetting.{Has}
use Rattle.kfifo_model.proofs.Checking.{in_bounds}
use Rattle.kfifo_verdict.specs.Evidence.{Puts, Gets, IsSingle, IsNeverPut, IsTakenTwice, IsNotEmpty, IsOlder}
use Rattle.kfifo_verdict.specs.Evidence.{IsTooYoung, Rise, last_step, puts_begun, gets_ended, IsOverdrawn}
use Rattle.kfifo_verdict.specs.Evidence.{IsTakenTooSoon}
use Rattle.kfifo_verdict.proofs.Counting.{count_cons, count_into, count_within, count_weaker, last_passing, as_many}
use Rattle.kfifo_verdict.proofs.Runs.{RunsTo, run_split, run_front, runs_split, has_map, into_map, in_get, put_along}
use Rattle.kfifo_verdict.proofs.Runs.{came_along, IsBehind, behind_along, place_behind, times, taken_as_often}

-- ---- what an effect says of its call

takes_end : (op : Op) (o : Option End) (x : ℕ) → effect_at op o ≡ Takes x → HasEnd o
takes_end op (Some end) x e = tt
takes_end (Enqueue y) None x e = absurd (cc)
takes_end Dequeue None x e = absurd (cc)

finds_end : (op : Op) (o : Option End) → effect_at op o ≡ FindsNone → HasEnd o
finds_end op (Some end) e = tt
finds_end (Enqueue y) None e = absurd (cc)
finds_end Dequeue None e = absurd (cc)

adds_stand : (op : Op) (o : Option End) (x : ℕ) → effect_at op o ≡ Adds x → CanStand o op
adds_stand op (Some end) x e = tt
adds_stand (Enqueue y) None x e = tt
adds_stand Dequeue None x e = absurd (cc)

ends_stand : (o : Option End) (op : Op) → HasEnd o → CanStand o op
ends_stand (Some end) op e = tt
ends_stand None op e = absurd e

pub below_end : (o : Option End) (s : ℕ) → EndsBelow o s → HasEnd o
below_end (Some end) s b = tt
below_end None s b = absurd b

pub got_ended : (h : List Call) (x g : ℕ) → Gets h x g → IsFinished h g
got_ended h x g e = takes_end (call h g).op (call h g).end x e

pub found_ended : (h : List Call) (g : ℕ) → does h g ≡ FindsNone → IsFinished h g
found_ended h g e = finds_end (call h g).op (call h g).end e

pub put_inside : (h : List Call) (x p : ℕ) → Puts h x p → p < length h
put_inside h x p e = in_bounds h p (adds_stand (call h p).op (call h p).end x e)

pub ended_inside : (h : List Call) (c : ℕ) → IsFinished h c → c < length h
ended_inside h c e = in_bounds h c (ends_stand (call h c).end (call h c).op e)

-- ---- an order around one of its calls

-- The order is front, the call and back; the front leaves the items mid, in which the call is legal.
pub record IsAround (k : ℕ) (h : List Call) (order : List ℕ) (c : ℕ) : Type 0 where
  pub front : List ℕ
  pub back : List ℕ
  pub mid : List ℕ
  pub after : List ℕ
  pub is : order ≡ front ++ c ∷ back
  pub runs : RunsTo k [] (map (does h) front) mid
  pub legal : Leaves k mid (does h c) after
  pub distinct : EachPair Differ (front ++ c ∷ back)
  pub before : EachPair (λ d e. Precedes h e d → ⊥) (front ++ c ∷ back)

pub around : (k : ℕ) (h : List Call) (order : List ℕ) (c : ℕ) → IsLegal k h order → IsIn c order → IsAround k h order c
around k h order c l i =
    let p = parted c order i in
    let D : List ℕ → Type 0 = λ w. EachPair Differ w in
    let B : List ℕ → Type 0 = λ w. EachPair (λ d e. Precedes h e d → ⊥) w in
    let R : List Effect → Type 0 = λ w. IsRun k [] w in
    let r = run_split k [] (map (does h) p.front) (does h c ∷ map (does h) p.back)
    (subst R (ap (map (does h)) p.is ∙ map-append (does h) p.front (c ∷ p.back)) l.is_run) in
    record {
      front = p.front;
      back = p.back;
      mid = r.0;
      after = r.2.0;
      is = p.is;
      runs = r.1;
      legal = r.2.1;
      distinct = subst D p.is l.is_order.distinct;
      before = subst B p.is l.is_order.before;
    }

-- a call that precedes one of the front or this one stands in the front
pub in_front : (k : ℕ) (h : List Call) (order : List ℕ) (c d e : ℕ) (l : IsLegal k h order) (a : IsAround k h order c)
    → Precedes h d e
    → (e ≡ c) ⊎ IsIn e a.front → d ≢ c → IsIn d a.front
in_front k h order c d e l a pre where_e ne =
    let P : List ℕ → Type 0 = λ w. IsIn d w in
    let stands = l.is_order.complete d (below_end (call h d).end (call h e).first pre) in
    elim (in_append d a.front (c ∷ a.back) (subst P a.is stands)) [
      | inl i ↦ i
      | inr i ↦ elim i [
        | inl q ↦ absurd (ne q)
        | inr j ↦ elim where_e [
          | inl q ↦ absurd (each_at (λ w. Precedes h w c → ⊥) d a.back
              (pairs_back (λ u v. Precedes h v u → ⊥) a.front (c ∷ a.back) a.before).0 j
              (let Q : ℕ → Type 0 = λ w. Precedes h d w in subst Q q pre))
          | inr i ↦ absurd (pairs_across (λ u v. Precedes h v u → ⊥) a.front (c ∷ a.back) a.before e d i (inr j) pre)
        ]
      ]
    ]

-- a call that this one precedes does not stand in the front
pub not_in_front : (k : ℕ) (h : List Call) (order : List ℕ) (c d : ℕ) (a : IsAround k h order c) → Precedes h c d
    → IsIn d a.front → ⊥
not_in_front k h order c d a pre i = pairs_across (λ u v. Precedes h v u → ⊥) a.front (c ∷ a.back) a.before d c i
    (inl refl) pre

itself_not_in_front : (k : ℕ) (h : List Call) (order : List ℕ) (c : ℕ) (a : IsAround k h order c) → IsIn c a.front → ⊥
itself_not_in_front k h order c a i = pairs_across Differ a.front (c ∷ a.back) a.distinct c c i (inl refl) refl

-- ---- 1: never put

pub never_put_refutes : (k : ℕ) (h : List Call) (g : ℕ) → IsNeverPut h g → HasOrder k h → ⊥
never_put_refutes k h g n o =
    let x = n.0 in
    let a = around k h o.0 g o.1 (o.1.is_order.complete g (got_ended h x g n.1)) in
    let L : Effect → Type 0 = λ w. Leaves k a.mid w a.after in
    let s = subst L n.1 a.legal in
    elim (came_along k x [] a.mid (map (does h) a.front) a.runs (in_get a.mid s.0 x s.2)) [
      | inl never ↦ never
      | inr i ↦ (let p = has_map h (Adds x) a.front i in not_in_front k h o.0 g p.0 a (n.2 p.0 p.2) p.1)
    ]

-- ---- 2: taken twice

pub times_map : (h : List Call) (t : Effect → Bool) (l : List ℕ)
    → times t (map (does h) l) ≡ count_by (λ c. t (does h c)) l
times_map h t [] = refl
times_map h t (c ∷ l) = let on = times_map h t l in let p = count_cons (λ c. t (does h c)) c l in omega (arith, on, p)

pub takes_is : (x : ℕ) (e : Effect) → takes x e ≡ true → e ≡ Takes x
takes_is x (Takes y) t = ap (λ w. Takes w) (sym (eqb-true x y t))
takes_is x (Adds y) t = absurd (cc)
takes_is x FindsNone t = absurd (cc)
takes_is x Refused t = absurd (cc)
takes_is x Wrong t = absurd (cc)

pub adds_is : (x : ℕ) (e : Effect) → adds x e ≡ true → e ≡ Adds x
adds_is x (Adds y) t = ap (λ w. Adds w) (sym (eqb-true x y t))
adds_is x (Takes y) t = absurd (cc)
adds_is x FindsNone t = absurd (cc)
adds_is x Refused t = absurd (cc)
adds_is x Wrong t = absurd (cc)

pub taken_twice_refutes : (k : ℕ) (h : List Call) (g : ℕ) → IsTakenTwice h g → HasOrder k h → ⊥
taken_twice_refutes k h g n o =
    let x = n.0 in
    let order = o.0 in
    let gets = count_into (λ c. takes x (does h c)) (length h) order
    (λ c lt t. o.1.is_order.complete c (got_ended h x c (takes_is x (does h c) t))) in
    let puts = count_within (λ c. adds x (does h c)) (length h) order o.1.is_order.distinct
    (λ c i t. put_inside h x c (adds_is x (does h c) t)) in
    let runs = taken_as_often k x [] (map (does h) order) o.1.is_run in
    let a = times_map h (takes x) order in
    let b = times_map h (adds x) order in
    let more = n.3 in
    absurd (omega (arith, gets, puts, runs, a, b, more))

-- ---- 3: not empty

-- the greatest value of f on x and the list
pub greatest : (f : ℕ → ℕ) (x : ℕ) (l : List ℕ) → (m : ℕ) × ((m ≡ x) ⊎ IsIn m l) × (f x ≤ f m)
    × ((y : ℕ) → IsIn y l → f y ≤ f m)
greatest f x [] = (x, inl refl, omega arith, λ y i. absurd i)
greatest f x (z ∷ l) =
    let on = greatest f x l in
    elim (cases_lt (f on.0) (f z)) [
      | inl lt ↦ (
        z,
        inr (inl refl),
        (let a = on.2 in omega (arith, a)),
        λ y i. elim i [ inl e ↦ (let q = ap f e in omega (arith, q)) | inr j ↦ (let b = on.3 y j in omega (arith, b)) ],
      )
      | inr le ↦ (
        on.0,
        elim on.1 [ inl e ↦ inl e | inr i ↦ inr (inr i) ],
        on.2,
        λ y i. elim i [ inl e ↦ (let q = ap f e in omega (arith, q)) | inr j ↦ on.3 y j ],
      )
    ]

pub not_ended : (o : Option End) (s : ℕ) → (EndsBelow o s → ⊥) → EndsFrom s o
not_ended (Some end) s never = elim (cases_lt end.last s) [ inl lt ↦ absurd (never lt) | inr le ↦ le ]
not_ended None s never = tt

pub not_empty_refutes : (k : ℕ) (h : List Call) (e : ℕ) (puts : List ℕ) → IsHistory h → IsNotEmpty h e puts
    → HasOrder k h → ⊥
not_empty_refutes k h e puts v n o =
    let ended = found_ended h e n.empty in
    let a = around k h o.0 e o.1 (o.1.is_order.complete e ended) in
    let g = greatest (λ c. (call h c).first) e a.front in
    let lasts : EndsFrom (call h g.0).first (call h e).end = elim g.1 [
      | inl q ↦ (let P : ℕ → Type 0 = λ w. EndsFrom (call h w).first (call h e).end in subst P (sym q)
          (v e (ended_inside h e ended)).ends)
      | inr i ↦ not_ended (call h e).end (call h g.0).first (λ b. not_in_front k h o.0 e g.0 a b i)
    ] in
    let there = n.covered (call h g.0).first (g.2, lasts) in
    let p = there.0 in
    let t = there.2 in
    let ne : p ≢ e = λ q. let u = ap (does h) (sym q) ∙ t.single.puts in let w = sym n.empty ∙ u in absurd (cc) in
    let i = in_front k h o.0 e p g.0 o.1 a t.put g.1 ne in
    let L : Effect → Type 0 = λ w. Leaves k a.mid w a.after in
    let none = subst L n.empty a.legal in
    let x = put_along k t.item [] a.mid (map (does h) a.front) a.runs
    (into_map h (Adds t.item) a.front p i t.single.puts)
    (λ j. let d = has_map h (Takes t.item) a.front j in let lt = t.kept d.0 d.2 in let le = g.3 d.0 d.1 in
    absurd (omega (arith, lt, le))) in
    let Q : List ℕ → Type 0 = λ w. IsIn t.item w in
    subst Q none.0 x

-- ---- 4: too young

not_itself : (o : Option End) (s : ℕ) → EndsFrom s o → EndsBelow o s → ⊥
not_itself (Some end) s f b = absurd (omega arith)
not_itself None s f b = b

-- what stands behind the put of y, up to the call that gets it
behind_put : (k y q : ℕ) (h : List Call) (order : List ℕ) (g : ℕ) (a : IsAround k h order g) → IsSingle h y q
    → Gets h y g → IsIn q a.front
    → (front : List ℕ) × (back : List ℕ) × (a.front ≡ front ++ q ∷ back) × (items : List ℕ)
    × RunsTo k [] (map (does h) front) items
    × (IsIn y items → ⊥) × IsBehind y items a.mid (λ x. Has (Takes x) (map (does h) a.front))
behind_put k y q h order g a single gets i =
    let p = parted q a.front i in
    let R : List Effect → Type 0 = λ w. RunsTo k [] w a.mid in
    let whole = ap (map (does h)) p.is ∙ map-append (does h) p.front (q ∷ p.back) in
    let r = runs_split k [] (map (does h) p.front) (does h q ∷ map (does h) p.back) a.mid (subst R whole a.runs) in
    let L : Effect → Type 0 = λ w. Leaves k r.0 w r.2.0 in
    let is = subst L single.puts r.2.1 in
    let D : List ℕ → Type 0 = λ w. EachPair Differ w in
    let differs = subst D p.is (pairs_front Differ a.front (g ∷ a.back) a.distinct) in
    let H : List Effect → Type 0 = λ w. Has (Takes y) w in
    let not_taken : Has (Takes y) (map (does h) p.back) → ⊥ = λ j.
    let d = has_map h (Takes y) p.back j in
    let same = single.once d.0 g d.2 gets in
    let P : ℕ → Type 0 = λ w. IsIn w a.front in
    let F : List ℕ → Type 0 = λ w. IsIn d.0 w in
    itself_not_in_front k h order g a
    (subst P same (subst F (sym p.is) (in_right d.0 p.front (q ∷ p.back) (inr d.1)))) in
    let b = behind_along k y r.0 [] r.2.0 a.mid (map (does h) p.back) is r.2.2 not_taken in (
      p.front,
      p.back,
      p.is,
      r.0,
      r.1,
      λ j. elim (came_along k y [] r.0 (map (does h) p.front) r.1 j) [
        | inl never ↦ never
        | inr m ↦ (let d = has_map h (Adds y) p.front m in
            pairs_across Differ p.front (q ∷ p.back) differs d.0 q d.1 (inl refl) (single.alone d.0 d.2))
      ],
      record {
        before = b.before;
        behind = b.behind;
        is = b.is;
        was = b.was;
        kept = λ x j never. b.kept x j (λ m. never (let d = has_map h (Takes x) p.back m in let F : List ℕ → Type 0 =
            λ w. IsIn d.0 w in
            into_map h (Takes x) a.front d.0 (subst F (sym p.is) (in_right d.0 p.front (q ∷ p.back) (inr d.1))) d.2));
      },
    )

-- an older item stands before y
older_before : (k y q : ℕ) (h : List Call) (order : List ℕ) (g p : ℕ) (v : IsHistory h) (l : IsLegal k h order)
    (a : IsAround k h order g)
    (single : IsSingle h y q) (gets : Gets h y g) (i : IsIn q a.front) (older : IsOlder h g q p)
    → IsIn older.item (behind_put k y q h order g a single gets i).6.before
older_before k y q h order g p v l a single gets i older =
    let b = behind_put k y q h order g a single gets i in
    let not_q : p ≢ q = λ e. not_itself (call h q).end (call h q).first (v q (put_inside h y q single.puts)).ends
    (let P : ℕ → Type 0 = λ w. Precedes h w q in subst P e older.before) in
    let not_g : p ≢ g = λ e. let u = sym older.single.puts ∙ ap (does h) e in let w = u ∙ gets in absurd (cc) in
    let here = in_front k h order g p q l a older.before (inr i) not_g in
    let F : List ℕ → Type 0 = λ w. IsIn p w in
    let B : List ℕ → Type 0 = λ w. EachPair (λ d e. Precedes h e d → ⊥) w in
    let keeps = subst B b.2 (pairs_front (λ d e. Precedes h e d → ⊥) a.front (g ∷ a.back) a.before) in
    let first : IsIn p b.0 = elim (in_append p b.0 (q ∷ b.1) (subst F b.2 here)) [
      | inl j ↦ j
      | inr j ↦ elim j [
        | inl e ↦ absurd (not_q e)
        | inr m ↦ absurd (each_at (λ w. Precedes h w q → ⊥) p b.1 (pairs_back (λ d e. Precedes h e d → ⊥) b.0 (q ∷ b.1)
            keeps).0 m older.before)
      ]
    ] in
    let untaken : Has (Takes older.item) (map (does h) a.front) → ⊥ = λ j.
    let d = has_map h (Takes older.item) a.front j in not_in_front k h order g d.0 a (older.kept d.0 d.2) d.1 in
    let untaken_first : Has (Takes older.item) (map (does h) b.0) → ⊥ = λ j.
    let d = has_map h (Takes older.item) b.0 j in
    let G : List ℕ → Type 0 = λ w. IsIn d.0 w in
    untaken (into_map h (Takes older.item) a.front d.0 (subst G (sym b.2) (in_left d.0 b.0 (q ∷ b.1) d.1)) d.2) in
    b.6.kept older.item (put_along k older.item [] b.3 (map (does h) b.0) b.4
    (into_map h (Adds older.item) b.0 p first older.single.puts)
    untaken_first) untaken

-- rising numbers have no repeats
pub rising_distinct : (l : List ℕ) → Rise l → HasNoRepeats l
rising_distinct l rise =
    pairs_weaker (λ p q. p < q) (λ p q. p ≢ q) l (λ p q i j lt same. absurd (omega (arith, lt, same))) rise

pub too_young_refutes : (k n : ℕ) (h : List Call) (g : ℕ) (puts : List ℕ) → IsHistory h → k ≤ n → IsTooYoung n h g puts
    → HasOrder k h → ⊥
too_young_refutes k n h g puts v le t o =
    let y = t.item in
    let q = t.put in
    let a = around k h o.0 g o.1 (o.1.is_order.complete g (got_ended h y g t.gets)) in
    let L : Effect → Type 0 = λ w. Leaves k a.mid w a.after in
    let s = subst L t.gets a.legal in
    let i : IsIn q a.front = elim (came_along k y [] a.mid (map (does h) a.front) a.runs (in_get a.mid s.0 y s.2)) [
      | inl none ↦ absurd none
      | inr j ↦ (let d = has_map h (Adds y) a.front j in let P : ℕ → Type 0 =
          λ w. IsIn w a.front in subst P (t.single.alone d.0 d.2) d.1)
    ] in
    let b = behind_put k y q h o.0 g a t.single t.gets i in
    let G : List ℕ → Type 0 = λ w. slice_get w s.0 ≡ Some y in
    let far = place_behind y b.6.before b.6.behind s.0 (λ j. b.5 (b.6.was y j)) (subst G b.6.is s.2) in
    let R : ℕ → ℕ → Type 0 = λ p x. IsSingle h x p in
    let many = as_many R (λ x p r sp sr. sym (sp.alone r sr.puts)) puts b.6.before (rising_distinct puts t.rising)
    (each_from (λ p. (x : ℕ) × IsIn x b.6.before × R p x) puts
    (λ p j. let older = each_at (IsOlder h g q) p puts t.older j in
    (older.item, older_before k y q h o.0 g p v o.1 a t.single t.gets i older, older.single))) in
    let size = t.count in
    let near = s.1 in
    absurd (omega (arith, far, many, size, near, le))

-- ---- 5: taken too soon

pub from_last : (o : Option End) (s : ℕ) → HasEnd o → EndsFrom s o → s ≤ last_step o
from_last (Some end) s ended f = f
from_last None s ended f = absurd ended

-- a put that stands before a get has begun by the get's end
begun_by : (h : List Call) (x d : ℕ) (front : List ℕ) → Gets h x d
    → EachPair (λ u v. Precedes h v u → ⊥) (front ++ d ∷ []) → (c : ℕ)
    → IsIn c (front ++ d ∷ []) → Puts h x c → (call h c).first ≤ last_step (call h d).end
begun_by h x d front gets before c i puts =
    elim (in_append c front (d ∷ []) i) [
      | inl j ↦ from_last (call h d).end (call h c).first (got_ended h x d gets)
          (not_ended (call h d).end (call h c).first (pairs_across (λ u v. Precedes h v u → ⊥) front (d ∷ []) before c d
          j (inl refl)))
      | inr j ↦ elim j [
        | inl same ↦ (let u = sym puts ∙ ap (does h) same in let w = u ∙ gets in absurd (cc))
        | inr never ↦ absurd never
      ]
    ]

-- Of the gets that have ended by then, take the last in the order. Up to it stand all of them, and only puts that have
-- begun.
overdrawn_refutes : (k : ℕ) (h : List Call) (x step : ℕ) → IsOverdrawn h x step → HasOrder k h → ⊥
overdrawn_refutes k h x step more o =
    let order = o.0 in
    let adds_x : ℕ → Bool = λ c. adds x (does h c) in
    let takes_x : ℕ → Bool = λ c. takes x (does h c) in
    let begun : ℕ → Bool = λ c. adds x (does h c) && leb (call h c).first step in
    let ended : ℕ → Bool = λ c. takes x (does h c) && leb (last_step (call h c).end) step in
    let gets_of_test : (c : ℕ) → ended c ≡ true → (Gets h x c) × (last_step (call h c).end ≤ step) = λ c t.
    let both = and_parts (takes x (does h c)) (leb (last_step (call h c).end) step) t in
    (takes_is x (does h c) both.0, leb-true (last_step (call h c).end) step both.1) in
    let all : gets_ended h x step ≤ count_by ended order =
    count_into ended (length h) order (λ c lt t. o.1.is_order.complete c (got_ended h x c (gets_of_test c t).0)) in
    let p = last_passing ended order (omega (arith, all, more)) in
    let d = p.1 in
    let part = p.0 ++ d ∷ [] in
    let whole : order ≡ part ++ p.2 = p.3 ∙ sym (append_assoc p.0 (d ∷ []) p.2) in
    let D : List ℕ → Type 0 = λ w. EachPair Differ w in
    let B : List ℕ → Type 0 = λ w. EachPair (λ u v. Precedes h v u → ⊥) w in
    let R : List Effect → Type 0 = λ w. IsRun k [] w in
    let distinct = pairs_front Differ part p.2 (subst D whole o.1.is_order.distinct) in
    let before = pairs_front (λ u v. Precedes h v u → ⊥) part p.2 (subst B whole o.1.is_order.before) in
    let run = run_front k [] (map (does h) part) (map (does h) p.2)
    (subst R (ap (map (does h)) whole ∙ map-append (does h) part p.2) o.1.is_run) in
    let last = gets_of_test d p.4 in
    let split : count_by ended order ≡ count_by ended part + count_by ended p.2 =
    ap (count_by ended) whole ∙ sum_by-append (λ c. cond (ended c) 1 0) part p.2 in
    let none = p.5 in
    let took = count_weaker ended takes_x part
    (λ c i t. (and_parts (takes x (does h c)) (leb (last_step (call h c).end) step) t).0) in
    let put = count_weaker adds_x begun part (λ c i t.
    let by = begun_by h x d p.0 last.0 before c i (adds_is x (does h c) t) in
    let le = last.1 in
    and_from (adds x (does h c)) (leb (call h c).first step) t (le-leb (call h c).first step (omega (arith, by, le))))
    in
    let few : count_by begun part ≤ puts_begun h x step =
    count_within begun (length h) part distinct
    (λ c i t. put_inside h x c (adds_is x (does h c) (and_parts (adds x (does h c)) (leb (call h c).first step) t).0))
    in
    let often = taken_as_often k x [] (map (does h) part) run in
    let a = times_map h (takes x) part in
    let b = times_map h (adds x) part in
    absurd (omega (arith, all, more, split, none, took, put, few, often, a, b))

pub too_soon_refutes : (k : ℕ) (h : List Call) (g : ℕ) → IsTakenTooSoon h g → HasOrder k h → ⊥
too_soon_refutes k h g n o = overdrawn_refutes k h n.0 (last_step (call h g).end) n.2 o
