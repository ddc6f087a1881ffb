-- 7: where k older items are certainly left at a get, none of the copies that it may have taken is among the first k.
use Rattle.std.proofs.Common.{ℕ, zero, suc, ◌≡◌, ◌+◌, ◌-◌, ◌<◌, ◌≤◌, ◌⊎◌, ◌&&◌, Bool, true, false, cond, eqb, leb, ltb}
use Rattle.std.proofs.Common.{count_by, List, [], ◌∷◌, ◌++◌, length, length-append, append_assoc, map, refl, sym, ◌∙◌}
use Rattle.std.proofs.Common.{ap, subst, inl, inr, arith, add-one, Option, Some, None, slice_get}
use Rattle.std.specs.List.{remove, AllByRecursion}
use Rattle.std.proofs.lemmas.Bool.{cases_Bool, cases_lt, cases_eq, eq-eqb, ne_eqb, ltb-true, leb-true, le-leb}
use Rattle.std.proofs.lemmas.Bool.{and_parts, and_from, false≢true, false_from_ne_true}
use Rattle.std.proofs.lemmas.List.{map-append}
use Rattle.std.proofs.lemmas.List.Sums.{sum_by-append}
use Rattle.kfifo_model.specs.declared.calls.Call.{Call}
use Rattle.kfifo_model.specs.declared.calls.End.{End}
use Rattle.kfifo_model.specs.Lists.{IsIn, EachPair, place}
use Rattle.kfifo_model.specs.declared.effects.Effect.{Effect}
use Rattle.kfifo_model.specs.declared.effects.Effect.TheVariants.{Adds, Takes, FindsNone, Refused, Wrong}
use Rattle.kfifo_model.specs.Relaxed.{Leaves, IsRun, next}
use Rattle.kfifo_model.specs.Histories.{call, does, EndsBelow, Precedes, IsLegal}
use Rattle.kfifo_model.specs.Overtaking.{adds, takes, ends_below}
use Rattle.kfifo_model.specs.Validity.{IsHistory, EndsFrom}
use Rattle.kfifo_model.specs.Searching.{HasOrder}
use Rattle.kfifo_model.proofs.Lists.{in_append, in_more, parted, each_at, pairs_front, pairs_back, Differ}
use Rattle.kfifo_model.proofs.Greedy.{run_on, no_run, place_in}
use Rattle.kfifo_verdict.specs.Evidence.{Rise, count_below, last_step, gets_begun, gets_before, puts_ended}
use Rattle.kfifo_verdict.specs.Evidence.{IsOlderCopy, IsOlderLeft}
use Rattle.kfifo_verdict.proofs.Counting.{count_cons, count_parted, count_into, count_within, count_weaker}
use Rattle.kfifo_verdict.proofs.Runs.{times, copies, copies_push, copies_remove, in_get}
use Rattle.kfifo_verdict.proofs.Refuting.{around, not_in_front, got_ended, put_inside, ended_inside, times_map, adds_is}
use Rattle.kfifo_verdict.proofs.Refuting.{takes_is, rising_distinct, not_ended, below_end, from_last}
use Rattle.kfifo_verdict.proofs.Moments.{not_falling, ends_later}
use Rattle.kfifo_verdict.proofs.Remaining.{ends_at}

-- ---- runs that take first copies

-- what an effect leaves, where the first of equal items goes
abbrev pub FirstStep : List ℕ → Effect → List ℕ → Type 0
FirstStep l (Adds y) after = after ≡ l ++ y ∷ []
FirstStep l (Takes x) after = (place l x < length l) × (after ≡ remove l (place l x))
FirstStep l FindsNone after = after ≡ l
FirstStep l Refused after = after ≡ l
FirstStep l Wrong after = ⊥

abbrev pub FirstRun : List ℕ → List Effect → List ℕ → Type 0
FirstRun l [] after = l ≡ after
FirstRun l (e ∷ es) after = (mid : List ℕ) × FirstStep l e mid × FirstRun mid es after

either : (o : Option (List ℕ)) → (o ≡ None) ⊎ ((m : List ℕ) × (o ≡ Some m))
either None = inl refl
either (Some m) = inr (m, refl)

takes_step : (l m : List ℕ) (x : ℕ) (in_k there : Bool) → ((there ≡ true) → place l x < length l)
    → cond (in_k && there) (Some (remove l (place l x))) None ≡ Some m → (place l x < length l)
    × (m ≡ remove l (place l x))
takes_step l m x true true f e = (f refl, let q : remove l (place l x) ≡ m = cc in sym q)
takes_step l m x true false f e = absurd (cc)
takes_step l m x false there f e = absurd (cc)

step_of : (k : ℕ) (l : List ℕ) (e : Effect) (m : List ℕ) → next k l e ≡ Some m → FirstStep l e m
step_of k l (Adds y) m e = let q : l ++ y ∷ [] ≡ m = cc in sym q
step_of k l (Takes x) m e =
    takes_step l m x (ltb (place l x) k) (ltb (place l x) (length l)) (λ t. ltb-true (place l x) (length l) t) e
step_of k [] FindsNone m e = let q : ◌≡◌ {A = List ℕ} [] m = cc in sym q
step_of k (x ∷ l) FindsNone m e = absurd (cc)
step_of k l Refused m e = let q : l ≡ m = cc in sym q
step_of k l Wrong m e = absurd (cc)

-- a run can take first copies up to some point
pub first_run : (k : ℕ) (l : List ℕ) (es fs : List Effect) → IsRun k l (es ++ fs) → (mid : List ℕ) × FirstRun l es mid
    × IsRun k mid fs
first_run k l [] fs r = (l, refl, r)
first_run k l (e ∷ es) fs r =
    elim (either (next k l e)) [
      | inl none ↦ absurd (no_run k l e (es ++ fs) none r)
      | inr some ↦ (
          let on = first_run k some.0 es fs (run_on k l some.0 e (es ++ fs) some.1 r) in
          (on.0, (some.0, step_of k l e some.0 some.1, on.1), on.2)
          )
    ]

first_split : (l : List ℕ) (es fs : List Effect) (after : List ℕ) → FirstRun l (es ++ fs) after → (mid : List ℕ)
    × FirstRun l es mid
    × FirstRun mid fs after
first_split l [] fs after r = (l, refl, r)
first_split l (e ∷ es) fs after r = let on = first_split r.0 es fs after r.2 in (on.0, (r.0, r.1, on.1), on.2)

-- what was there and what is added is what is there and what was taken
first_balance : (x : ℕ) (l after : List ℕ) (es : List Effect) → FirstRun l es after
    → copies x l + times (adds x) es ≡ copies x after + times (takes x) es
first_balance x l after [] r = let e = ap (copies x) r in omega (arith, e)
first_balance x l after (Adds y ∷ es) r =
    let on = first_balance x r.0 after es r.2 in
    let e = ap (copies x) r.1 ∙ copies_push x y l in
    omega (arith, on, e)
first_balance x l after (Takes y ∷ es) r =
    let on = first_balance x r.0 after es r.2 in
    let e = copies_remove x y l (place l y) (place_in l y r.1.0) in
    let a = ap (copies x) r.1.1 in
    omega (arith, on, e, a)
first_balance x l after (FindsNone ∷ es) r =
    let on = first_balance x r.0 after es r.2 in
    let a = ap (copies x) r.1 in
    omega (arith, on, a)
first_balance x l after (Refused ∷ es) r =
    let on = first_balance x r.0 after es r.2 in
    let a = ap (copies x) r.1 in
    omega (arith, on, a)
first_balance x l after (Wrong ∷ es) r = absurd r.1

-- ---- what is left of the front of a list

-- Of a list's front z and the rest w, what the list without the first x is.
record IsLess (x : ℕ) (z w after : List ℕ) : Type 0 where
  pub front : List ℕ
  pub rest : List ℕ
  pub is : after ≡ front ++ rest
  pub left : (y : ℕ) → copies y front ≡ copies y z - cond (eqb y x) 1 0

less_one : (x : ℕ) (z w : List ℕ) → IsLess x z w (remove (z ++ w) (place (z ++ w) x))
less_one x [] w = record { front = []; rest = remove w (place w x); is = refl; left = λ y. omega arith }
less_one x (a ∷ z) w =
    let l : List ℕ = z ++ w in
    elim (cases_eq a x) [
      | inl same ↦ (
          let at : place (a ∷ l) x ≡ 0 = ap (λ b. cond b 0 (place l x + 1)) (eq-eqb a x same) in
          record {
            front = z;
            rest = w;
            is = ap (λ i. remove (a ∷ l) i) at;
            left = λ y. (let e : ◌≡◌ {A = ℕ} (cond (eqb y a) 1 0) (cond (eqb y x) 1 0) =
                ap (λ v. cond (eqb y v) 1 0) same in omega (arith, e));
          }
          )
      | inr ne ↦ (
          let at : place (a ∷ l) x ≡ suc (place l x) = ap (λ b. cond b 0 (place l x + 1)) (ne_eqb a x ne)
          ∙ add-one (place l x) in
          let on = less_one x z w in
          record {
            front = a ∷ on.front;
            rest = on.rest;
            is = ap (λ i. remove (a ∷ l) i) at ∙ ap (λ t. a ∷ t) on.is;
            left = λ y. (
                let was = on.left y in
                elim (cases_eq y a) [
                  | inl here ↦ (
                      let none : ◌≡◌ {A = ℕ} (cond (eqb y x) 1 0) 0 =
                      ap (λ b. cond b 1 0) (ne_eqb y x (λ q. ne (sym here ∙ q))) in
                      omega (arith, was, none)
                      )
                  | inr other ↦
                      (let none : ◌≡◌ {A = ℕ} (cond (eqb y a) 1 0) 0 = ap (λ b. cond b 1 0) (ne_eqb y a other) in
                      omega (arith, was, none))
                ]
                );
          }
          )
    ]

-- what a run leaves of the front
record IsRest (z after : List ℕ) (es : List Effect) : Type 0 where
  pub front : List ℕ
  pub rest : List ℕ
  pub is : after ≡ front ++ rest
  pub left : (y : ℕ) → copies y front ≡ copies y z - times (takes y) es

rest_along : (z w l after : List ℕ) (es : List Effect) → l ≡ z ++ w → FirstRun l es after → IsRest z after es
rest_along z w l after [] is r = record { front = z; rest = w; is = sym r ∙ is; left = λ y. omega arith }
rest_along z w l after (Adds v ∷ es) is r =
    let on = rest_along z (w ++ v ∷ []) r.0 after es (r.1 ∙ (ap (λ t. t ++ v ∷ []) is ∙ append_assoc z w (v ∷ [])))
    r.2 in
    record { front = on.front; rest = on.rest; is = on.is; left = λ y. (let e = on.left y in omega (arith, e)) }
rest_along z w l after (Takes v ∷ es) is r =
    let one = less_one v z w in
    let at : r.0 ≡ one.front ++ one.rest = r.1.1 ∙ (ap (λ t. remove t (place t v)) is ∙ one.is) in
    let on = rest_along one.front one.rest r.0 after es at r.2 in
    record {
      front = on.front;
      rest = on.rest;
      is = on.is;
      left = λ y. (let a = on.left y in let b = one.left y in omega (arith, a, b));
    }
rest_along z w l after (FindsNone ∷ es) is r =
    let on = rest_along z w r.0 after es (r.1 ∙ is) r.2 in
    record { front = on.front; rest = on.rest; is = on.is; left = λ y. (let e = on.left y in omega (arith, e)) }
rest_along z w l after (Refused ∷ es) is r =
    let on = rest_along z w r.0 after es (r.1 ∙ is) r.2 in
    record { front = on.front; rest = on.rest; is = on.is; left = λ y. (let e = on.left y in omega (arith, e)) }
rest_along z w l after (Wrong ∷ es) is r = absurd r.1

-- ---- numbers with items, and lists of items

copies_parted : (x : ℕ) (a : List ℕ) (y : ℕ) (b : List ℕ)
    → copies x (a ++ y ∷ b) ≡ cond (eqb x y) 1 0 + copies x (a ++ b)
copies_parted x [] y b = refl
copies_parted x (z ∷ a) y b = let on = copies_parted x a y b in omega (arith, on)

copies_in : (x : ℕ) (l : List ℕ) → 0 < copies x l → IsIn x l
copies_in x [] some = absurd (omega (arith, some))
copies_in x (y ∷ l) some =
    elim (cases_eq x y) [
      | inl same ↦ inl same
      | inr ne ↦ inr (copies_in x l (let none : ◌≡◌ {A = ℕ} (cond (eqb x y) 1 0) 0 =
          ap (λ b. cond b 1 0) (ne_eqb x y ne) in
          omega (arith, some, none)))
    ]

in_copies : (x : ℕ) (l : List ℕ) → IsIn x l → 0 < copies x l
in_copies x (y ∷ l) (inl same) = let one : ◌≡◌ {A = ℕ} (cond (eqb x y) 1 0) 1 =
    ap (λ b. cond b 1 0) (eq-eqb x y same) in omega (arith, one)
in_copies x (y ∷ l) (inr i) = let on = in_copies x l i in omega (arith, on)
in_copies x [] i = absurd i

-- where a list has as many of each item as there are numbers with it, it is as long
pub as_long : (item : ℕ → ℕ) (l items : List ℕ) → ((y : ℕ) → count_by (λ p. eqb y (item p)) l ≤ copies y items)
    → length l ≤ length items
as_long item [] items f = omega arith
as_long item (p ∷ l) items f =
    let y : ℕ = item p in
    let one : ◌≡◌ {A = ℕ} (cond (eqb y y) 1 0) 1 = ap (λ b. cond b 1 0) (eq-eqb y y refl) in
    let here = count_cons (λ p. eqb y (item p)) p l in
    let enough = f y in
    let parts = parted y items (copies_in y items (omega (arith, one, here, enough))) in
    let on = as_long item l (parts.front ++ parts.back) (λ v.
    let all = f v in
    let more = count_cons (λ p. eqb v (item p)) p l in
    let less = ap (copies v) parts.is ∙ copies_parted v parts.front y parts.back in
    omega (arith, all, more, less)) in
    let size = ap length parts.is in
    omega (arith, on, size, length-append parts.front (y ∷ parts.back), length-append parts.front parts.back)

-- Of a list without repeats, some stand in another one; those that pass the first test are others that pass the second.
pub apart_from : (t u : ℕ → Bool) (l F : List ℕ) → EachPair Differ l → ((c : ℕ) → IsIn c l → IsIn c F)
    → ((c : ℕ) → IsIn c l → u c ≡ false) → ((c : ℕ) → u c ≡ true → t c ≡ true)
    → count_by u F + count_by t l ≤ count_by t F
apart_from t u [] F d into none weaker = let w = count_weaker u t F (λ c i q. weaker c q) in omega (arith, w)
apart_from t u (p ∷ l) F d into none weaker =
    let parts = parted p F (into p (inl refl)) in
    let G : List ℕ = parts.front ++ parts.back in
    let on = apart_from t u l G d.1 (λ c i.
    elim (in_more c p parts.front parts.back (let P : List ℕ → Type 0 =
    λ w. IsIn c w in subst P parts.is (into c (inr i)))) [
      | inl same ↦ absurd (each_at (Differ p) c l d.0 i (sym same))
      | inr j ↦ j
    ]) (λ c i. none c (inr i)) weaker in
    let a = ap (count_by t) parts.is ∙ count_parted t parts.front p parts.back in
    let b = ap (count_by u) parts.is ∙ count_parted u parts.front p parts.back in
    let z : ◌≡◌ {A = ℕ} (cond (u p) 1 0) 0 = ap (λ w. cond w 1 0) (none p (inl refl)) in
    let q = count_cons t p l in
    omega (arith, on, a, b, z, q)

-- ---- the soonest of some puts

none_in : (t : ℕ → Bool) (l : List ℕ) (c : ℕ) → count_by t l ≡ 0 → IsIn c l → t c ≡ true → ⊥
none_in t (x ∷ l) c none (inl same) holds =
    let p = count_cons t x l in
    let one : ◌≡◌ {A = ℕ} (cond (t x) 1 0) 1 = ap (λ b. cond b 1 0) (sym (ap t same) ∙ holds) in
    absurd (omega (arith, p, one, none))
none_in t (x ∷ l) c none (inr i) holds = let p = count_cons t x l in none_in t l c (omega (arith, p, none)) i holds
none_in t [] c none i holds = absurd i

-- the first number of a list that passes, where one does
first_passing : (t : ℕ → Bool) (l : List ℕ) → 0 < count_by t l → (front : List ℕ) × (x : ℕ) × (back : List ℕ)
    × (l ≡ front ++ x ∷ back)
    × (t x ≡ true) × (count_by t front ≡ 0)
first_passing t [] some = absurd (omega (arith, some))
first_passing t (x ∷ l) some =
    elim (cases_Bool (t x)) [
      | inl passes ↦ ([], x, l, refl, passes, refl)
      | inr never ↦ (
          let none : ◌≡◌ {A = ℕ} (cond (t x) 1 0) 0 = ap (λ b. cond b 1 0) never in
          let p = count_cons t x l in
          let on = first_passing t l (omega (arith, some, none, p)) in
          let q = count_cons t x on.0 in
          let zero_ = on.5 in
          (x ∷ on.0, on.1, on.2, ap (λ w. x ∷ w) on.3, on.4, omega (arith, q, zero_, none))
          )
    ]

-- none of the list that passes is before m
abbrev IsSoonest : (ℕ → ℕ) → (ℕ → Bool) → List ℕ → ℕ → Type 0
IsSoonest key t l m = (c : ℕ) → IsIn c l → t c ≡ true → (key m < key c) ⊎ ((key m ≡ key c) × (m ≤ c))

soonest : (key : ℕ → ℕ) (t : ℕ → Bool) (l : List ℕ) → Rise l → 0 < count_by t l → (m : ℕ) × IsIn m l × (t m ≡ true)
    × IsSoonest key t l m
soonest key t [] rise some = absurd (omega (arith, some))
soonest key t (x ∷ l) rise some =
    elim (cases_Bool (t x)) [
      | inl passes ↦ elim (cases_lt 0 (count_by t l)) [
        | inl more ↦ (
            let on = soonest key t l rise.1 more in
            elim (cases_lt (key on.0) (key x)) [
              | inl lt ↦ (
                on.0,
                inr on.1,
                on.2,
                λ c i q. elim i [
                  | inl e ↦ (let k = ap key e in inl (omega (arith, k, lt)))
                  | inr j ↦ on.3 c j q
                ],
              )
              | inr le ↦ (
                x,
                inl refl,
                passes,
                λ c i q. elim i [
                  | inl e ↦ inr (sym (ap key e), omega (arith, e))
                  | inr j ↦ (
                      let up = each_at (λ c. x < c) c l rise.0 j in
                      elim (on.3 c j q) [
                        | inl lt ↦ inl (omega (arith, lt, le))
                        | inr same ↦ (
                            let e = same.0 in
                            elim (cases_lt (key x) (key c)) [
                              | inl less ↦ inl less
                              | inr ge ↦ inr (omega (arith, e, le, ge), omega (arith, up))
                            ]
                            )
                      ]
                      )
                ],
              )
            ]
            )
        | inr none ↦ (
          x,
          inl refl,
          passes,
          λ c i q. elim i [
            | inl e ↦ inr (sym (ap key e), omega (arith, e))
            | inr j ↦ absurd (none_in t l c (omega (arith, none)) j q)
          ],
        )
      ]
      | inr never ↦ (
          let zero_ : ◌≡◌ {A = ℕ} (cond (t x) 1 0) 0 = ap (λ b. cond b 1 0) never in
          let p = count_cons t x l in
          let on = soonest key t l rise.1 (omega (arith, some, zero_, p)) in (
            on.0,
            inr on.1,
            on.2,
            λ c i q. elim i [
              | inl e ↦ absurd (false≢true (sym never ∙ (sym (ap t e) ∙ q)))
              | inr j ↦ on.3 c j q
            ],
          )
          )
    ]

pub last_below : (o : Option End) (s : ℕ) → EndsBelow o s → last_step o < s
last_below (Some end) s b = b
last_below None s b = absurd b

not_before : (o : Option End) (s : ℕ) → EndsFrom s o → EndsBelow o s → ⊥
not_before (Some end) s f b = absurd (omega (arith, f, b))
not_before None s f b = b

-- ---- the order

-- a call that precedes another one stands before it
stands_before : (k : ℕ) (h : List Call) (order F : List ℕ) (q : ℕ) (B : List ℕ) → IsHistory h → q < length h
    → IsLegal k h order
    → order ≡ F ++ q ∷ B → (p : ℕ) → Precedes h p q → IsIn p F
stands_before k h order F q B v inside l is p pre =
    let P : List ℕ → Type 0 = λ w. IsIn p w in
    let K : List ℕ → Type 0 = λ w. EachPair (λ d e. Precedes h e d → ⊥) w in
    let before = subst K is l.is_order.before in
    elim (in_append p F (q ∷ B) (subst P is (l.is_order.complete p (below_end (call h p).end (call h q).first pre)))) [
      | inl i ↦ i
      | inr i ↦ elim i [
        | inl same ↦ absurd (not_before (call h q).end (call h q).first (v q inside).ends
            (let Q : ℕ → Type 0 = λ w. Precedes h w q in subst Q same pre))
        | inr j ↦ absurd (each_at (λ w. Precedes h w q → ⊥) p B
            (pairs_back (λ d e. Precedes h e d → ⊥) F (q ∷ B) before).0 j pre)
      ]
    ]

-- the item that an effect adds
abbrev added : Effect → ℕ
added (Adds x) = x
added (Takes x) = 0
added FindsNone = 0
added Refused = 0
added Wrong = 0

-- Of each item, the listed puts stand in front, and as many that ended sooner as have been taken.
listed_few : (h : List Call) (get q y : ℕ) (F puts : List ℕ) → Rise puts → AllByRecursion (IsOlderCopy h get q) puts
    → ((p : ℕ) → Precedes h p q → IsIn p F) → 0 < count_by (λ p. adds y (does h p)) puts
    → count_by (λ p. adds y (does h p)) puts + gets_begun h y (last_step (call h get).end) ≤ count_by
    (λ p. adds y (does h p)) F
listed_few h get q y F puts rise older stands some =
    let t : ℕ → Bool = λ p. adds y (does h p) in
    let m = soonest (λ c. last_step (call h c).end) t puts rise some in
    let last : ℕ = last_step (call h m.0).end in
    let u : ℕ → Bool = λ c. adds y (does h c) && ends_below (call h c).end last in
    let copy = each_at (IsOlderCopy h get q) m.0 puts older m.1 in
    let item_is : copy.item ≡ y =
    (let e : Adds copy.item ≡ Adds y = sym copy.puts ∙ adds_is y (does h m.0) m.2 in cc) in
    let P : ℕ → Type 0 = λ w. gets_begun h w (last_step (call h get).end) ≤ puts_ended h w
    (last_step (call h m.0).end) in
    let kept = subst P item_is copy.kept in
    let lt = last_below (call h m.0).end (call h q).first copy.before in
    let all : puts_ended h y last ≤ count_by u F = count_into u (length h) F (λ c in_c e.
    stands c (ends_later (call h c).end last (call h q).first (omega (arith, lt))
    (ends_at (call h c).end last (and_parts (adds y (does h c)) (ends_below (call h c).end last) e).1))) in
    let apart = apart_from t u puts F (rising_distinct puts rise)
    (λ c i. stands c (each_at (IsOlderCopy h get q) c puts older i).before)
    (λ c i. false_from_ne_true (u c) (λ e.
    let both = and_parts (adds y (does h c)) (ends_below (call h c).end last) e in
    let less = last_below (call h c).end last (ends_at (call h c).end last both.1) in
    elim (m.3 c i both.0) [
      | inl more ↦ absurd (omega (arith, less, more))
      | inr same ↦ (let s = same.0 in absurd (omega (arith, less, s)))
    ]))
    (λ c e. (and_parts (adds y (does h c)) (ends_below (call h c).end last) e).0) in
    omega (arith, kept, all, apart)

no_more_than : (a b : ℕ) → a ≡ b → a ≤ b
no_more_than a b e = omega (arith, e)

none_is_left : (left put t1 t2 one t few early took : ℕ) → 0 < left → left ≡ put - t1 - t2 → t ≡ one + (t1 + t2)
    → one ≡ 0
    → put ≤ few → few ≤ early → early ≤ took → took ≤ t → ⊥
none_is_left left put t1 t2 one t few early took up e w none sooner le a b =
    absurd (omega (arith, up, e, w, none, sooner, le, a, b))

enough_left : (items listed begun put left t1 t2 one t : ℕ) → items ≤ listed → listed + begun ≤ put
    → left ≡ put - t1 - t2
    → t ≡ one + (t1 + t2) → t ≤ begun → items ≤ left
enough_left items listed begun put left t1 t2 one t a b e w c = omega (arith, a, b, e, w, c)

not_in : (z w : List ℕ) (x i : ℕ) → (IsIn x z → ⊥) → slice_get (z ++ w) i ≡ Some x → length z ≤ i
not_in [] w x i never e = omega arith
not_in (a ∷ z) w x zero never e = absurd (never (inl (let q : a ≡ x = cc in sym q)))
not_in (a ∷ z) w x (suc i) never e = let le = not_in z w x i (λ j. never (inr j)) e in omega (arith, le)

-- an item that does not stand in front of a list is no nearer than that is long
too_far : (k x i : ℕ) (mid z w puts : List ℕ) (item : ℕ → ℕ) → mid ≡ z ++ w → slice_get mid i ≡ Some x → i < k
    → (IsIn x z → ⊥)
    → length puts ≡ k → ((y : ℕ) → count_by (λ p. eqb y (item p)) puts ≤ copies y z) → ⊥
too_far k x i mid z w puts item is at near never size few =
    let G : List ℕ → Type 0 = λ v. slice_get v i ≡ Some x in
    let far = not_in z w x i never (subst G is at) in
    let long = as_long item puts z few in
    absurd (omega (arith, far, long, size, near))

-- As many gets of the item as precede the get stand before it, so of the puts that stand before it some begins no
-- sooner than `put`.
-- Before the first of these stand the older ones. When the get comes, the copies that stood before it are taken, and
-- the older are not.
pub older_left_refutes : (k : ℕ) (h : List Call) (get : ℕ) (puts : List ℕ) → IsHistory h → IsOlderLeft k h get puts
    → HasOrder k h → ⊥
older_left_refutes k h get puts v n o =
    let x : ℕ = n.item in
    let q : ℕ = n.put in
    let order = o.0 in
    let a = around k h order get o.1 (o.1.is_order.complete get (got_ended h x get n.gets)) in
    let F = a.front in
    let in_get_ = ended_inside h get (got_ended h x get n.gets) in
    let adds_of : ℕ → ℕ → Bool = λ y c. adds y (does h c) in
    let takes_of : ℕ → ℕ → Bool = λ y c. takes y (does h c) in
    let early : ℕ → Bool = λ c. takes x (does h c) && ends_below (call h c).end (call h get).first in
    let R : List Effect → Type 0 = λ w. IsRun k [] w in
    let r = first_run k [] (map (does h) F) (map (does h) (get ∷ a.back))
    (subst R (ap (map (does h)) a.is ∙ map-append (does h) F (get ∷ a.back)) o.1.is_run) in
    let L : Effect → Type 0 = λ w. Leaves k r.0 w r.2.0 in
    let s = subst L n.gets r.2.1 in
    let distinct = pairs_front Differ F (get ∷ a.back) a.distinct in
    let took : gets_before h x get ≤ count_by early F = count_into early (length h) F (λ c lt t.
    stands_before k h order F get a.back v in_get_ o.1 a.is c
    (ends_at (call h c).end (call h get).first
    (and_parts (takes x (does h c)) (ends_below (call h c).end (call h get).first) t).1)) in
    let taken = count_weaker early (takes_of x) F
    (λ c i t. (and_parts (takes x (does h c)) (ends_below (call h c).end (call h get).first) t).0)
    in
    let even = first_balance x [] r.0 (map (does h) F) r.1 in
    let there = in_copies x r.0 (in_get r.0 s.0 x s.2) in
    let tF = times_map h (takes x) F in
    let pF = times_map h (adds x) F in
    let few = n.few in
    let late : ℕ → Bool = λ c. adds x (does h c) && leb q c in
    let below : (l : List ℕ) → EachPair Differ l → count_by late l ≡ 0
    → count_by (adds_of x) l ≤ count_below (adds_of x) q = λ l d none.
    count_within (adds_of x) q l d (λ c i t. elim (cases_lt c q) [
      | inl lt ↦ lt
      | inr le ↦ absurd (none_in late l c none i (and_from (adds x (does h c)) (leb q c) t (le-leb q c le)))
    ]) in
    let some : 0 < count_by late F = elim (cases_lt 0 (count_by late F)) [
      | inl more ↦ more
      | inr none ↦
          (let all = below F distinct (omega (arith, none)) in
          absurd (omega (arith, all, few, took, taken, even, there, tF, pF)))
    ] in
    let f = first_passing late F some in
    let front = f.0 in
    let p : ℕ = f.1 in
    let back = f.2 in
    let is_p = and_parts (adds x (does h p)) (leb q p) f.4 in
    let puts_p = adds_is x (does h p) is_p.0 in
    let in_p = put_inside h x p puts_p in
    let after = not_falling h q p v (leb-true q p is_p.1) in_p in
    let D : List ℕ → Type 0 = λ w. EachPair Differ w in
    let whole : order ≡ front ++ p ∷ (back ++ get ∷ a.back) =
    a.is ∙ (ap (λ w. w ++ get ∷ a.back) f.3 ∙ append_assoc front (p ∷ back) (get ∷ a.back)) in
    let stands : (c : ℕ) → Precedes h c q → IsIn c front = λ c pre.
    stands_before k h order front p (back ++ get ∷ a.back) v in_p o.1 whole c
    (ends_later (call h c).end (call h q).first (call h p).first after pre) in
    let sooner = below front (pairs_front Differ front (p ∷ back) (subst D f.3 distinct)) f.5 in
    let E : List Effect → Type 0 = λ w. FirstRun [] w r.0 in
    let parts = first_split [] (map (does h) front) (does h p ∷ map (does h) back) r.0
    (subst E (ap (map (does h)) f.3 ∙ map-append (does h) front (p ∷ back)) r.1) in
    let S : Effect → Type 0 = λ w. FirstStep parts.0 w parts.2.0 in
    let left = rest_along parts.0 (x ∷ []) parts.2.0 r.0 (map (does h) back) (subst S puts_p parts.2.1) parts.2.2 in
    let split : (y : ℕ) → count_by (takes_of y) F ≡ cond (takes y (does h p)) 1 0
    + (count_by (takes_of y) front + count_by (takes_of y) back) =
    λ y. ap (count_by (takes_of y)) f.3 ∙ (count_parted (takes_of y) front p back
    ∙ ap (λ w. cond (takes y (does h p)) 1 0 + w) (sum_by-append (λ c. cond (takes y (does h c)) 1 0) front back)) in
    let is_left : (y : ℕ) → copies y left.front ≡ count_by (adds_of y) front - count_by (takes_of y) front - count_by
    (takes_of y) back = λ y.
    let b = first_balance y [] parts.0 (map (does h) front) parts.1 in
    let z = left.left y in
    let t1 = times_map h (takes y) front in
    let t2 = times_map h (takes y) back in
    let p1 = times_map h (adds y) front in
    omega (arith, b, z, t1, t2, p1) in
    let no_x : IsIn x left.front → ⊥ = λ i.
    let up = in_copies x left.front i in
    let e = is_left x in
    let w = split x in
    let none : ◌≡◌ {A = ℕ} (cond (takes x (does h p)) 1 0) 0 = ap (λ b. cond (takes x b) 1 0) puts_p in
    none_is_left _ _ _ _ _ _ _ _ _ up e w none sooner (no_more_than _ _ few) took taken in
    too_far k x s.0 r.0 left.front left.rest puts (λ c. added (does h c)) left.is s.2 s.1 no_x n.count (λ y.
    let item_test : ℕ → Bool = λ c. eqb y (added (does h c)) in
    let same = count_weaker item_test (adds_of y) puts (λ c i t.
    let copy = each_at (IsOlderCopy h get q) c puts n.older i in
    let e = ap (λ w. eqb y (added w)) copy.puts in
    ap (adds y) copy.puts ∙ (sym e ∙ t)) in
    elim (cases_lt 0 (count_by (adds_of y) puts)) [
      | inl more ↦ (
          let l = listed_few h get q y front puts n.rising n.older stands more in
          let e = is_left y in
          let w = split y in
          let begun : ℕ → Bool = λ c. takes y (does h c) && leb (call h c).first (last_step (call h get).end) in
          let all = count_weaker (takes_of y) begun F (λ c i t.
          and_from (takes y (does h c)) (leb (call h c).first (last_step (call h get).end)) t
          (le-leb (call h c).first (last_step (call h get).end)
          (from_last (call h get).end (call h c).first (got_ended h x get n.gets)
          (not_ended (call h get).end (call h c).first (λ pre. not_in_front k h order get c a pre i))))) in
          let within : count_by begun F ≤ gets_begun h y (last_step (call h get).end) =
          count_within begun (length h) F distinct (λ c i t. ended_inside h c (got_ended h y c (takes_is y (does h c)
          (and_parts (takes y (does h c)) (leb (call h c).first (last_step (call h get).end)) t).0))) in
          enough_left _ _ _ _ _ _ _ _ _ same l e w (omega (arith, all, within))
          )
      | inr none ↦ omega (arith, same, none)
    ])
