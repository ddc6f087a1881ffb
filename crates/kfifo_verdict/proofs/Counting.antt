-- How many numbers of a list, or below a bound, pass a test.
use Rattle.std.proofs.Common.{ℕ, zero, suc, ◌≡◌, ◌≢◌, ◌+◌, ◌<◌, ◌≤◌, Bool, true, false, cond, count_by, List, [], ◌∷◌}
use Rattle.std.proofs.Common.{◌++◌, length, refl, sym, ◌∙◌, ap, subst, inl, inr, arith, length-append, add-one}
use Rattle.std.proofs.lemmas.Bool.{cases_Bool, cases_lt}
use Rattle.std.proofs.lemmas.List.Sums.{sum_by-cons, sum_by_push}
use Rattle.std.specs.List.Sorted.{IsPartitionPoint}
use Rattle.std.specs.List.{AllByRecursion}
use Rattle.kfifo_model.specs.Lists.{IsIn, EachPair}
use Rattle.kfifo_model.proofs.Lists.{in_append, in_less, in_more, parted, each_at, each_from, pairs_less, pairs_across}
use Rattle.kfifo_model.proofs.Lists.{pairs_back, Differ, cases_in}
use Rattle.kfifo_verdict.specs.Evidence.{count_below}

pub count_cons : (t : ℕ → Bool) (x : ℕ) (l : List ℕ) → count_by t (x ∷ l) ≡ cond (t x) 1 0 + count_by t l
count_cons t x l = sum_by-cons (λ y. cond (t y) 1 0) x l

pub count_parted : (t : ℕ → Bool) (a : List ℕ) (x : ℕ) (b : List ℕ)
    → count_by t (a ++ x ∷ b) ≡ cond (t x) 1 0 + count_by t (a ++ b)
count_parted t [] x b = count_cons t x b
count_parted t (y ∷ a) x b =
    let on = count_parted t a x b in
    let p = count_cons t y (a ++ x ∷ b) in
    let q = count_cons t y (a ++ b) in
    omega (arith, on, p, q)

-- each number below n that passes is in the list
pub count_into : (t : ℕ → Bool) (n : ℕ) (l : List ℕ) → ((c : ℕ) → c < n → t c ≡ true → IsIn c l)
    → count_below t n ≤ count_by t l
count_into t zero l f = omega arith
count_into t (suc n) l f =
    elim (cases_Bool (t n)) [
      | inl passes ↦ (
          let p = parted n l (f n (omega arith) passes) in
          let on = count_into t n (p.front ++ p.back) (λ c lt e.
          elim (in_more c n p.front p.back (let P : List ℕ → Type 0 =
          λ w. IsIn c w in subst P p.is (f c (omega arith) e)))
          [ inl same ↦ absurd (omega arith) | inr i ↦ i ]) in
          let all = ap (count_by t) p.is ∙ count_parted t p.front n p.back in
          let one : ◌≡◌ {A = ℕ} (cond (t n) 1 0) 1 = ap (λ b. cond b 1 0) passes in
          omega (arith, on, all, one)
          )
      | inr never ↦ (
          let on = count_into t n l (λ c lt e. f c (omega arith) e) in
          let none : ◌≡◌ {A = ℕ} (cond (t n) 1 0) 0 = ap (λ b. cond b 1 0) never in
          omega (arith, on, none)
          )
    ]

below_parted : (n : ℕ) (a b : List ℕ) → EachPair Differ (a ++ n ∷ b) → (c : ℕ) → c < suc n → IsIn c (a ++ b) → c < n
below_parted n a b d c lt i =
    let ne : c ≢ n = λ e. elim (in_append c a b i) [
      | inl j ↦ pairs_across Differ a (n ∷ b) d c n j (inl refl) e
      | inr j ↦ each_at (Differ n) c b (pairs_back Differ a (n ∷ b) d).0 j (sym e)
    ] in
    omega arith

-- each number of the list, in which none stands twice, is below n where it passes
pub count_within : (t : ℕ → Bool) (n : ℕ) (l : List ℕ) → EachPair Differ l → ((c : ℕ) → IsIn c l → t c ≡ true → c < n)
    → count_by t l ≤ count_below t n
count_within t zero [] d f = omega arith
count_within t zero (x ∷ l) d f =
    let on = count_within t zero l d.1 (λ c i e. f c (inr i) e) in
    elim (cases_Bool (t x)) [
      | inl passes ↦ (let lt : x < 0 = f x (inl refl) passes in absurd (omega arith))
      | inr never ↦ (let none : ◌≡◌ {A = ℕ} (cond (t x) 1 0) 0 = ap (λ b. cond b 1 0) never in let p =
          count_cons t x l in
          omega (arith, on, none, p))
    ]
count_within t (suc n) l d f =
    elim (cases_in n l) [
      | inl i ↦ (
          let p = parted n l i in
          let D : List ℕ → Type 0 = λ w. EachPair Differ w in
          let whole = subst D p.is d in
          let on = count_within t n (p.front ++ p.back) (pairs_less Differ n p.front p.back whole) (λ c j e.
          below_parted n p.front p.back whole c (f c
          (let P : List ℕ → Type 0 = λ w. IsIn c w in subst P (sym p.is) (in_less c n p.front p.back j)) e) j) in
          let all = ap (count_by t) p.is ∙ count_parted t p.front n p.back in
          omega (arith, on, all)
          )
      | inr out ↦ (
          let on = count_within t n l d (λ c j e. let lt = f c j e in let ne : c
          ≢ n = (λ q. out (let P : ℕ → Type 0 = λ w. IsIn w l in subst P q j)) in omega arith) in
          omega (arith, on)
          )
    ]

-- distinct numbers, each with an item of its own in another list, are no more than that list has
pub as_many : (Has : ℕ → ℕ → Type 0) → ((x p q : ℕ) → Has p x → Has q x → p ≡ q) → (l items : List ℕ)
    → EachPair Differ l
    → AllByRecursion (λ p. (x : ℕ) × IsIn x items × Has p x) l → length l ≤ length items
as_many Has once [] items d f = omega arith
as_many Has once (p ∷ l) items d f =
    let x = f.0.0 in
    let parts = parted x items f.0.1 in
    let on = as_many Has once l (parts.front ++ parts.back) d.1
    (each_from (λ q. (y : ℕ) × IsIn y (parts.front ++ parts.back) × Has q y) l (λ q i.
    let has = each_at (λ q. (y : ℕ) × IsIn y items × Has q y) q l f.1 i in (
      has.0,
      elim (in_more has.0 x parts.front parts.back (let P : List ℕ → Type 0 =
          λ w. IsIn has.0 w in subst P parts.is has.1)) [
            | inl same ↦
                absurd (each_at (Differ p) q l d.0 i
                (once x p q f.0.2 (let P : ℕ → Type 0 = λ w. Has q w in subst P same has.2)))
            | inr j ↦ j
          ],
      has.2,
    ))) in
    let size = ap length parts.is in
    omega (arith, on, size, length-append parts.front (x ∷ parts.back), length-append parts.front parts.back)

-- ---- lists that grow, and their beginnings

pub count_push : {X : Type 0} (t : X → Bool) (l : List X) (x : X)
    → count_by t (l ++ x ∷ []) ≡ count_by t l + cond (t x) 1 0
count_push t l x = sum_by_push (λ y. cond (t y) 1 0) l x

pub below_more : (t : ℕ → Bool) (n : ℕ) → count_below t (n + 1) ≡ count_below t n + cond (t n) 1 0
below_more t n = ap (count_below t) (add-one n)

pub count_weaker : (t u : ℕ → Bool) (l : List ℕ) → ((c : ℕ) → IsIn c l → t c ≡ true → u c ≡ true)
    → count_by t l ≤ count_by u l
count_weaker t u [] f = omega arith
count_weaker t u (x ∷ l) f =
    let on = count_weaker t u l (λ c i e. f c (inr i) e) in
    let p = count_cons t x l in
    let q = count_cons u x l in
    elim (cases_Bool (t x)) [
      | inl passes ↦ (
          let one : ◌≡◌ {A = ℕ} (cond (t x) 1 0) 1 = ap (λ b. cond b 1 0) passes in
          let too : ◌≡◌ {A = ℕ} (cond (u x) 1 0) 1 = ap (λ b. cond b 1 0) (f x (inl refl) passes) in
          omega (arith, on, p, q, one, too)
          )
      | inr never ↦
          (let none : ◌≡◌ {A = ℕ} (cond (t x) 1 0) 0 = ap (λ b. cond b 1 0) never in omega (arith, on, p, q, none))
    ]

-- the last number of a list that passes, where one does
pub last_passing : (t : ℕ → Bool) (l : List ℕ) → 0 < count_by t l → (front : List ℕ) × (x : ℕ) × (back : List ℕ)
    × (l ≡ front ++ x ∷ back)
    × (t x ≡ true) × (count_by t back ≡ 0)
last_passing t [] some = absurd (omega (arith, some))
last_passing t (x ∷ l) some =
    elim (cases_lt 0 (count_by t l)) [
      | inl later ↦ (let p = last_passing t l later in (x ∷ p.0, p.1, p.2, ap (λ w. x ∷ w) p.3, p.4, p.5))
      | inr none ↦ elim (cases_Bool (t x)) [
        | inl passes ↦ ([], x, l, refl, passes, omega (arith, none))
        | inr never ↦ (
            let zero : ◌≡◌ {A = ℕ} (cond (t x) 1 0) 0 = ap (λ b. cond b 1 0) never in
            let p = count_cons t x l in
            absurd (omega (arith, some, none, zero, p))
            )
      ]
    ]

-- where those that pass stand first, the place at which they end is their number
pub count_at : {X : Type 0} (t : X → Bool) (l : List X) (i : ℕ) → i ≤ length l
    → IsPartitionPoint (λ y. t y ≡ true) (λ y. t y ≡ false) l i
    → count_by t l ≡ i
count_at t [] i le point = omega (arith, le)
count_at t (x ∷ l) zero le point =
    let on = count_at t l zero (omega arith) (
      λ j d a b. absurd (omega (arith, a, b)),
      λ j d a b. point.1 (suc j) d (omega arith) (omega (arith, b)),
    ) in
    let none : ◌≡◌ {A = ℕ} (cond (t x) 1 0) 0 = ap (λ b. cond b 1 0) (point.1 0 x (omega arith) (omega arith)) in
    let p = sum_by-cons (λ y. cond (t y) 1 0) x l in
    omega (arith, on, none, p)
count_at t (x ∷ l) (suc i) le point =
    let on = count_at t l i (omega (arith, le)) (
      λ j d a b. point.0 (suc j) d (omega arith) (omega (arith, b)),
      λ j d a b. point.1 (suc j) d (omega (arith, a)) (omega (arith, b)),
    ) in
    let one : ◌≡◌ {A = ℕ} (cond (t x) 1 0) 1 = ap (λ b. cond b 1 0) (point.0 0 x (omega arith) (omega arith)) in
    let p = sum_by-cons (λ y. cond (t y) 1 0) x l in
    omega (arith, on, one, p)
