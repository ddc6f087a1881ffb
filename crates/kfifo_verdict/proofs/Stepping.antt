-- The calls of each item, counted by their steps in a sorted list.
use Rattle.std.proofs.Common.{ℕ, ◌≡◌, ◌≢◌, ◌+◌, ◌<◌, ◌≤◌, ◌⊎◌, ◌↔◌, ◌||◌, true, false, cond, count_by, eqb, leb, ltb}
use Rattle.std.proofs.Common.{List, [], ◌∷◌, refl, sym, ◌∙◌, ap, subst, inl, inr, arith}
use Rattle.std.proofs.lemmas.Bool.{cases_Bool, eq-eqb, ne_eqb, eqb-true, lt-ltb, ltb-true, leb-true, le-leb, and_from}
use Rattle.std.proofs.lemmas.Bool.{and_parts, and_left, or_left, or_right}
use Rattle.std.proofs.lemmas.List.{get_or_default}
use Rattle.std.proofs.lemmas.List.Sums.{sum_by-cons}
use Rattle.std.specs.List.Sorted.{IsSortedBy, IsNonDecreasingBy, IsPartitionedBy}
use Rattle.kfifo_verdict.proofs.Types.{Call}
use Rattle.kfifo_model.specs.Histories.{call}
use Rattle.kfifo_model.specs.declared.effects.Side.TheVariants.{In, Out}
use Rattle.kfifo_verdict.specs.Evidence.{Gets, last_step, puts_begun, gets_ended, IsOverdrawn, IsTakenTooSoon}
use Rattle.kfifo_verdict.specs.Plain.{lower, place}
use Rattle.kfifo_verdict.specs.declared.steps.Key.TheVariants.{Outer}
use Rattle.kfifo_verdict.specs.Soon.{is_by, is_until}
use Rattle.kfifo_verdict.specs.Steps.{AreSorted, is_below}
use Rattle.kfifo_verdict.proofs.Queueing.{Lex, line_rises}
use Rattle.kfifo_verdict.proofs.Telling.{same_item}

-- ---- in a sorted list

pub items_rise : (steps : List (ℕ × ℕ × ℕ)) → IsSortedBy lower steps → IsNonDecreasingBy (λ e. e.0) steps
items_rise steps up i j d le lt =
    let here = ap (λ (e : ℕ × ℕ × ℕ). e.0) (get_or_default steps i d (0, 0, 0) (omega (arith, le, lt))) in
    let there = ap (λ (e : ℕ × ℕ × ℕ). e.0) (get_or_default steps j d (0, 0, 0) lt) in
    elim (line_rises steps up i j le lt) [
      | inl less ↦ omega (arith, here, there, less)
      | inr same ↦ (let e = same.0 in omega (arith, here, there, e))
    ]

until_of : (x t : ℕ) (e : ℕ × ℕ × ℕ) → is_until x t e ≡ true → (e.0 < x) ⊎ ((x ≡ e.0) × (e.1 ≤ t))
until_of x t e holds =
    elim (cases_Bool (ltb e.0 x)) [
      | inl below ↦ inl (ltb-true e.0 x below)
      | inr ge ↦ (
          let by : is_by x t e ≡ true = sym (ap (λ b. b || is_by x t e) ge) ∙ holds in
          let both = and_parts (eqb x e.0) (leb e.1 t) by in
          inr (eqb-true x e.0 both.0, leb-true e.1 t both.1)
          )
    ]

until_from : (x t : ℕ) (e : ℕ × ℕ × ℕ) → (e.0 < x) ⊎ ((x ≡ e.0) × (e.1 ≤ t)) → is_until x t e ≡ true
until_from x t e (inl below) = or_left (ltb e.0 x) (is_by x t e) (lt-ltb e.0 x below)
until_from x t e (inr same) = or_right (ltb e.0 x) (is_by x t e)
    (and_from (eqb x e.0) (leb e.1 t) (eq-eqb x e.0 same.0) (le-leb e.1 t same.1))

until_sooner : (x t : ℕ) (a b : ℕ × ℕ × ℕ) → Lex a b → (b.0 < x) ⊎ ((x ≡ b.0) × (b.1 ≤ t))
    → (a.0 < x) ⊎ ((x ≡ a.0) × (a.1 ≤ t))
until_sooner x t a b (inl less) (inl below) = inl (omega (arith, less, below))
until_sooner x t a b (inl less) (inr same) = let e = same.0 in inl (omega (arith, less, e))
until_sooner x t a b (inr even) (inl below) = let e = even.0 in inl (omega (arith, e, below))
until_sooner x t a b (inr even) (inr same) =
    let e = even.0 in
    let f = same.0 in
    let le = same.1 in
    inr (
      omega (arith, e, f),
      elim even.1 [
        | inl lt ↦ omega (arith, lt, le)
        | inr q ↦ (let r = q.0 in omega (arith, r, le))
      ],
    )

pub until_parts : (x t : ℕ) (steps : List (ℕ × ℕ × ℕ)) → IsSortedBy lower steps → IsPartitionedBy (is_until x t) steps
until_parts x t steps up i j d le lt holds =
    let P : ℕ × ℕ × ℕ → Type 0 = λ e. is_until x t e ≡ true in
    let there = subst P (get_or_default steps j d (0, 0, 0) lt) holds in
    let here = until_from x t (place steps i)
    (until_sooner x t (place steps i) (place steps j) (line_rises steps up i j le lt)
    (until_of x t (place steps j) there)) in
    subst P (sym (get_or_default steps i d (0, 0, 0) (omega (arith, le, lt)))) here

-- an entry until then is of a lower item, or of this one
one_until : (x t : ℕ) (e : ℕ × ℕ × ℕ)
    → ◌≡◌ {A = ℕ} (cond (is_until x t e) 1 0) (cond (is_below x e) 1 0 + cond (is_by x t e) 1 0)
one_until x t e =
    elim (cases_Bool (ltb e.0 x)) [
      | inl below ↦ (
          let less = ltb-true e.0 x below in
          let ne : x ≢ e.0 = λ q. absurd (omega (arith, less, q)) in
          let by : is_by x t e ≡ false = and_left (eqb x e.0) (leb e.1 t) (ne_eqb x e.0 ne) in
          let a : ◌≡◌ {A = ℕ} (cond (is_until x t e) 1 0) 1 =
          ap (λ b. cond b 1 0) (or_left (ltb e.0 x) (is_by x t e) below) in
          let b : ◌≡◌ {A = ℕ} (cond (is_below x e) 1 0) 1 = ap (λ b. cond b 1 0) below in
          let z : ◌≡◌ {A = ℕ} (cond (is_by x t e) 1 0) 0 = ap (λ b. cond b 1 0) by in
          omega (arith, a, b, z)
          )
      | inr ge ↦ (
          let a : ◌≡◌ {A = ℕ} (cond (is_until x t e) 1 0) (cond (is_by x t e) 1 0) =
          ap (λ b. cond (b || is_by x t e) 1 0) ge in
          let z : ◌≡◌ {A = ℕ} (cond (is_below x e) 1 0) 0 = ap (λ b. cond b 1 0) ge in
          omega (arith, a, z)
          )
    ]

pub count_untils : (x t : ℕ) (steps : List (ℕ × ℕ × ℕ))
    → count_by (is_until x t) steps ≡ count_by (is_below x) steps + count_by (is_by x t) steps
count_untils x t [] = refl
count_untils x t (e ∷ steps) =
    let on = count_untils x t steps in
    let one = one_until x t e in
    let a = sum_by-cons (λ w. cond (is_until x t w) 1 0) e steps in
    let b = sum_by-cons (λ w. cond (is_below x w) 1 0) e steps in
    let c = sum_by-cons (λ w. cond (is_by x t w) 1 0) e steps in
    omega (arith, on, one, a, b, c)

-- ---- what the counts tell of a get

pub too_soon_both_ways : (h : List Call) (x g end put got : ℕ) (begun ended : List (ℕ × ℕ × ℕ)) → Gets h x g
    → end ≡ last_step (call h g).end → AreSorted Outer h In begun → AreSorted Outer h Out ended
    → put ≡ count_by (is_by x end) begun → got ≡ count_by (is_by x end) ended
    → (ltb put got ≡ true) ↔ IsTakenTooSoon h g
too_soon_both_ways h x g end put got begun ended gets at ins outs e f =
    let Q : ℕ → Type 0 = λ w. IsOverdrawn h x w in
    let a : put ≡ puts_begun h x end = e ∙ ins.counted x end in
    let b : got ≡ gets_ended h x end = f ∙ outs.counted x end in (
      λ t. (x, gets, subst Q at (let lt = ltb-true put got t in omega (arith, lt, a, b))),
      λ soon. (
          let P : ℕ → Type 0 = λ w. IsOverdrawn h w (last_step (call h g).end) in
          let lt = subst Q (sym at) (subst P (same_item h soon.0 x g soon.1 gets) soon.2) in
          lt-ltb put got (omega (arith, lt, a, b))
          ),
    )
