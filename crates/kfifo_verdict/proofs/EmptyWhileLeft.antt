-- The search for Empties while items were left: entries sorted by items and steps, and until when items are left.
use Rattle.std.proofs.Common.{ℕ, zero, suc, ◌≡◌, ◌≢◌, ◌+◌, ◌<◌, ◌≤◌, ◌⊎◌, ◌↔◌, ◌||◌, Bool, true, false, cond, count_by}
use Rattle.std.proofs.Common.{eqb, leb, ltb, max, List, [], ◌∷◌, ◌++◌, length, get_or, set, refl, sym, ◌∙◌, ap, subst}
use Rattle.std.proofs.Common.{inl, inr, arith, length-append, length-set, get_or-set_other, get_or-set_same}
use Rattle.std.proofs.lemmas.Bool.{cases_Bool, cases_lt, cases_eq, eq-eqb, ne_eqb, eqb-true, lt-ltb, ltb-true, leb-true}
use Rattle.std.proofs.lemmas.Bool.{le-leb, leb-false, ltb-false, and_from, and_parts, and_left, or_left, or_right}
use Rattle.std.proofs.lemmas.Bool.{false≢true, false_from_ne_true}
use Rattle.std.proofs.lemmas.List.{get_or_append_left}
use Rattle.std.proofs.lemmas.List.Sums.{sum_by-cons, count_by-le-length}
use Rattle.std.proofs.Math.Seq.{get_or-append_seam}
use Rattle.std.proofs.Math.Nat.{le-max_left, le-max_right}
use Rattle.std.specs.List.Sorted.{IsSortedBy, IsPartitionPoint}
use Rattle.kfifo_model.specs.declared.calls.Call.{Call}
use Rattle.kfifo_model.specs.declared.effects.Effect.TheVariants.{FindsNone}
use Rattle.kfifo_model.specs.Histories.{call, no_call, does, EndsBelow}
use Rattle.kfifo_model.specs.Validity.{IsHistory}
use Rattle.kfifo_model.specs.declared.effects.Side.{Side}
use Rattle.kfifo_model.specs.declared.effects.Side.TheVariants.{In, Out}
use Rattle.kfifo_verdict.specs.declared.presences.Presence.{Presence}
use Rattle.kfifo_verdict.specs.Evidence.{HasItemsLeft, gets_begun}
use Rattle.kfifo_verdict.specs.Finding.{first_of}
use Rattle.kfifo_verdict.specs.Plain.{lower, place}
use Rattle.kfifo_verdict.specs.declared.steps.Key.TheVariants.{Inner}
use Rattle.kfifo_verdict.specs.Steps.{passes, AreSorted, is_below}
use Rattle.kfifo_verdict.specs.Left.{is_at, is_up_to, rank, IsSpan, HasSpan}
use Rattle.kfifo_verdict.specs.Left.{IsKept, AreEnds, IsSomeLeft, AreFar}
use Rattle.kfifo_verdict.proofs.Queueing.{Lex, line_rises}
use Rattle.kfifo_verdict.proofs.Covering.{moment_here}
use Rattle.kfifo_verdict.proofs.Moments.{rising, not_falling, reached}

-- ---- in a sorted list

none_pass : (test : ℕ × ℕ × ℕ → Bool) (l : List (ℕ × ℕ × ℕ)) → ((i : ℕ) → i < length l → test (place l i) ≡ true → ⊥)
    → count_by test l ≡ 0
none_pass test [] never = refl
none_pass test (e ∷ l) never =
    let on = none_pass test l (λ i lt q. never (suc i) (omega (arith, lt)) q) in
    let none : ◌≡◌ {A = ℕ} (cond (test e) 1 0) 0 =
    ap (λ b. cond b 1 0) (false_from_ne_true (test e) (λ q. never zero (omega arith) q)) in
    let p = sum_by-cons (λ w. cond (test w) 1 0) e l in
    omega (arith, on, none, p)

-- where a test passes for each entry before one for which it passes, those for which it does are the first
abbrev pub IsForFirst : (ℕ × ℕ × ℕ → Bool) → List (ℕ × ℕ × ℕ) → Type 0
IsForFirst test l = (i j : ℕ) → i ≤ j → j < length l → test (place l j) ≡ true → test (place l i) ≡ true

-- where the first one passes, the others are counted as in the rest
pass_on : (test : ℕ × ℕ × ℕ → Bool) (e : ℕ × ℕ × ℕ) (l : List (ℕ × ℕ × ℕ))
    → ((i : ℕ) → i < length l → (i < count_by test l) ↔ (test (place l i) ≡ true)) → test e ≡ true
    → count_by test (e ∷ l) ≡ suc (count_by test l) → (i : ℕ) → i < length (e ∷ l)
    → (i < count_by test (e ∷ l)) ↔ (test (place (e ∷ l) i) ≡ true)
pass_on test e l on holds all zero lt = (λ _. holds, λ _. omega (arith, all))
pass_on test e l on holds all (suc i) lt =
    let o = on i (omega (arith, lt)) in
    (λ less. o.0 (omega (arith, less, all)), λ q. (let less = o.1 q in omega (arith, less, all)))

first_pass : (test : ℕ × ℕ × ℕ → Bool) (l : List (ℕ × ℕ × ℕ)) → IsForFirst test l → (i : ℕ) → i < length l
    → (i < count_by test l) ↔ (test (place l i) ≡ true)
first_pass test [] down i inside = absurd (omega (arith, inside))
first_pass test (e ∷ l) down i inside =
    let p = sum_by-cons (λ w. cond (test w) 1 0) e l in
    let on = first_pass test l (λ i j le lt q. down (suc i) (suc j) (omega (arith, le)) (omega (arith, lt)) q) in
    elim (cases_Bool (test e)) [
      | inl holds ↦ (
          let one : ◌≡◌ {A = ℕ} (cond (test e) 1 0) 1 = ap (λ b. cond b 1 0) holds in
          pass_on test e l on holds (omega (arith, p, one)) i inside
          )
      | inr fails ↦ (
          let none = none_pass test (e ∷ l) (λ j lt q. false≢true (sym fails ∙ down zero j (omega arith) lt q)) in (
            λ lt. absurd (omega (arith, lt, none)),
            λ q.
                absurd (false≢true (sym fails ∙ down zero i (omega arith) inside q)),
          )
          )
    ]

passes_sooner : (side : Side) (a b t : ℕ) → a ≤ b → passes side b t ≡ true → passes side a t ≡ true
passes_sooner In a b t le q = let lt = ltb-true b t q in lt-ltb a t (omega (arith, le, lt))
passes_sooner Out a b t le q = let up = leb-true b t q in le-leb a t (omega (arith, le, up))

-- an entry is of a lower item, or of this one and counts
abbrev IsUpTo : Side → ℕ → ℕ → ℕ × ℕ × ℕ → Type 0
IsUpTo side x t e = (e.0 < x) ⊎ ((x ≡ e.0) × (passes side e.1 t ≡ true))

up_to_of : (side : Side) (x t : ℕ) (e : ℕ × ℕ × ℕ) → is_up_to side x t e ≡ true → IsUpTo side x t e
up_to_of side x t e holds =
    elim (cases_Bool (ltb e.0 x)) [
      | inl below ↦ inl (ltb-true e.0 x below)
      | inr ge ↦ (
          let at : is_at side x t e ≡ true = sym (ap (λ b. b || is_at side x t e) ge) ∙ holds in
          let both = and_parts (eqb x e.0) (passes side e.1 t) at in
          inr (eqb-true x e.0 both.0, both.1)
          )
    ]

up_to_from : (side : Side) (x t : ℕ) (e : ℕ × ℕ × ℕ) → IsUpTo side x t e → is_up_to side x t e ≡ true
up_to_from side x t e (inl below) = or_left (ltb e.0 x) (is_at side x t e) (lt-ltb e.0 x below)
up_to_from side x t e (inr same) =
    or_right (ltb e.0 x) (is_at side x t e) (and_from (eqb x e.0) (passes side e.1 t) (eq-eqb x e.0 same.0) same.1)

up_to_sooner : (side : Side) (x t : ℕ) (a b : ℕ × ℕ × ℕ) → Lex a b → IsUpTo side x t b → IsUpTo side x t a
up_to_sooner side x t a b (inl less) (inl below) = inl (omega (arith, less, below))
up_to_sooner side x t a b (inl less) (inr same) = let e = same.0 in inl (omega (arith, less, e))
up_to_sooner side x t a b (inr even) (inl below) = let e = even.0 in inl (omega (arith, e, below))
up_to_sooner side x t a b (inr even) (inr same) =
    let le : a.1 ≤ b.1 = elim even.1 [ inl lt ↦ omega (arith, lt) | inr q ↦ (let r = q.0 in omega (arith, r)) ] in
    inr (same.0 ∙ sym even.0, passes_sooner side a.1 b.1 t le same.1)

pub up_to_first : (side : Side) (x t : ℕ) (steps : List (ℕ × ℕ × ℕ)) → IsSortedBy lower steps
    → IsForFirst (is_up_to side x t) steps
up_to_first side x t steps up i j le lt q =
    up_to_from side x t (place steps i)
    (up_to_sooner side x t (place steps i) (place steps j) (line_rises steps up i j le lt)
    (up_to_of side x t (place steps j) q))

below_first : (x : ℕ) (steps : List (ℕ × ℕ × ℕ)) → IsSortedBy lower steps → IsForFirst (is_below x) steps
below_first x steps up i j le lt q =
    let less = ltb-true (place steps j).0 x q in
    elim (line_rises steps up i j le lt) [
      | inl l ↦ lt-ltb (place steps i).0 x (omega (arith, l, less))
      | inr s ↦ (let e = s.0 in lt-ltb (place steps i).0 x (omega (arith, e, less)))
    ]

one_up_to : (side : Side) (x t : ℕ) (e : ℕ × ℕ × ℕ)
    → ◌≡◌ {A = ℕ} (cond (is_up_to side x t e) 1 0) (cond (is_below x e) 1 0 + cond (is_at side x t e) 1 0)
one_up_to side x t e =
    elim (cases_Bool (ltb e.0 x)) [
      | inl below ↦ (
          let less = ltb-true e.0 x below in
          let ne : x ≢ e.0 = λ q. absurd (omega (arith, less, q)) in
          let at : is_at side x t e ≡ false = and_left (eqb x e.0) (passes side e.1 t) (ne_eqb x e.0 ne) in
          let a : ◌≡◌ {A = ℕ} (cond (is_up_to side x t e) 1 0) 1 =
          ap (λ b. cond b 1 0) (or_left (ltb e.0 x) (is_at side x t e) below) in
          let b : ◌≡◌ {A = ℕ} (cond (is_below x e) 1 0) 1 = ap (λ b. cond b 1 0) below in
          let z : ◌≡◌ {A = ℕ} (cond (is_at side x t e) 1 0) 0 = ap (λ b. cond b 1 0) at in
          omega (arith, a, b, z)
          )
      | inr ge ↦ (
          let a : ◌≡◌ {A = ℕ} (cond (is_up_to side x t e) 1 0) (cond (is_at side x t e) 1 0) =
          ap (λ b. cond (b || is_at side x t e) 1 0) ge in
          let z : ◌≡◌ {A = ℕ} (cond (is_below x e) 1 0) 0 = ap (λ b. cond b 1 0) ge in
          omega (arith, a, z)
          )
    ]

pub count_up_to : (side : Side) (x t : ℕ) (steps : List (ℕ × ℕ × ℕ))
    → count_by (is_up_to side x t) steps ≡ count_by (is_below x) steps + count_by (is_at side x t) steps
count_up_to side x t [] = refl
count_up_to side x t (e ∷ steps) =
    let on = count_up_to side x t steps in
    let one = one_up_to side x t e in
    let a = sum_by-cons (λ w. cond (is_up_to side x t w) 1 0) e steps in
    let b = sum_by-cons (λ w. cond (is_below x w) 1 0) e steps in
    let c = sum_by-cons (λ w. cond (is_at side x t w) 1 0) e steps in
    omega (arith, on, one, a, b, c)

-- those of lower items are behind an entry's place
pub lower_before : (steps : List (ℕ × ℕ × ℕ)) → IsSortedBy lower steps → (i : ℕ) → i < length steps
    → count_by (is_below (place steps i).0) steps ≤ i
lower_before steps up i inside =
    let x : ℕ = (place steps i).0 in
    elim (cases_lt i (count_by (is_below x) steps)) [
      | inl lt ↦ (let self = ltb-true x x ((first_pass (is_below x) steps (below_first x steps up) i inside).0 lt) in
          absurd (omega (arith, self)))
      | inr le ↦ le
    ]

-- an entry counts when more of its item count than stand before it
pub rank_counts : (side : Side) (steps : List (ℕ × ℕ × ℕ)) → IsSortedBy lower steps → (i t : ℕ) → i < length steps
    → (passes side (place steps i).1 t ≡ true) ↔ (rank steps i < count_by (is_at side (place steps i).0 t) steps)
rank_counts side steps up i t inside =
    let x : ℕ = (place steps i).0 in
    let first = first_pass (is_up_to side x t) steps (up_to_first side x t steps up) i inside in
    let all = count_up_to side x t steps in
    let before = lower_before steps up i inside in (
      λ q. (let lt = first.1 (up_to_from side x t (place steps i) (inr (refl, q))) in omega (arith, lt, all, before)),
      λ lt. elim (up_to_of side x t (place steps i) (first.0 (omega (arith, lt, all, before)))) [
        | inl below ↦ absurd (omega (arith, below))
        | inr same ↦ same.1
      ],
    )

-- the entry at the place that an item's r-th one has, from 0 on
pub ranked : (side : Side) (x t r : ℕ) (steps : List (ℕ × ℕ × ℕ)) → IsSortedBy lower steps
    → r < count_by (is_at side x t) steps → (i : ℕ)
    × (i < length steps) × ((place steps i).0 ≡ x) × (rank steps i ≡ r)
ranked side x t r steps up lt =
    let i : ℕ = count_by (is_below x) steps + r in
    let all = count_up_to side x t steps in
    let most = count_by-le-length (is_up_to side x t) steps in
    let inside : i < length steps = omega (arith, lt, all, most) in
    let q = (first_pass (is_up_to side x t) steps (up_to_first side x t steps up) i inside).0
    (omega (arith, lt, all)) in
    let is : (place steps i).0 ≡ x = elim (up_to_of side x t (place steps i) q) [
      | inl below ↦
          (let less = (first_pass (is_below x) steps (below_first x steps up) i inside).1
          (lt-ltb (place steps i).0 x below) in
          absurd (omega (arith, less)))
      | inr same ↦ sym same.0
    ] in
    let e = ap (λ w. count_by (is_below w) steps) is in
    (i, inside, is, omega (arith, e))

-- ---- the spans

pub begun_until : (h : List Call) (step i : ℕ)
    → IsPartitionPoint (λ c. leb c.first step ≡ true) (λ c. leb c.first step ≡ false) h i
    → (c : ℕ) → c < length h → (c < i) ↔ (first_of h c ≤ step)
begun_until h step i p c inside = (
  λ lt. leb-true (first_of h c) step (p.0 c no_call (omega arith) lt),
  λ le. elim (cases_lt c i) [
    | inl lt ↦ lt
    | inr ge ↦ (let more = leb-false (first_of h c) step (p.1 c no_call ge inside) in absurd (omega (arith, more, le)))
  ],
)

pub begun_below : (h : List Call) (step i : ℕ)
    → IsPartitionPoint (λ c. ltb c.first step ≡ true) (λ c. ltb c.first step ≡ false) h i
    → (c : ℕ) → c < length h → (c < i) ↔ (first_of h c < step)
begun_below h step i p c inside = (
  λ lt. ltb-true (first_of h c) step (p.0 c no_call (omega arith) lt),
  λ less. elim (cases_lt c i) [
    | inl lt ↦ lt
    | inr ge ↦ (let more = ltb-false (first_of h c) step (p.1 c no_call ge inside) in
        absurd (omega (arith, more, less)))
  ],
)

-- the get at this place has not begun
pub gone_from : (x at t : ℕ) (gets : List (ℕ × ℕ × ℕ)) → IsSortedBy lower gets → at < length gets
    → (place gets at).0 ≡ x → (t < (place gets at).1) ↔ (count_by (is_up_to Out x t) gets ≤ at)
gone_from x at t gets up inside is =
    let first = first_pass (is_up_to Out x t) gets (up_to_first Out x t gets up) at inside in (
      λ lt. elim (cases_lt at (count_by (is_up_to Out x t) gets)) [
        | inl less ↦ elim (up_to_of Out x t (place gets at) (first.0 less)) [
          | inl below ↦ absurd (omega (arith, below, is))
          | inr same ↦ (let le = leb-true (place gets at).1 t same.1 in absurd (omega (arith, le, lt)))
        ]
        | inr le ↦ le
      ],
      λ le. elim (cases_lt t (place gets at).1) [
        | inl lt ↦ lt
        | inr ge ↦ (let less =
            first.1 (up_to_from Out x t (place gets at) (inr (sym is, le-leb (place gets at).1 t ge))) in
            absurd (omega (arith, less, le)))
      ],
    )

-- no get of this item stands at this place
pub none_gone : (x at t : ℕ) (gets : List (ℕ × ℕ × ℕ)) → IsSortedBy lower gets → count_by (is_below x) gets ≤ at
    → (at < length gets → (place gets at).0 ≡ x → ⊥) → count_by (is_up_to Out x t) gets ≤ at
none_gone x at t gets up behind none =
    elim (cases_lt at (length gets)) [
      | inl inside ↦ elim (cases_lt at (count_by (is_up_to Out x t) gets)) [
        | inl less ↦
            elim (up_to_of Out x t (place gets at)
            ((first_pass (is_up_to Out x t) gets (up_to_first Out x t gets up) at inside).0 less)) [
              | inl below ↦ (
                  let lt = (first_pass (is_below x) gets (below_first x gets up) at inside).1
                  (lt-ltb (place gets at).0 x below) in
                  absurd (omega (arith, lt, behind))
                  )
              | inr same ↦ absurd (none inside (sym same.0))
            ]
        | inr le ↦ le
      ]
      | inr past ↦ (let most = count_by-le-length (is_up_to Out x t) gets in omega (arith, past, most))
    ]

pub span_is : (h : List Call) (puts gets : List (ℕ × ℕ × ℕ)) (i at : ℕ) (s : Presence) → i < length puts
    → AreSorted Inner h In puts
    → AreSorted Inner h Out gets → at ≡ count_by (is_below (place puts i).0) gets + rank puts i
    → ((c : ℕ) → c < length h → (c < s.start) ↔ (first_of h c ≤ (place puts i).1))
    → ((c : ℕ) → c < length h → (c < s.gone) ↔ (count_by (is_up_to Out (place puts i).0 (first_of h c)) gets ≤ at))
    → IsSpan h (place puts i).0 (rank puts i) s
span_is h puts gets i at s inside ps gs is starts goes c lt =
    let x : ℕ = (place puts i).0 in
    let t : ℕ = first_of h c in
    let counts = rank_counts In puts ps.sorted i t inside in
    let put = ps.counted x t in
    let got = gs.counted x t in
    let all = count_up_to Out x t gets in
    let from = starts c lt in
    let until = goes c lt in (
      λ both. (
        (
            let ended : (place puts i).1 < t = elim (cases_lt (place puts i).1 t) [
              | inl less ↦ less
              | inr ge ↦ (let early = from.1 ge in let le = both.0 in absurd (omega (arith, early, le)))
            ] in
            let more = counts.0 (lt-ltb (place puts i).1 t ended) in
            omega (arith, more, put)
            ),
        (let le = until.0 both.1 in omega (arith, le, all, got, is)),
      ),
      λ both. (
        (
            let more = both.0 in
            let less = ltb-true (place puts i).1 t (counts.1 (omega (arith, more, put))) in
            elim (cases_lt c s.start) [
              | inl early ↦ (let ge = from.0 early in absurd (omega (arith, ge, less)))
              | inr le ↦ le
            ]
            ),
        (let le = both.1 in until.1 (omega (arith, le, all, got, is))),
      ),
    )

-- ---- until when

pub ends_skip : (h : List Call) (puts : List (ℕ × ℕ × ℕ)) (n : ℕ) (far : List ℕ) (s : Presence) → AreEnds h puts n far
    → IsSpan h (place puts n).0 (rank puts n) s → length h ≤ s.start → AreEnds h puts (n + 1) far
ends_skip h puts n far s was is past = record {
  sized = was.sized;
  real = was.real;
  kept = λ i lt. elim (cases_lt i n) [
    | inl below ↦ was.kept i below
    | inr ge ↦ (
        let same : i ≡ n = omega (arith, ge, lt) in
        let P : ℕ → Type 0 = λ w. IsKept h far (place puts w).0 (rank puts w) in
        subst P (sym same) (s, is, λ less. absurd (omega (arith, less, past)))
        )
  ];
}

max_is : (a b : ℕ) → (max a b ≡ a) ⊎ (max a b ≡ b)
max_is a b = elim (cases_lt a b) [ inl lt ↦ inr (omega (arith, lt)) | inr le ↦ inl (omega (arith, le)) ]

pub ends_more : (h : List Call) (puts : List (ℕ × ℕ × ℕ)) (n : ℕ) (far more : List ℕ) (s : Presence) (top : ℕ)
    → AreEnds h puts n far
    → IsSpan h (place puts n).0 (rank puts n) s → s.start < length h → top ≡ max (get_or far s.start 0) s.gone
    → more ≡ set far s.start top → AreEnds h puts (n + 1) more
ends_more h puts n far more s top was is inside high e =
    let size = was.sized in
    let here : s.start < length far = omega (arith, size, inside) in
    let at_start : get_or more s.start 0 ≡ top = ap (λ (l : List ℕ). get_or l s.start 0) e ∙ rw get_or-set_same refl in
    let elsewhere : (c : ℕ) → c ≢ s.start → get_or more c 0 ≡ get_or far c 0 =
    λ c ne. ap (λ (l : List ℕ). get_or l c 0) e ∙ rw get_or-set_other refl in
    let old = le-max_left (get_or far s.start 0) s.gone in
    let new = le-max_right (get_or far s.start 0) s.gone in
    let grows : (c : ℕ) → get_or far c 0 ≤ get_or more c 0 = λ c. elim (cases_eq c s.start) [
      | inl same ↦ (
          let a = ap (λ w. get_or far w 0) same in
          let b = ap (λ w. get_or more w 0) same in
          omega (arith, a, b, at_start, high, old)
          )
      | inr ne ↦ (let a = elsewhere c ne in omega (arith, a))
    ] in
    record {
      sized = ap length e ∙ length-set far s.start top ∙ size;
      real = λ c lt. elim (cases_eq c s.start) [
        | inl same ↦ (
            let P : ℕ → Type 0 = λ w. 0 < get_or more w 0 → HasSpan h w (get_or more w 0) in
            let Q : ℕ → Type 0 = λ w. 0 < w → HasSpan h s.start w in
            subst P (sym same) (subst Q (sym (at_start ∙ high)) (elim (max_is (get_or far s.start 0) s.gone) [
              | inl a ↦ subst Q (sym a) (was.real s.start inside)
              | inr b ↦ (λ some. ((place puts n).0, rank puts n, s, is, omega arith, sym b))
            ]))
            )
        | inr ne ↦ (let Q : ℕ → Type 0 = λ w. 0 < w → HasSpan h c w in subst Q (sym (elsewhere c ne)) (was.real c lt))
      ];
      kept = λ i lt. elim (cases_lt i n) [
        | inl below ↦ (
            let k = was.kept i below in
            let up = grows k.0.start in
            (k.0, k.1, λ less. (let le = k.2 less in omega (arith, le, up)))
            )
        | inr ge ↦ (
            let same : i ≡ n = omega (arith, ge, lt) in
            let P : ℕ → Type 0 = λ w. IsKept h more (place puts w).0 (rank puts w) in
            subst P (sym same) (s, is, λ less. omega (arith, at_start, high, new))
            )
      ];
    }

-- the greatest of the first n values is most, and those so far are in far
pub record IsMostBelow (h : List Call) (ends far : List ℕ) (most n : ℕ) : Type 0 where
  pub sized : length far ≡ n
  pub most_held : 0 < most → (c : ℕ) × (c < n) × HasSpan h c most
  pub most_least : (d : ℕ) → d < n → get_or ends d 0 ≤ most
  pub held : (c : ℕ) → c < n → 0 < get_or far c 0 → HasSpan h c (get_or far c 0)
  pub least : (c d : ℕ) → c < n → d ≤ c → get_or ends d 0 ≤ get_or far c 0

span_later : (h : List Call) (c d gone : ℕ) → c ≤ d → HasSpan h c gone → HasSpan h d gone
span_later h c d gone le s = let up = s.4 in (s.0, s.1, s.2, s.3, omega (arith, up, le), s.5)

pub most_more : (h : List Call) (puts : List (ℕ × ℕ × ℕ)) (m : ℕ) (ends far more : List ℕ) (most next n : ℕ)
    → AreEnds h puts m ends
    → n < length h → next ≡ max most (get_or ends n 0) → more ≡ far ++ next ∷ [] → IsMostBelow h ends far most n
    → IsMostBelow h ends more next (n + 1)
most_more h puts m ends far more most next n are inside high e was =
    let size = was.sized in
    let left = le-max_left most (get_or ends n 0) in
    let right = le-max_right most (get_or ends n 0) in
    let before : (c : ℕ) → c < n → get_or more c 0 ≡ get_or far c 0 =
    λ c lt. ap (λ (l : List ℕ). get_or l c 0) e
    ∙ get_or_append_left far (next ∷ []) 0 c (let i : c < length far = omega (arith, size, lt) in i) in
    let last : get_or more n 0 ≡ next =
    ap (λ (l : List ℕ). get_or l n 0) e
    ∙ (ap (λ w. get_or (far ++ next ∷ []) w 0) (sym size) ∙ get_or-append_seam far next [] 0) in
    let length_more = ap length e in
    let Q : ℕ → Type 0 = λ w. 0 < w → HasSpan h n w in
    let new_held : 0 < next → HasSpan h n next = subst Q (sym high) (elim (max_is most (get_or ends n 0)) [
      | inl a ↦ subst Q (sym a) (λ some. let o = was.most_held some in let lt =
          o.1 in span_later h o.0 n most (omega (arith, lt)) o.2)
      | inr b ↦ subst Q (sym b) (are.real n inside)
    ]) in
    let covers : (d : ℕ) → d < n + 1 → get_or ends d 0 ≤ next = λ d lt. elim (cases_lt d n) [
      | inl below ↦ (let le = was.most_least d below in omega (arith, le, left, high))
      | inr ge ↦ (let same : d ≡ n = omega (arith, ge, lt) in let a =
          ap (λ w. get_or ends w 0) same in omega (arith, a, right, high))
    ] in
    record {
      sized = omega (arith, length_more, length-append far (next ∷ []), size);
      most_held = λ some. (n, omega arith, new_held some);
      most_least = covers;
      held = λ c lt. elim (cases_lt c n) [
        | inl below ↦
            (let P : ℕ → Type 0 = λ w. 0 < w → HasSpan h c w in subst P (sym (before c below)) (was.held c below))
        | inr ge ↦ (
            let same : c ≡ n = omega (arith, ge, lt) in
            let R : ℕ → Type 0 = λ w. 0 < get_or more w 0 → HasSpan h w (get_or more w 0) in
            subst R (sym same) (subst Q (sym last) new_held)
            )
      ];
      least = λ c d lt le. elim (cases_lt c n) [
        | inl below ↦ (let up = was.least c d below le in let a = before c below in omega (arith, up, a))
        | inr ge ↦ (
            let same : c ≡ n = omega (arith, ge, lt) in
            let a = ap (λ w. get_or more w 0) same in
            let up = covers d (omega (arith, le, lt)) in
            omega (arith, up, a, last)
            )
      ];
    }

pub far_all : (h : List Call) (puts : List (ℕ × ℕ × ℕ)) (ends far : List ℕ) (most n : ℕ) → AreSorted Inner h In puts
    → AreEnds h puts (length puts) ends → n ≡ length h → IsMostBelow h ends far most n → AreFar h far
far_all h puts ends far most n ps are all m = record {
  sized = m.sized ∙ all;
  real = λ c d in_c le lt in_d.
      let s = m.held c (omega (arith, in_c, all)) (omega (arith, lt)) in
      let up = s.4 in
      let end = s.5 in
      let both = (s.3 d in_d).0 (omega (arith, up, le), omega (arith, lt, end)) in
      let more = both.0 in
      let few = both.1 in
      (s.0, omega (arith, more, few));
  found = λ c in_c left.
      let x : ℕ = left.0 in
      let t : ℕ = first_of h c in
      let lt = left.1 in
      let put = ps.counted x t in
      let i = ranked In x t (gets_begun h x t) puts ps.sorted (omega (arith, lt, put)) in
      let k = are.kept i.0 i.1 in
      let P : ℕ → Type 0 = λ w. IsSpan h w (rank puts i.0) k.0 in
      let Q : ℕ → Type 0 = λ w. IsSpan h x w k.0 in
      let s = subst Q i.3 (subst P i.2 k.1) in
      let both = (s c in_c).1 (lt, omega arith) in
      let from = both.0 in
      let until = both.1 in
      let high = k.2 (omega (arith, from, in_c)) in
      let up = m.least c k.0.start (omega (arith, in_c, all)) from in
      omega (arith, until, high, up);
}

-- ---- from one to the next

-- some item is left as each call begins from call e on, below call n
abbrev pub IsLeftBelow : List Call → ℕ → ℕ → Type 0
IsLeftBelow h e n = (e ≤ n) × ((b : ℕ) → e ≤ b → b < n → b < length h → IsSomeLeft h b)

pub left_on : (h : List Call) (far : List ℕ) (e n : ℕ) → AreFar h far → n < length h → n < get_or far n 0
    → IsLeftBelow h e n
    → IsLeftBelow h e (get_or far n 0)
left_on h far e n are inside up was =
    let from = was.0 in (
      omega (arith, from, up),
      λ b le lt in_b. elim (cases_lt b n) [
        | inl below ↦ was.1 b le below in_b
        | inr ge ↦ are.real n b inside ge lt in_b
      ],
    )

pub left_whole : (h : List Call) (e n : ℕ) → IsHistory h → e < length h → does h e ≡ FindsNone → IsLeftBelow h e n
    → ((n < length h) × (EndsBelow (call h e).end (first_of h n) → ⊥) → ⊥) → HasItemsLeft h e
left_whole h e n v in_e finds l past = record {
  empty = finds;
  left = λ b in_b moment.
      let from : e ≤ b = elim (cases_lt b e) [
        | inl lt ↦ (let up = rising h b e v lt in_e in let le = moment.0 in absurd (omega (arith, up, le)))
        | inr le ↦ le
      ] in
      elim (cases_lt b n) [
        | inl lt ↦ l.1 b from lt in_b
        | inr ge ↦ absurd (past (
          omega (arith, ge, in_b),
          λ below.
              let lt = reached (call h e).end (first_of h b) (first_of h n) moment.1 below in
              let up = not_falling h n b v ge in_b in
              omega (arith, lt, up),
        ))
      ];
}

pub left_broken : (h : List Call) (far : List ℕ) (e n : ℕ) → IsHistory h → AreFar h far → n < length h
    → (EndsBelow (call h e).end (first_of h n) → ⊥) → get_or far n 0 ≤ n → IsLeftBelow h e n → HasItemsLeft h e → ⊥
left_broken h far e n v are inside open_ le l has =
    let lt = are.found n inside (has.left n inside (moment_here h e n v l.0 inside open_)) in
    omega (arith, lt, le)
