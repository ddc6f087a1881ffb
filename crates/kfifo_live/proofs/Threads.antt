-- Of a history made of logs, the calls of one thread are its log.
use Rattle.std.proofs.Common.{◌≡◌, ◌≢◌, ◌⊎◌, ℕ, zero, suc, ◌<◌, List, [], ◌∷◌, ◌++◌, length, get_or, refl, sym, ap, ◌∙◌}
use Rattle.std.proofs.Common.{subst, inl, inr, arith, cond, eq-eqb, ne_eqb}
use Rattle.std.specs.Prelude.{IsPermutation}
use Rattle.std.specs.List.{All, AllByRecursion}
use Rattle.std.proofs.lemmas.Bool.{cases_eq}
use Rattle.std.proofs.lemmas.List.Sorted.{All-permutation, IsPermutation-sym}
use Rattle.kfifo_live.proofs.Types.{Call}
use Rattle.kfifo_model.specs.Lists.{EachPair}
use Rattle.kfifo_live.specs.Stamps.{Logged, all_logs, calls_by}
use Rattle.kfifo_live.proofs.Stamping.{threads_of}

-- membership, by recursion
abbrev pub Has : {X : Type 0} → X → List X → Type 0
Has z [] = ⊥
Has z (x ∷ xs) = (x ≡ z) ⊎ Has z xs

pub has_of : {X : Type 0} (P : X → Type 0) (xs : List X) (z : X) → AllByRecursion P xs → Has z xs → P z
has_of P [] z all is = absurd is
has_of P (x ∷ xs) z all is = elim is [ inl same ↦ subst P same all.0 | inr later ↦ has_of P xs z all.1 later ]

pub each_by_has : {X : Type 0} (P : X → Type 0) (xs : List X) → ((x : X) → Has x xs → P x) → AllByRecursion P xs
each_by_has P [] on = tt
each_by_has P (x ∷ xs) on = (on x (inl refl), each_by_has P xs (λ z is. on z (inr is)))

-- pairs by their places
pub pairs_from : {X : Type 0} (d : X) (R : X → X → Type 0) (xs : List X)
    → ((i j : ℕ) → i < j → j < length xs → R (get_or xs i d) (get_or xs j d)) → EachPair R xs
pairs_from d R [] on = tt
pairs_from d R (x ∷ xs) on = (
  each_place d (R x) xs (λ j within. on 0 (suc j) (omega arith) (omega arith)),
  pairs_from d R xs (λ i j lt within. on (suc i) (suc j) (omega arith) (omega arith)),
)
  where
    each_place : {X : Type 0} (d : X) (P : X → Type 0) (xs : List X) → ((j : ℕ) → j < length xs → P (get_or xs j d))
        → AllByRecursion P xs
    each_place d P [] on = tt
    each_place d P (x ∷ xs) on = (on 0 (omega arith), each_place d P xs (λ j within. on (suc j) (omega arith)))

has_append : {X : Type 0} (xs ys : List X) (z : X) → Has z (xs ++ ys) → Has z xs ⊎ Has z ys
has_append [] ys z is = inr is
has_append (x ∷ xs) ys z is = elim is [
  | inl same ↦ inl (inl same)
  | inr later ↦ elim (has_append xs ys z later) [ inl a ↦ inl (inr a) | inr b ↦ inr b ]
]

has_left : {X : Type 0} (xs ys : List X) (z : X) → Has z xs → Has z (xs ++ ys)
has_left [] ys z is = absurd is
has_left (x ∷ xs) ys z is = elim is [ inl same ↦ inl same | inr later ↦ inr (has_left xs ys z later) ]

has_right : {X : Type 0} (xs ys : List X) (z : X) → Has z ys → Has z (xs ++ ys)
has_right [] ys z is = is
has_right (x ∷ xs) ys z is = inr (has_right xs ys z is)

each_has : {X : Type 0} (xs : List X) → AllByRecursion (λ z. Has z xs) xs
each_has xs = each_by_has (λ z. Has z xs) xs (λ z is. is)

-- two rising lists with the same members are one
rising_one : (xs ys : List Call) → EachPair (λ c d. c.first < d.first) xs → EachPair (λ c d. c.first < d.first) ys
    → ((z : Call) → Has z xs → Has z ys) → ((z : Call) → Has z ys → Has z xs) → xs ≡ ys
rising_one [] [] a b there back = refl
rising_one [] (y ∷ ys) a b there back = absurd (back y (inl refl))
rising_one (x ∷ xs) [] a b there back = absurd (there x (inl refl))
rising_one (x ∷ xs) (y ∷ ys) a b there back =
    let same : y ≡ x =
    elim (there x (inl refl)) [
      | inl is ↦ is
      | inr later ↦ elim (back y (inl refl)) [
        | inl is ↦ sym is
        | inr earlier ↦ absurd (let less = has_of (λ d. y.first < d.first) ys x b.0 later in let more =
            has_of (λ d. x.first < d.first) xs y a.0 earlier in omega arith)
      ]
    ] in
    let rest = rising_one xs ys a.1 b.1
    (λ z is. elim (there z (inr is)) [
      | inl first ↦ absurd (let less = has_of (λ d. x.first < d.first) xs z a.0 is in let e : x.first
          ≡ z.first = ap (λ (c : Call). c.first) (sym same ∙ first) in omega arith)
      | inr later ↦ later
    ])
    (λ z is. elim (back z (inr is)) [
      | inl first ↦ absurd (let less = has_of (λ d. y.first < d.first) ys z b.0 is in let e : y.first
          ≡ z.first = ap (λ (c : Call). c.first) (same ∙ first) in omega arith)
      | inr later ↦ later
    ]) in
    λ i. sym same i ∷ rest i

-- the calls of a thread
kept : (t : ℕ) (c : Call) (cs : List Call) → c.thread ≡ t → calls_by t (c ∷ cs) ≡ c ∷ calls_by t cs
kept t c cs mine = ap (λ b. cond b (c ∷ calls_by t cs) (calls_by t cs)) (eq-eqb c.thread t mine)

left_out : (t : ℕ) (c : Call) (cs : List Call) → c.thread ≢ t → calls_by t (c ∷ cs) ≡ calls_by t cs
left_out t c cs other = ap (λ b. cond b (c ∷ calls_by t cs) (calls_by t cs)) (ne_eqb c.thread t other)

by_has : (t : ℕ) (cs : List Call) (z : Call) → Has z (calls_by t cs) → Has z cs × (z.thread ≡ t)
by_has t [] z is = absurd is
by_has t (c ∷ cs) z is = elim (cases_eq c.thread t) [
  | inl mine ↦ elim (subst (Has z) (kept t c cs mine) is) [
    | inl same ↦ (inl same, ap (λ (x : Call). x.thread) (sym same) ∙ mine)
    | inr later ↦ let k = by_has t cs z later in (inr k.0, k.1)
  ]
  | inr other ↦ let k = by_has t cs z (subst (Has z) (left_out t c cs other) is) in (inr k.0, k.1)
]

has_by : (t : ℕ) (cs : List Call) (z : Call) → Has z cs → z.thread ≡ t → Has z (calls_by t cs)
has_by t [] z is mine = absurd is
has_by t (c ∷ cs) z is mine = elim (cases_eq c.thread t) [
  | inl own ↦ subst (Has z) (sym (kept t c cs own)) (elim is [
    | inl same ↦ inl same
    | inr later ↦ inr (has_by t cs z later mine)
  ])
  | inr other ↦ subst (Has z) (sym (left_out t c cs other))
      (elim is [
        | inl same ↦ absurd (other (ap (λ (x : Call). x.thread) same ∙ mine))
        | inr later ↦ has_by t cs z later mine
      ])
]

by_each : (t : ℕ) (P : Call → Type 0) (cs : List Call) → AllByRecursion P cs → AllByRecursion P (calls_by t cs)
by_each t P [] all = tt
by_each t P (c ∷ cs) all = elim (cases_eq c.thread t) [
  | inl mine ↦ subst (AllByRecursion P) (sym (kept t c cs mine)) (all.0, by_each t P cs all.1)
  | inr other ↦ subst (AllByRecursion P) (sym (left_out t c cs other)) (by_each t P cs all.1)
]

by_pairs : (t : ℕ) (R : Call → Call → Type 0) (cs : List Call) → EachPair R cs → EachPair R (calls_by t cs)
by_pairs t R [] pairs = tt
by_pairs t R (c ∷ cs) pairs = elim (cases_eq c.thread t) [
  | inl mine ↦ subst (EachPair R) (sym (kept t c cs mine)) (by_each t (R c) cs pairs.0, by_pairs t R cs pairs.1)
  | inr other ↦ subst (EachPair R) (sym (left_out t c cs other)) (by_pairs t R cs pairs.1)
]

-- a call of a log is in all of them, and one of all of them with this thread is in its log
in_all : (p : Logged) (ps : List Logged) (z : Call) → Has p ps → Has z p.log → Has z (all_logs ps)
in_all p [] z there is = absurd there
in_all p (q ∷ qs) z there is = elim there [
  | inl same ↦ has_left q.log (all_logs qs) z (subst (λ (x : Logged). Has z x.log) (sym same) is)
  | inr later ↦ has_right q.log (all_logs qs) z (in_all p qs z later is)
]

thread_in : (p : Logged) (ps : List Logged) → Has p ps → Has p.pass.thread (threads_of ps)
thread_in p [] there = there
thread_in p (q ∷ qs) there = elim there [
  | inl same ↦ inl (ap (λ (x : Logged). x.pass.thread) same)
  | inr later ↦ inr (thread_in p qs later)
]

in_own : (p : Logged) (ps : List Logged) (z : Call) → Has p ps → EachPair (λ t u. t ≢ u) (threads_of ps)
    → AllByRecursion (λ q. AllByRecursion (λ c. c.thread ≡ q.pass.thread) q.log) ps → Has z (all_logs ps)
    → z.thread ≡ p.pass.thread
    → Has z p.log
in_own p [] z there apart mine is of = absurd there
in_own p (q ∷ qs) z there apart mine is of = elim (has_append q.log (all_logs qs) z is) [
  | inl here ↦ elim there [
    | inl same ↦ subst (λ (x : Logged). Has z x.log) same here
    | inr later ↦ absurd (has_of (λ u. q.pass.thread ≢ u) (threads_of qs) p.pass.thread apart.0 (thread_in p qs later)
        (sym (has_of (λ c. c.thread ≡ q.pass.thread) q.log z mine.0 here) ∙ of))
  ]
  | inr behind ↦ elim there [
    | inl same ↦ absurd (not_theirs q qs z apart.0 mine.1 behind (of ∙ ap (λ (x : Logged). x.pass.thread) (sym same)))
    | inr later ↦ in_own p qs z later apart.1 mine.1 behind of
  ]
]
  where
    not_theirs : (q : Logged) (qs : List Logged) (z : Call) → AllByRecursion (λ u. q.pass.thread ≢ u) (threads_of qs)
        → AllByRecursion (λ r. AllByRecursion (λ c. c.thread ≡ r.pass.thread) r.log) qs → Has z (all_logs qs)
        → z.thread ≢ q.pass.thread
    not_theirs q [] z apart mine is = absurd is
    not_theirs q (r ∷ rs) z apart mine is = elim (has_append r.log (all_logs rs) z is) [
      | inl here ↦ λ of. apart.0 (sym of ∙ has_of (λ c. c.thread ≡ r.pass.thread) r.log z mine.0 here)
      | inr later ↦ not_theirs q rs z apart.1 mine.1 later
    ]

-- the members of a list in another order
has_shuffled : (xs ys : List Call) → IsPermutation xs ys → (z : Call) → Has z ys → Has z xs
has_shuffled xs ys shuffled z is = has_of (λ x. Has x xs) ys z
    (each_of xs ys (All-permutation (λ x. Has x xs) xs ys shuffled (all_of xs xs (each_has xs)))) is
  where
    all_of : (xs ys : List Call) → AllByRecursion (λ z. Has z xs) ys → All (λ z. Has z xs) ys
    all_of xs [] each k d less = absurd (omega arith)
    all_of xs (y ∷ ys) each zero d less = each.0
    all_of xs (y ∷ ys) each (suc k) d less = all_of xs ys each.1 k d (omega arith)

    each_of : (xs ys : List Call) → All (λ z. Has z xs) ys → AllByRecursion (λ z. Has z xs) ys
    each_of xs [] all = tt
    each_of xs (y ∷ ys) all = (all 0 y (omega arith), each_of xs ys (λ k d less. all (suc k) d (omega arith)))

-- The calls of a thread in the history are its log
pub log_of_thread : (ps : List Logged) (h : List Call) (p : Logged) → Has p ps → EachPair (λ t u. t ≢ u) (threads_of ps)
    → AllByRecursion (λ q. AllByRecursion (λ c. c.thread ≡ q.pass.thread) q.log) ps
    → IsPermutation (all_logs ps) h → EachPair (λ c d. c.first < d.first) h → EachPair (λ c d. c.first < d.first) p.log
    → calls_by p.pass.thread h ≡ p.log
log_of_thread ps h p there apart mine shuffled rising log_rising =
    let t = p.pass.thread in
    let own : AllByRecursion (λ c. c.thread ≡ t) p.log =
    has_of (λ q. AllByRecursion (λ c. c.thread ≡ q.pass.thread) q.log) ps p mine there in
    rising_one (calls_by t h) p.log (by_pairs t (λ c d. c.first < d.first) h rising) log_rising
    (λ z is. let k =
    by_has t h z is in in_own p ps z there apart mine (has_shuffled (all_logs ps) h shuffled z k.0) k.1)
    (λ z is. has_by t h z (has_shuffled h (all_logs ps) (IsPermutation-sym (all_logs ps) h shuffled) z
    (in_all p ps z there is))
    (has_of (λ c. c.thread ≡ t) p.log z own is))
