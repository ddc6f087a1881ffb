-- When single items are there.
use Rattle.std.proofs.Common.{ℕ, ◌≡◌, ◌+◌, ◌<◌, ◌≤◌, ◌↔◌, List, [], ◌∷◌, ◌++◌, length, get_or, sym, ◌∙◌, ap, subst, inl}
use Rattle.std.proofs.Common.{inr, arith, length-append}
use Rattle.std.proofs.lemmas.Bool.{cases_lt}
use Rattle.std.proofs.lemmas.List.{get_or_append_left}
use Rattle.std.proofs.Math.Seq.{get_or-append_seam}
use Rattle.kfifo_verdict.proofs.Types.{Call, Presence}
use Rattle.kfifo_model.specs.declared.effects.Effect.TheVariants.{Adds}
use Rattle.kfifo_model.specs.Histories.{call, Precedes}
use Rattle.kfifo_model.specs.Validity.{IsHistory}
use Rattle.kfifo_verdict.specs.Evidence.{Puts, Gets, IsSingle, IsCertainlyThere, IsOlder}
use Rattle.kfifo_verdict.specs.Finding.{first_of, IsStart, IsKnown, IsPresence, ArePresences, no_presence}
use Rattle.kfifo_verdict.proofs.Moments.{sooner, ends_later}
use Rattle.kfifo_verdict.proofs.Telling.{got_inside}

pub same_put : (h : List Call) (x y p : ℕ) → Puts h x p → Puts h y p → x ≡ y
same_put h x y p e f = let q : Adds x ≡ Adds y = sym e ∙ f in cc

-- what is said of the item of a put, of x
of_item : (h : List Call) (x y p : ℕ) (P : ℕ → Type 0) → IsSingle h x p → IsSingle h y p → P y → P x
of_item h x y p P s t q = subst P (same_put h y x p t.puts s.puts) q

known_there : (h : List Call) (x p : ℕ) (s : Presence) → IsKnown h x p s → (c moment : ℕ) → s.start ≤ c → c < s.gone
    → c < length h
    → first_of h c ≤ moment → (s.gone < length h → moment < first_of h s.gone) → IsCertainlyThere h p moment
known_there h x p s k c moment from before inside le below =
    record {
      item = x;
      single = k.single;
      put = ends_later (call h p).end (first_of h c) moment le ((k.start.starts c inside).1 from);
      kept = λ g is. elim k.gone [
        | inl none ↦ absurd (none.1 g is)
        | inr got ↦ (
            let lt = below (got_inside h x s.gone got) in
            let same = k.single.once s.gone g got is in
            let P : ℕ → Type 0 = λ w. moment < first_of h w in
            subst P same lt
            )
      ];
    }

known_kept : (h : List Call) (x p : ℕ) (s : Presence) → IsKnown h x p s → (moment : ℕ) → IsCertainlyThere h p moment
    → s.gone < length h
    → moment < first_of h s.gone
known_kept h x p s k moment t inside =
    let P : ℕ → Type 0 = λ w. (g : ℕ) → Gets h w g → moment < first_of h g in
    elim k.gone [
      | inl none ↦ (let e = none.0 in absurd (omega (arith, e, inside)))
      | inr got ↦ of_item h x t.item p P k.single t.single t.kept s.gone got
    ]

known_from : (h : List Call) (x p : ℕ) (s : Presence) → IsHistory h → IsKnown h x p s → (c : ℕ) → c < length h
    → IsCertainlyThere h p (first_of h c) → (s.start ≤ c) × (c < s.gone)
known_from h x p s v k c inside t = (
  (k.start.starts c inside).0 t.put,
  elim (cases_lt s.gone (length h)) [
    | inl lt ↦ sooner h c s.gone v inside (known_kept h x p s k (first_of h c) t lt)
    | inr le ↦ omega (arith, le, inside)
  ],
)

known_older : (h : List Call) (x p : ℕ) (s : Presence) → IsKnown h x p s → (g put after : ℕ) → put < length h
    → IsStart h (call h g).end after → IsOlder h g put p ↔ ((s.start ≤ put) × (after ≤ s.gone))
known_older h x p s k g put after inside a = (
  λ o.
      let P : ℕ → Type 0 = λ w. (d : ℕ) → Gets h w d → Precedes h g d in
      let kept = of_item h x o.item p P k.single o.single o.kept in (
        (k.start.starts put inside).0 o.before,
        elim k.gone [
          | inl none ↦ (let e = none.0 in let b = a.bound in omega (arith, e, b))
          | inr got ↦ (a.starts s.gone (got_inside h x s.gone got)).0 (kept s.gone got)
        ],
      ),
  λ r. record {
    item = x;
    single = k.single;
    before = (k.start.starts put inside).1 r.0;
    kept = λ d is. elim k.gone [
      | inl none ↦ absurd (none.1 d is)
      | inr got ↦ (
          let same = k.single.once s.gone d got is in
          let P : ℕ → Type 0 = λ w. Precedes h g w in
          subst P same ((a.starts s.gone (got_inside h x s.gone got)).1 r.1)
          )
    ];
  },
)

pub known_presence : (h : List Call) (x p : ℕ) (s : Presence) → IsHistory h → IsKnown h x p s → IsPresence h p s
known_presence h x p s v k = record {
  bound = (
    k.start.bound,
    elim k.gone [
      | inl none ↦ (let e = none.0 in omega (arith, e))
      | inr got ↦ (let lt = got_inside h x s.gone got in omega (arith, lt))
    ],
  );
  there = known_there h x p s k;
  until = known_kept h x p s k;
  from = known_from h x p s v k;
  older = known_older h x p s k;
  known = λ y t. let P : ℕ → Type 0 = λ w. IsKnown h w p s in subst P (same_put h x y p k.single.puts t.puts) k;
  real = λ some. (x, k.single.puts);
}

pub never_presence : (h : List Call) (p : ℕ) (s : Presence) → s.start ≡ length h → s.gone ≡ 0
    → ((x : ℕ) → IsSingle h x p → ⊥)
    → IsPresence h p s
never_presence h p s start gone none = record {
  bound = (omega (arith, start), omega (arith, gone));
  there = λ c moment from before inside le below. absurd (omega (arith, before, gone));
  until = λ moment t inside. absurd (none t.item t.single);
  from = λ c inside t. absurd (none t.item t.single);
  older = λ g put after inside a. (
    λ o. absurd (none o.item o.single),
    λ r. let f =
        r.0 in absurd (omega (arith, f, start, inside)),
  );
  known = λ x t. absurd (none x t);
  real = λ some. absurd (omega (arith, some, gone));
}

-- ---- the presences so far

pub presences_more : (h : List Call) (n : ℕ) (ps more : List Presence) (s : Presence) → ArePresences h n ps
    → IsPresence h n s
    → more ≡ ps ++ s ∷ [] → ArePresences h (n + 1) more
presences_more h n ps more s was is e =
    let size = was.0 in
    let length_more = ap length e in (
      omega (arith, length_more, length-append ps (s ∷ []), size),
      λ p lt. elim (cases_lt p n) [
        | inl below ↦ (
            let inside : p < length ps = omega (arith, below, size) in
            let P : Presence → Type 0 = λ w. IsPresence h p w in
            subst P (sym (ap (λ (l : List Presence). get_or l p no_presence) e ∙ get_or_append_left ps (s ∷ [])
            no_presence p inside))
            (was.1 p below)
            )
        | inr le ↦ (
            let same : p ≡ length ps = omega (arith, le, lt, size) in
            let here : p ≡ n = omega (arith, le, lt) in
            let Q : ℕ → Type 0 = λ w. IsPresence h w s in
            let P : Presence → Type 0 = λ w. IsPresence h p w in
            subst P (sym (ap (λ (l : List Presence). get_or l p no_presence) e
            ∙ (ap (λ w. get_or (ps ++ s ∷ []) w no_presence) same ∙ get_or-append_seam ps s [] no_presence)))
            (subst Q (sym here) is)
            )
      ],
    )
