-- An order by a relation that fits a first-in-first-out queue is legal for k = 1.
use Rattle.std.proofs.Common.{ℕ, ◌≡◌, ◌≢◌, ◌<◌, ◌⊎◌, List, [], ◌∷◌, ◌++◌, length, map, refl, sym, ◌∙◌, ap, subst, inl}
use Rattle.std.proofs.Common.{inr, arith, Option, Some, None}
use Rattle.std.proofs.lemmas.Bool.{cases_eq}
use Rattle.std.proofs.lemmas.List.{map_push}
use Rattle.kfifo_verdict.proofs.Types.{Call, Effect, End}
use Rattle.kfifo_model.specs.declared.calls.Op.{Op}
use Rattle.std.specs.List.{AllByRecursion}
use Rattle.kfifo_model.specs.Lists.{IsIn, EachPair}
use Rattle.kfifo_model.specs.declared.effects.Effect.TheVariants.{Adds, Takes, FindsNone, Refused, Wrong}
use Rattle.kfifo_model.specs.Relaxed.{Leaves, IsRun}
use Rattle.kfifo_model.specs.Histories.{call, does, HasEnd, CanStand, IsFinished, Precedes, IsLegal}
use Rattle.kfifo_model.proofs.Lists.{in_append, in_left, in_right, each_at, each_from, pairs_push, pairs_weaker}
use Rattle.kfifo_verdict.specs.Evidence.{Puts, Gets}
use Rattle.kfifo_verdict.proofs.Refuting.{put_inside, ended_inside}
use Rattle.kfifo_verdict.proofs.Telling.{got_inside}
use Rattle.kfifo_verdict.proofs.ItemPresence.{same_put}

-- What is asked of "stands before": items go out in the order in which they go in, and none is there at an Empty.
pub record Fits (h : List Call) (R : ℕ → ℕ → Type 0) : Type 0 where
  pub apart : (c d : ℕ) → R c d → R d c → ⊥
  pub sound : (c : ℕ) → c < length h → does h c ≢ Wrong
  pub put : (x g : ℕ) → Gets h x g → (p : ℕ) × Puts h x p
  pub once : (x g f : ℕ) → Gets h x g → Gets h x f → g ≡ f
  pub own : (x p g : ℕ) → Puts h x p → Gets h x g → R p g
  pub follow : (x y p q g : ℕ) → Puts h x p → Puts h y q → Gets h y g → R p q → (f : ℕ) × Gets h x f × R f g
  pub empty : (x p e : ℕ) → Puts h x p → does h e ≡ FindsNone → R p e → (f : ℕ) × Gets h x f × R f e
  pub before : (c d : ℕ) → c < length h → d < length h → Precedes h c d → R c d

-- the item that a call adds
abbrev item_of : Effect → ℕ
item_of (Adds x) = x
item_of _ = 0

abbrev item : List Call → ℕ → ℕ
item h c = item_of (does h c)

-- The queue, each item by its put, before the calls that are left.
record Holds (h : List Call) (R : ℕ → ℕ → Type 0) (rest queue : List ℕ) : Type 0 where
  pub sorted : EachPair R rest
  pub inside : AllByRecursion (λ c. c < length h) rest
  pub total : (d : ℕ) → d < length h → IsIn d rest ⊎ AllByRecursion (R d) rest
  pub line : EachPair R queue
  pub held : (p : ℕ) → IsIn p queue → (x : ℕ) × Puts h x p × AllByRecursion (R p) rest
      × ((g : ℕ) → Gets h x g → IsIn g rest)
  pub kept : (x p g : ℕ) → Puts h x p → Gets h x g → AllByRecursion (R p) rest → IsIn g rest → IsIn p queue

not_both : (h : List Call) (x y c : ℕ) → Puts h x c → Gets h y c → ⊥
not_both h x y c p g = let e : Adds x ≡ Takes y = sym p ∙ g in cc

get_at : (h : List Call) (x g f : ℕ) → g ≡ f → Gets h x g → Gets h x f
get_at h x g f e is = let P : ℕ → Type 0 = λ w. Gets h x w in subst P e is

put_at : (h : List Call) (x p q : ℕ) → p ≡ q → Puts h x p → Puts h x q
put_at h x p q e is = let P : ℕ → Type 0 = λ w. Puts h x w in subst P e is

not_self : (h : List Call) (R : ℕ → ℕ → Type 0) (c d : ℕ) → Fits h R → c ≡ d → R c d → ⊥
not_self h R c d f e r =
    let P : ℕ → Type 0 = λ w. R c w in
    let s = subst P (sym e) r in
    f.apart c c s s

-- a call that stands before all that is left but the next, and is not the next, stands before that too
done_before : (h : List Call) (R : ℕ → ℕ → Type 0) (c : ℕ) (rest queue : List ℕ) → Fits h R → Holds h R (c ∷ rest) queue
    → (p : ℕ)
    → p < length h → p ≢ c → AllByRecursion (R p) rest → AllByRecursion (R p) (c ∷ rest)
done_before h R c rest queue f t p inside ne past =
    elim (t.total p inside) [
      | inl i ↦ elim i [
        | inl e ↦ absurd (ne e)
        | inr j ↦ absurd (not_self h R p p f refl (each_at (R p) p rest past j))
      ]
      | inr e ↦ e
    ]

total_next : (h : List Call) (R : ℕ → ℕ → Type 0) (c : ℕ) (rest queue : List ℕ) → Holds h R (c ∷ rest) queue → (d : ℕ)
    → d < length h
    → IsIn d rest ⊎ AllByRecursion (R d) rest
total_next h R c rest queue t d inside =
    elim (t.total d inside) [
      | inl i ↦ elim i [
        | inl e ↦ inr (let P : ℕ → Type 0 = λ w. AllByRecursion (R w) rest in subst P (sym e) t.sorted.0)
        | inr j ↦ inl j
      ]
      | inr e ↦ inr e.1
    ]

-- a call that neither puts nor gets
holds_same : (h : List Call) (R : ℕ → ℕ → Type 0) (c : ℕ) (rest queue : List ℕ) → Fits h R → ((x : ℕ) → Puts h x c → ⊥)
    → ((x : ℕ) → Gets h x c → ⊥) → Holds h R (c ∷ rest) queue → Holds h R rest queue
holds_same h R c rest queue f no_put no_get t = record {
  sorted = t.sorted.1;
  inside = t.inside.1;
  total = total_next h R c rest queue t;
  line = t.line;
  held = λ p i. let o = t.held p i in (
    o.0,
    o.1,
    o.2.1,
    λ g is. elim (o.3 g is) [ inl e ↦ absurd (no_get o.0 (get_at h o.0 g c e is)) | inr j ↦ j ],
  );
  kept = λ x p g a b past i. t.kept x p g a b
      (done_before h R c rest queue f t p (put_inside h x p a) (λ e. no_put x (put_at h x p c e a)) past) (inr i);
}

holds_added : (h : List Call) (R : ℕ → ℕ → Type 0) (c x : ℕ) (rest queue : List ℕ) → Fits h R → Puts h x c
    → Holds h R (c ∷ rest) queue
    → Holds h R rest (queue ++ c ∷ [])
holds_added h R c x rest queue f puts t =
    let waits = λ (g : ℕ) (is : Gets h x g). elim (t.total g (got_inside h x g is)) as (λ _. IsIn g rest) [
      | inl i ↦ elim i [ inl e ↦ absurd (not_both h x x c puts (get_at h x g c e is)) | inr j ↦ j ]
      | inr each ↦ absurd (f.apart c g (f.own x c g puts is) each.0)
    ] in
    let P : ℕ → Type 0 = λ w. (y : ℕ) × Puts h y w × AllByRecursion (R w) rest × ((g : ℕ) → Gets h y g → IsIn g rest) in
    record {
      sorted = t.sorted.1;
      inside = t.inside.1;
      total = total_next h R c rest queue t;
      line = pairs_push R queue c t.line (λ q i. (t.held q i).2.0);
      held = λ p i. elim (in_append p queue (c ∷ []) i) [
        | inl j ↦ (let o = t.held p j in (
          o.0,
          o.1,
          o.2.1,
          λ g is. elim (o.3 g is) [ inl e ↦ absurd (not_both h x o.0 c puts (get_at h o.0 g c e is)) | inr k ↦ k ],
        ))
        | inr j ↦ elim j [ inl e ↦ subst P (sym e) (x, puts, t.sorted.0, waits) | inr bad ↦ absurd bad ]
      ];
      kept = λ y p g a b past i. elim (cases_eq p c) [
        | inl e ↦ in_right p queue (c ∷ []) (inl e)
        | inr ne ↦ in_left p queue (c ∷ [])
            (t.kept y p g a b (done_before h R c rest queue f t p (put_inside h y p a) ne past) (inr i))
      ];
    }

holds_taken : (h : List Call) (R : ℕ → ℕ → Type 0) (c x q : ℕ) (rest queue : List ℕ) → Fits h R → Gets h x c
    → Puts h x q
    → Holds h R (c ∷ rest) (q ∷ queue) → Holds h R rest queue
holds_taken h R c x q rest queue f gets puts t = record {
  sorted = t.sorted.1;
  inside = t.inside.1;
  total = total_next h R c rest (q ∷ queue) t;
  line = t.line.1;
  held = λ p i. let o = t.held p (inr i) in (
    o.0,
    o.1,
    o.2.1,
    λ g is. elim (o.3 g is) [
      | inl e ↦ (
          let r = f.follow x o.0 q p c puts o.1 (get_at h o.0 g c e is) (each_at (R q) p queue t.line.0 i) in
          absurd (not_self h R r.0 c f (f.once x r.0 c r.1 gets) r.2)
          )
      | inr j ↦ j
    ],
  );
  kept = λ y p g a b past i. elim (t.kept y p g a b
      (done_before h R c rest (q ∷ queue) f t p (put_inside h y p a) (λ e. not_both h y x c (put_at h y p c e a) gets)
      past) (inr i)) [
        | inl e ↦ (
            let same = same_put h y x q (put_at h y p q e a) puts in
            let P : ℕ → Type 0 = λ w. Gets h w g in
            absurd (not_self h R c g f (f.once x c g gets (subst P same b)) (each_at (R c) g rest t.sorted.0 i))
            )
        | inr j ↦ j
      ];
}

-- the put of an item that a call gets is done
source_past : (h : List Call) (R : ℕ → ℕ → Type 0) (c x p : ℕ) (rest queue : List ℕ) → Fits h R → Puts h x p
    → Gets h x c
    → Holds h R (c ∷ rest) queue → AllByRecursion (R p) (c ∷ rest)
source_past h R c x p rest queue f puts gets t =
    elim (t.total p (put_inside h x p puts)) [
      | inl i ↦ elim i [
        | inl e ↦ absurd (not_both h x x c (put_at h x p c e puts) gets)
        | inr j ↦ absurd (f.apart c p (each_at (R c) p rest t.sorted.0 j) (f.own x p c puts gets))
      ]
      | inr e ↦ e
    ]

-- the put of the item that a call gets stands first in the queue
record IsHead (h : List Call) (x : ℕ) (queue : List ℕ) : Type 0 where
  pub put : ℕ
  pub others : List ℕ
  pub is : queue ≡ put ∷ others
  pub puts : Puts h x put

head_of : (h : List Call) (R : ℕ → ℕ → Type 0) (c x : ℕ) (rest queue : List ℕ) → Fits h R → Gets h x c
    → Holds h R (c ∷ rest) queue
    → IsHead h x queue
head_of h R c x rest [] f gets t =
    let s = f.put x c gets in
    absurd (t.kept x s.0 c s.1 gets (source_past h R c x s.0 rest [] f s.1 gets t) (inl refl))
head_of h R c x rest (q ∷ queue) f gets t =
    let s = f.put x c gets in
    elim (t.kept x s.0 c s.1 gets (source_past h R c x s.0 rest (q ∷ queue) f s.1 gets t) (inl refl)) [
      | inl e ↦ record { put = q; others = queue; is = refl; puts = put_at h x s.0 q e s.1 }
      | inr j ↦ (
          let o = t.held q (inl refl) in
          let r = f.follow o.0 x q s.0 c o.1 s.1 gets (each_at (R q) s.0 queue t.line.0 j) in
          absurd (elim (o.3 r.0 r.1) [
            | inl e ↦ not_self h R r.0 c f e r.2
            | inr k ↦ f.apart c r.0 (each_at (R c) r.0 rest t.sorted.0 k) r.2
          ])
          )
    ]

-- nothing is there at an Empty
none_held : (h : List Call) (R : ℕ → ℕ → Type 0) (c : ℕ) (rest queue : List ℕ) → Fits h R → does h c ≡ FindsNone
    → Holds h R (c ∷ rest) queue → queue ≡ []
none_held h R c rest [] f e t = refl
none_held h R c rest (q ∷ queue) f e t =
    let o = t.held q (inl refl) in
    let r = f.empty o.0 q c o.1 e o.2.0 in
    absurd (elim (o.3 r.0 r.1) [
      | inl same ↦ not_self h R r.0 c f same r.2
      | inr k ↦ f.apart c r.0 (each_at (R c) r.0 rest t.sorted.0 k) r.2
    ])

abbrev Goes : List ℕ → Effect → List Effect → Type 0
Goes items e rest = (after : List ℕ) × Leaves 1 items e after × IsRun 1 after rest

step_taken : (h : List Call) (R : ℕ → ℕ → Type 0) (c x : ℕ) (rest queue : List ℕ) (effects : List Effect) → Fits h R
    → Gets h x c
    → Holds h R (c ∷ rest) queue → IsHead h x queue
    → ((next : List ℕ) → Holds h R rest next → IsRun 1 (map (item h) next) effects)
    → Goes (map (item h) queue) (Takes x) effects
step_taken h R c x rest queue effects f gets t a go =
    let H : List ℕ → Type 0 = λ w. Holds h R (c ∷ rest) w in
    let G : List ℕ → Type 0 = λ w. Goes (map (item h) w) (Takes x) effects in
    subst G (sym a.is) (
      map (item h) a.others,
      (0, omega arith, ap (λ e. Some (item_of e)) a.puts, refl),
      go a.others (holds_taken h R c x a.put rest a.others f gets a.puts (subst H a.is t)),
    )

step : (h : List Call) (R : ℕ → ℕ → Type 0) (c : ℕ) (rest queue : List ℕ) (effects : List Effect) → Fits h R
    → Holds h R (c ∷ rest) queue
    → ((next : List ℕ) → Holds h R rest next → IsRun 1 (map (item h) next) effects) → (e : Effect) → does h c ≡ e
    → Goes (map (item h) queue) e effects
step h R c rest queue effects f t go (Adds x) q = (
  map (item h) (queue ++ c ∷ []),
  map_push (item h) queue c ∙ ap (λ e. map (item h) queue ++ item_of e ∷ []) q,
  go (queue ++ c ∷ []) (holds_added h R c x rest queue f q t),
)
step h R c rest queue effects f t go (Takes x) q =
    step_taken h R c x rest queue effects f q t (head_of h R c x rest queue f q t) go
step h R c rest queue effects f t go FindsNone q =
    let none = none_held h R c rest queue f q t in (
      map (item h) queue,
      (ap (map (item h)) none, ap (map (item h)) none),
      go queue (holds_same h R c rest queue f (λ x a. let e : Adds x ≡ FindsNone = sym a ∙ q in cc)
          (λ x a. let e : Takes x ≡ FindsNone = sym a ∙ q in cc) t),
    )
step h R c rest queue effects f t go Refused q = (
  map (item h) queue,
  refl,
  go queue (holds_same h R c rest queue f (λ x a. let e : Adds x ≡ Refused = sym a ∙ q in cc)
      (λ x a. let e : Takes x ≡ Refused = sym a ∙ q in cc) t),
)
step h R c rest queue effects f t go Wrong q = absurd (f.sound c t.inside.0 q)

run_from : (h : List Call) (R : ℕ → ℕ → Type 0) (rest queue : List ℕ) → Fits h R → Holds h R rest queue
    → IsRun 1 (map (item h) queue) (map (does h) rest)
run_from h R [] queue f t = tt
run_from h R (c ∷ rest) queue f t = step h R c rest queue (map (does h) rest) f t (λ next u. run_from h R rest next f u)
    (does h c) refl

can_stand : (o : Option End) (op : Op) → HasEnd o → CanStand o op
can_stand (Some end) op e = tt
can_stand None op e = absurd e

-- all calls, each before those before which it stands
pub legal_by : (h : List Call) (R : ℕ → ℕ → Type 0) (order : List ℕ) → Fits h R
    → ((c : ℕ) → c < length h → IsFinished h c)
    → EachPair R order → ((c : ℕ) → IsIn c order → c < length h) → ((c : ℕ) → c < length h → IsIn c order)
    → IsLegal 1 h order
legal_by h R order f ended sorted inside all = record {
  is_order = record {
    distinct = pairs_weaker R (λ c d. c ≢ d) order (λ c d i j r e. not_self h R c d f e r) sorted;
    calls = each_from (λ c. CanStand (call h c).end (call h c).op) order
        (λ c i. can_stand (call h c).end (call h c).op (ended c (inside c i)));
    complete = λ c e. all c (ended_inside h c e);
    before = pairs_weaker R (λ c d. Precedes h d c → ⊥) order
        (λ c d i j r p. f.apart c d r (f.before d c (inside d j) (inside c i) p))
        sorted;
  };
  is_run = run_from h R order [] f (record {
    sorted = sorted;
    inside = each_from (λ c. c < length h) order inside;
    total = λ d lt. inl (all d lt);
    line = tt;
    held = λ p i. absurd i;
    kept = λ x p g a b past i.
        absurd (not_self h R p p f refl (each_at (R p) p order past (all p (put_inside h x p a))));
  });
}
