-- The calls so far, as a reader of a record keeps them.
use Rattle.std.proofs.Common.{ℕ, ◌≡◌, ◌≢◌, ◌+◌, ◌<◌, ◌≤◌, ◌↔◌, List, [], ◌∷◌, ◌++◌, length, get_or, set, sym, ◌∙◌, ap}
use Rattle.std.proofs.Common.{subst, inl, inr, arith, refl, Option, Some, None, get_or-set_other, get_or-set_same}
use Rattle.std.proofs.Common.{length-append}
use Rattle.std.proofs.lemmas.Bool.{cases_lt, cases_eq}
use Rattle.std.proofs.lemmas.List.{get_or_default, get_or_append_left}
use Rattle.std.proofs.Math.ListN.{length-set}
use Rattle.std.proofs.Math.Seq.{get_or-append_seam}
use Rattle.kfifo_model.specs.declared.history.RecordFault.TheVariants.{EndsEarly, OutOfOrder, Overlap}
use Rattle.kfifo_model.proofs.Types.{Call, End}
use Rattle.kfifo_model.specs.declared.so_far.CallsSoFar.{CallsSoFar}
use Rattle.kfifo_model.specs.declared.so_far.ThreadState.{ThreadState}
use Rattle.kfifo_model.specs.declared.so_far.ThreadState.TheVariants.{Fresh}
use Rattle.kfifo_model.specs.Histories.{call, no_call, EndsBelow}
use Rattle.kfifo_model.specs.Validity.{IsHistory, IsGoodBelow, IsFault, IsGood, IsInRange, Answers, EndsFrom, Rises}
use Rattle.kfifo_model.specs.Validity.{IsApart}
use Rattle.kfifo_model.specs.SoFar.{LetsBegin, RisesFrom, state_after}

-- the calls before n, as a next call has to heed them
pub record AreSoFar (h : List Call) (n : ℕ) (p : CallsSoFar) : Type 0 where
  pub sized : length p.threads ≡ 64
  pub latest : (s : ℕ) → RisesFrom p.latest s ↔ ((j : ℕ) → j + 1 ≡ n → (call h j).first < s)
  pub threads : (t s : ℕ) (d : ThreadState) → t < 64
      → LetsBegin (get_or p.threads t d) s ↔ ((j : ℕ) → j < n → (call h j).thread ≡ t → EndsBelow (call h j).end s)

pub none_so_far : (h : List Call) (p : CallsSoFar) → length p.threads ≡ 64 → p.latest ≡ None
    → ((t : ℕ) (d : ThreadState) → t < 64 → get_or p.threads t d ≡ Fresh) → AreSoFar h 0 p
none_so_far h p sized none fresh = record {
  sized = sized;
  latest = λ s. (
    λ r j e. absurd (omega arith),
    λ f. let P : Option ℕ → Type 0 =
        λ o. RisesFrom o s in subst P (sym none) tt,
  );
  threads = λ t s d lt. (
    λ r j l. absurd (omega arith),
    λ f. let P : ThreadState
        → Type 0 = λ w. LetsBegin w s in subst P (sym (fresh t d lt)) tt,
  );
}

lets_after : (o : Option End) (s : ℕ) → LetsBegin (state_after o) s ↔ EndsBelow o s
lets_after (Some end) s = (λ l. l, λ l. l)
lets_after None s = (λ l. l, λ l. l)

ends_later : (o : Option End) (a b : ℕ) → a ≤ b → EndsBelow o a → EndsBelow o b
ends_later (Some end) a b le l = omega arith
ends_later None a b le l = l

ends_through : (o c : Option End) (first s : ℕ) → EndsBelow o first → EndsFrom first c → EndsBelow c s → EndsBelow o s
ends_through o (Some end) first s b e l = ends_later o first s (omega arith) b
ends_through o None first s b e l = absurd l

last_is : (j n : ℕ) → j < n + 1 → (j < n → ⊥) → j ≡ n
last_is j n lt f = elim (cases_lt j n) [ inl below ↦ absurd (f below) | inr le ↦ omega arith ]

pub more_so_far : (h : List Call) (n : ℕ) (p q : CallsSoFar) → AreSoFar h n p → IsGood h n
    → q.latest ≡ Some (call h n).first
    → q.threads ≡ set p.threads (call h n).thread (state_after (call h n).end) → AreSoFar h (n + 1) q
more_so_far h n p q was good latest threads =
    let c = call h n in
    let small : c.thread < 64 = good.ranged.0 in
    record {
      sized = ap length threads ∙ length-set p.threads c.thread (state_after c.end) ∙ was.sized;
      latest = λ s.
          let P : Option ℕ → Type 0 = λ o. RisesFrom o s in (
            λ r j e. (let same : j ≡ n = omega arith in let R : ℕ
                → Type 0 = λ w. (call h w).first < s in subst R (sym same) (subst P latest r)),
            λ f. subst P (sym latest) (f n (omega arith)),
          );
      threads = λ t s d lt.
          let P : ThreadState → Type 0 = λ w. LetsBegin w s in
          let at : get_or q.threads t d ≡ get_or (set p.threads c.thread (state_after c.end)) t d =
          ap (λ (l : List ThreadState). get_or l t d) threads in
          elim (cases_eq t c.thread) [
            | inl e ↦ (
                let here : c.thread < length p.threads = (let z = was.sized in omega arith) in
                let now : get_or q.threads t d ≡ state_after c.end =
                at ∙ (ap (λ w. get_or (set p.threads c.thread (state_after c.end)) w d) e
                ∙ rw get_or-set_same refl) in (
                  λ l j lj th. (
                      let ends = (lets_after c.end s).0 (subst P now l) in
                      elim (cases_lt j n) [
                        | inl below ↦ ends_through (call h j).end c.end c.first s (good.apart j below (th ∙ e))
                            good.ends ends
                        | inr le ↦ (let same : j ≡ n = omega arith in let R : ℕ
                            → Type 0 = λ w. EndsBelow (call h w).end s in subst R (sym same) ends)
                      ]
                      ),
                  λ f. subst P (sym now) ((lets_after c.end s).1 (f n (omega arith) (sym e))),
                )
                )
            | inr ne ↦ (
                let now : get_or q.threads t d ≡ get_or p.threads t d = at
                ∙ (let m : t ≢ c.thread = ne in rw get_or-set_other refl) in (
                  λ l j lj th. elim (cases_lt j n) [
                    | inl below ↦ (was.threads t s d lt).0 (subst P now l) j below th
                    | inr le ↦ (let same : j ≡ n =
                        omega arith in absurd (ne (sym th ∙ ap (λ w. (call h w).thread) same)))
                  ],
                  λ f. subst P (sym now) ((was.threads t s d lt).1 (λ j lj th. f j (omega arith) th)),
                )
                )
          ];
    }

-- what a call has to keep to, as the code tests it
pub record Tests (p : CallsSoFar) (c : Call) : Type 0 where
  pub ranged : IsInRange c
  pub answers : Answers c.op c.end
  pub ends : EndsFrom c.first c.end
  pub rises : RisesFrom p.latest c.first
  pub lets : (d : ThreadState) → LetsBegin (get_or p.threads c.thread d) c.first

pub good_call : (h : List Call) (n : ℕ) (p : CallsSoFar) → AreSoFar h n p → Tests p (call h n) → IsGood h n
good_call h n p was t =
    let small : (call h n).thread < 64 = t.ranged.0 in
    record {
      ranged = t.ranged;
      answers = t.answers;
      ends = t.ends;
      rises = (was.latest (call h n).first).0 t.rises;
      apart = (was.threads (call h n).thread (call h n).first Fresh small).0 (t.lets Fresh);
    }

pub good_at : (h : List Call) (n : ℕ) (p : CallsSoFar) (d : Call) → n < length h → AreSoFar h n p
    → Tests p (get_or h n d) → IsGood h n
good_at h n p d lt was t = let P : Call → Type 0 = λ w. Tests p w in
    good_call h n p was (subst P (get_or_default h n d no_call lt) t)

pub not_apart : (h : List Call) (n : ℕ) (p : CallsSoFar) (d : Call) → n < length h → AreSoFar h n p
    → (get_or h n d).thread < 64
    → ((e : ThreadState) → LetsBegin (get_or p.threads (get_or h n d).thread e) (get_or h n d).first → ⊥)
    → IsApart h n → ⊥
not_apart h n p d lt was small f apart =
    let e = get_or_default h n d no_call lt in
    let P : Call → Type 0 = λ w. (w.thread < 64)
    × ((e : ThreadState) → LetsBegin (get_or p.threads w.thread e) w.first → ⊥) in
    let q = subst P e (small, f) in
    q.1 Fresh ((was.threads (call h n).thread (call h n).first Fresh q.0).1 apart)

-- one more good call
pub more_calls : (h : List Call) (n : ℕ) (p q : CallsSoFar) (d : Call) → n < length h → AreSoFar h n p → IsGood h n
    → q.latest ≡ Some (get_or h n d).first
    → q.threads ≡ set p.threads (get_or h n d).thread (state_after (get_or h n d).end)
    → AreSoFar h (n + 1) q
more_calls h n p q d lt was good a b =
    let P : Call → Type 0 = λ w. (q.latest ≡ Some w.first) × (q.threads ≡ set p.threads w.thread (state_after w.end)) in
    let r = subst P (get_or_default h n d no_call lt) (a, b) in
    more_so_far h n p q was good r.0 r.1

pub good_more : (h : List Call) (n : ℕ) → ((j : ℕ) → j < n → IsGood h j) → IsGood h n → (j : ℕ) → j < n + 1 → IsGood h j
good_more h n f g j lt =
    elim (cases_lt j n) [
      | inl below ↦ f j below
      | inr le ↦ (let e : j ≡ n = omega arith in let P : ℕ → Type 0 = λ w. IsGood h w in subst P (sym e) g)
    ]

-- a call that the code read, as the history's
pub ranged_at : (h : List Call) (n : ℕ) (d : Call) → n < length h → IsInRange (get_or h n d) → IsInRange (call h n)
ranged_at h n d lt t = let P : Call → Type 0 = λ w. IsInRange w in subst P (get_or_default h n d no_call lt) t

pub answers_at : (h : List Call) (n : ℕ) (d : Call) → n < length h → Answers (get_or h n d).op (get_or h n d).end
    → Answers (call h n).op (call h n).end
answers_at h n d lt t = let P : Call → Type 0 = λ w. Answers w.op w.end in subst P (get_or_default h n d no_call lt) t

pub ends_at : (h : List Call) (n : ℕ) (d : Call) → n < length h → EndsFrom (get_or h n d).first (get_or h n d).end
    → EndsFrom (call h n).first (call h n).end
ends_at h n d lt t = let P : Call → Type 0 = λ w. EndsFrom w.first w.end in subst P (get_or_default h n d no_call lt) t

pub rises_at : (h : List Call) (n : ℕ) (p : CallsSoFar) (d : Call) → n < length h → AreSoFar h n p
    → RisesFrom p.latest (get_or h n d).first
    → Rises h n
rises_at h n p d lt was t =
    let P : Call → Type 0 = λ w. RisesFrom p.latest w.first in
    (was.latest (call h n).first).0 (subst P (get_or_default h n d no_call lt) t)

-- ---- a call after those of a history

pub before_last : (h : List Call) (c : Call) (j : ℕ) → j < length h → call (h ++ c ∷ []) j ≡ call h j
before_last h c j lt = get_or_append_left h (c ∷ []) no_call j lt

pub the_last : (h : List Call) (c : Call) (n : ℕ) → length h ≡ n → call (h ++ c ∷ []) n ≡ c
the_last h c n e = ap (call (h ++ c ∷ [])) (sym e) ∙ get_or-append_seam h c [] no_call

good_with : (h : List Call) (c : Call) (n : ℕ) → n < length h → IsGood h n → IsGood (h ++ c ∷ []) n
good_with h c n lt g =
    let e : (j : ℕ) → j < length h → call h j ≡ call (h ++ c ∷ []) j = λ j l. sym (before_last h c j l) in
    let R : Call → Type 0 = λ w. IsInRange w in
    let A : Call → Type 0 = λ w. Answers w.op w.end in
    let E : Call → Type 0 = λ w. EndsFrom w.first w.end in
    record {
      ranged = subst R (e n lt) g.ranged;
      answers = subst A (e n lt) g.answers;
      ends = subst E (e n lt) g.ends;
      rises = λ j s.
          let lj : j < length h = omega arith in
          let P : Call → Type 0 = λ w. w.first < (call h n).first in
          let Q : Call → Type 0 = λ w. (call (h ++ c ∷ []) j).first < w.first in
          subst Q (e n lt) (subst P (e j lj) (g.rises j s));
      apart = λ j l t.
          let lj : j < length h = omega arith in
          let P : Call → Type 0 = λ w. EndsBelow w.end (call h n).first in
          let Q : Call → Type 0 = λ w. EndsBelow (call (h ++ c ∷ []) j).end w.first in
          subst Q (e n lt)
          (subst P (e j lj) (g.apart j l (ap (λ w. w.thread) (e j lj) ∙ (t ∙ ap (λ w. w.thread) (sym (e n lt))))));
    }

so_far_with : (h : List Call) (c : Call) (n : ℕ) (p : CallsSoFar) → length h ≡ n → AreSoFar h n p
    → AreSoFar (h ++ c ∷ []) n p
so_far_with h c n p len was =
    let e : (j : ℕ) → j < n → call h j ≡ call (h ++ c ∷ []) j = λ j l. sym (before_last h c j (omega arith)) in
    record {
      sized = was.sized;
      latest = λ s. (
        λ r j q. (let lj : j < n = omega arith in let P : Call → Type 0 =
            λ w. w.first < s in subst P (e j lj) ((was.latest s).0 r j q)),
        λ f. (was.latest s).1 (λ j q. let lj : j < n = omega arith in let P : Call
            → Type 0 = λ w. w.first < s in subst P (sym (e j lj)) (f j q)),
      );
      threads = λ t s d lt. (
        λ l j lj th. (let P : Call → Type 0 = λ w. EndsBelow w.end s in
            subst P (e j lj) ((was.threads t s d lt).0 l j lj (ap (λ w. w.thread) (e j lj) ∙ th))),
        λ f. (was.threads t s d lt).1 (λ j lj th. let P : Call
            → Type 0 = λ w. EndsBelow w.end s in
            subst P (sym (e j lj)) (f j lj (ap (λ w. w.thread) (sym (e j lj)) ∙ th))),
      );
    }

good_below : (h : List Call) (c : Call) (n : ℕ) → length h ≡ n → IsHistory h → IsGoodBelow (h ++ c ∷ []) n
good_below h c n len v =
    (simp length-append (omega arith), λ j lt. let lj : j < length h = omega arith in good_with h c j lj (v j lj))

-- what holds of the call holds of the last of them
of_last : (h : List Call) (c : Call) (n : ℕ) (P : Call → Type 0) → length h ≡ n → P c → P (call (h ++ c ∷ []) n)
of_last h c n P len p = subst P (sym (the_last h c n len)) p

pub fault_ends : (h : List Call) (c : Call) (n : ℕ) → length h ≡ n → IsHistory h → IsInRange c → Answers c.op c.end
    → (EndsFrom c.first c.end → ⊥) → IsFault (h ++ c ∷ []) (EndsEarly n)
fault_ends h c n len v r a f = (
  good_below h c n len v,
  of_last h c n (λ w. IsInRange w) len r,
  of_last h c n (λ w. Answers w.op w.end) len a,
  of_last h c n (λ w. EndsFrom w.first w.end → ⊥) len f,
)

pub fault_rises : (h : List Call) (c : Call) (n : ℕ) (p : CallsSoFar) → length h ≡ n → IsHistory h → AreSoFar h n p
    → IsInRange c
    → Answers c.op c.end → EndsFrom c.first c.end → (RisesFrom p.latest c.first → ⊥)
    → IsFault (h ++ c ∷ []) (OutOfOrder n)
fault_rises h c n p len v was r a e f = (
  good_below h c n len v,
  of_last h c n (λ w. IsInRange w) len r,
  of_last h c n (λ w. Answers w.op w.end) len a,
  of_last h c n (λ w. EndsFrom w.first w.end) len e,
  λ s. of_last h c n (λ w. RisesFrom p.latest w.first → ⊥) len f
      (((so_far_with h c n p len was).latest (call (h ++ c ∷ []) n).first).1 s),
)

pub fault_lets : (h : List Call) (c : Call) (n : ℕ) (p : CallsSoFar) → length h ≡ n → IsHistory h → AreSoFar h n p
    → IsInRange c
    → Answers c.op c.end → EndsFrom c.first c.end → RisesFrom p.latest c.first
    → ((d : ThreadState) → LetsBegin (get_or p.threads c.thread d) c.first → ⊥) → IsFault (h ++ c ∷ []) (Overlap n)
fault_lets h c n p len v was r a e s f = (
  good_below h c n len v,
  of_last h c n (λ w. IsInRange w) len r,
  of_last h c n (λ w. Answers w.op w.end) len a,
  of_last h c n (λ w. EndsFrom w.first w.end) len e,
  ((so_far_with h c n p len was).latest (call (h ++ c ∷ []) n).first).0
      (of_last h c n (λ w. RisesFrom p.latest w.first) len s),
  λ apart. of_last h c n (λ w. LetsBegin (get_or p.threads w.thread Fresh) w.first → ⊥) len (f Fresh)
      (((so_far_with h c n p len was).threads (call (h ++ c ∷ []) n).thread (call (h ++ c ∷ []) n).first Fresh
      (of_last h c n (λ w. w.thread < 64) len r.0)).1 apart),
)

good_last : (h : List Call) (c : Call) (n : ℕ) (p : CallsSoFar) → length h ≡ n → AreSoFar h n p → Tests p c
    → IsGood (h ++ c ∷ []) n
good_last h c n p len was t = good_call (h ++ c ∷ []) n p (so_far_with h c n p len was)
    (of_last h c n (λ w. Tests p w) len t)

pub more_valid : (h : List Call) (c : Call) (n : ℕ) (p : CallsSoFar) → length h ≡ n → IsHistory h → AreSoFar h n p
    → Tests p c
    → IsHistory (h ++ c ∷ [])
more_valid h c n p len v was t j lt =
    let lj : j < n + 1 = (let e = length-append h (c ∷ []) in omega arith) in
    good_more (h ++ c ∷ []) n (good_below h c n len v).1 (good_last h c n p len was t) j lj

pub more_noted : (h : List Call) (c : Call) (n : ℕ) (p q : CallsSoFar) → length h ≡ n → AreSoFar h n p → Tests p c
    → q.latest ≡ Some c.first
    → q.threads ≡ set p.threads c.thread (state_after c.end) → AreSoFar (h ++ c ∷ []) (n + 1) q
more_noted h c n p q len was t a b =
    let m = of_last h c n (λ w. (q.latest ≡ Some w.first) × (q.threads ≡ set p.threads w.thread (state_after w.end)))
    len (a, b) in
    more_so_far (h ++ c ∷ []) n p q (so_far_with h c n p len was) (good_last h c n p len was t) m.0 m.1
