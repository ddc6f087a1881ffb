-- Beginnings of orders, by what is done, and what goes on from them.
use Rattle.std.proofs.Common.{ℕ, zero, suc, ◌≡◌, ◌+◌, ◌<◌, ◌⊎◌, Bool, true, false, cond, List, [], ◌∷◌, ◌++◌, length}
use Rattle.std.proofs.Common.{map, get_or, set, replicate, refl, sym, ◌∙◌, ap, subst, inl, inr, arith, Option, Some}
use Rattle.std.proofs.Common.{None}
use Rattle.std.proofs.lemmas.Bool.{cases_lt, false≢true}
use Rattle.std.proofs.lemmas.List.{map-append, get_or_past, get_or_append_left}
use Rattle.std.proofs.Math.Seq.{get_or-append_seam}
use Rattle.std.proofs.lemmas.List.Sums.{sum_by-cons}
use Rattle.std.proofs.Math.ListN.{length-set}
use Rattle.kfifo_model.proofs.Types.{Call, Effect, End, Op}
use Rattle.kfifo_model.specs.declared.calls.Op.TheVariants.{Enqueue, Dequeue}
use Rattle.kfifo_model.specs.declared.calls.Answer.{Answer}
use Rattle.kfifo_model.specs.declared.calls.Answer.TheVariants.{Done, Full, Got, Empty, Busy, Worn}
use Rattle.std.specs.List.{AllByRecursion}
use Rattle.kfifo_model.specs.Lists.{IsIn}
use Rattle.kfifo_model.specs.declared.effects.Effect.TheVariants.{Adds, Takes, Wrong}
use Rattle.kfifo_model.specs.Relaxed.{IsRun, next, effect}
use Rattle.kfifo_model.specs.Histories.{call, no_call, does, effect_of, effect_at, CanStand, HasEnd, EndsBelow}
use Rattle.kfifo_model.specs.Histories.{Precedes}
use Rattle.kfifo_model.specs.Validity.{IsHistory, EndsFrom, AnswerInRange, EndInRange}
use Rattle.kfifo_model.specs.Reach.{Reach, reach}
use Rattle.kfifo_model.specs.Searching.{HasOrder, IsDone, IsComplete, IsFree, IsRest, GoesOn, Extends, IsNoNext}
use Rattle.kfifo_model.specs.Searching.{IsWanted, IsComing, IsIdle, IsAsGood, AreAsGood, done_count, LeadsTo}
use Rattle.kfifo_model.proofs.Lists.{in_append, in_right, each_at, each_from, pairs_back, pairs_across, pairs_less}
use Rattle.kfifo_model.proofs.Lists.{in_less, in_more, parted, Differ}
use Rattle.kfifo_model.proofs.Greedy.{run_on, run_back, no_run}
use Rattle.kfifo_model.proofs.Checking.{in_bounds}
use Rattle.kfifo_model.proofs.Forgetting.{Has, Both, both_from_places, both_flip, as_good_runs, without_idle}
use Rattle.kfifo_model.proofs.Forgetting.{idle_first, taken_from}

-- ---- what is done

pub done_cases : (done : List Bool) (n c : ℕ) → IsDone (set done n true) c → (c ≡ n) ⊎ IsDone done c
done_cases [] n c h = inr h
done_cases (b ∷ done) zero zero h = inl refl
done_cases (b ∷ done) zero (suc c) h = inr h
done_cases (b ∷ done) (suc n) zero h = inr h
done_cases (b ∷ done) (suc n) (suc c) h = elim (done_cases done n c h) [ inl e ↦ inl (ap suc e) | inr d ↦ inr d ]

pub done_here : (done : List Bool) (n : ℕ) → n < length done → IsDone (set done n true) n
done_here [] n lt = absurd (omega arith)
done_here (b ∷ done) zero lt = refl
done_here (b ∷ done) (suc n) lt = done_here done n (omega arith)

pub done_still : (done : List Bool) (n c : ℕ) → IsDone done c → IsDone (set done n true) c
done_still [] n c h = h
done_still (b ∷ done) zero zero h = refl
done_still (b ∷ done) zero (suc c) h = h
done_still (b ∷ done) (suc n) zero h = h
done_still (b ∷ done) (suc n) (suc c) h = done_still done n c h

pub none_done : (n c : ℕ) → IsDone (replicate n false) c → ⊥
none_done zero c h = false≢true h
none_done (suc n) zero h = false≢true h
none_done (suc n) (suc c) h = none_done n c h

counted : (b : Bool) (done : List Bool) → done_count (b ∷ done) ≡ cond b 1 0 + done_count done
counted b done = sum_by-cons (λ x. cond x 1 0) b done

pub one_more_done : (done : List Bool) (n : ℕ) → n < length done → (IsDone done n → ⊥)
    → done_count (set done n true) ≡ done_count done + 1
one_more_done [] n lt f = absurd (omega arith)
one_more_done (true ∷ done) zero lt f = absurd (f refl)
one_more_done (false ∷ done) zero lt f = omega (arith, counted true done, counted false done)
one_more_done (b ∷ done) (suc n) lt f =
    let r = one_more_done done n (omega arith) f in
    omega (arith, r, counted b (set done n true), counted b done)

pub none_counted : (n : ℕ) → done_count (replicate n false) ≡ 0
none_counted zero = refl
none_counted (suc n) = none_counted n

-- ---- what may come next

ended : (o : Option End) (s : ℕ) → EndsBelow o s → HasEnd o
ended None s b = absurd b
ended (Some end) s b = tt

not_below_itself : (o : Option End) (s : ℕ) → EndsFrom s o → EndsBelow o s → ⊥
not_below_itself None s e b = b
not_below_itself (Some end) s e b = omega arith

never_itself : (h : List Call) (n : ℕ) → IsHistory h → n < length h → Precedes h n n → ⊥
never_itself h n v lt p = not_below_itself (call h n).end (call h n).first (v n lt).ends p

stands_inside : (h : List Call) (n : ℕ) (rest : List ℕ)
    → AllByRecursion (λ c. CanStand (call h c).end (call h c).op) (n ∷ rest)
    → n < length h
stands_inside h n rest c = in_bounds h n c.0

-- the first of a rest may come next
pub rest_free : (h : List Call) (done : List Bool) (n : ℕ) (rest : List ℕ) → IsHistory h → IsRest h done (n ∷ rest)
    → IsFree h done n
rest_free h done n rest v r =
    let lt = stands_inside h n rest r.calls in
    record {
      inside = lt;
      fresh = r.fresh n (inl refl);
      stands = r.calls.0;
      ready = λ m p. elim (r.complete m (ended (call h m).end (call h n).first p)) [
        | inl d ↦ d
        | inr i ↦ elim i [
          | inl e ↦ absurd (never_itself h n v lt (let P : ℕ → Type 0 = λ w. Precedes h w n in subst P e p))
          | inr j ↦ absurd (each_at (λ d. Precedes h d n → ⊥) m rest r.before.0 j p)
        ]
      ];
    }

-- what is left when it is done
pub rest_tail : (h : List Call) (done : List Bool) (n : ℕ) (rest : List ℕ) → n < length done → IsRest h done (n ∷ rest)
    → IsRest h (set done n true) rest
rest_tail h done n rest lt r = record {
  distinct = r.distinct.1;
  calls = r.calls.1;
  fresh = λ c i d. elim (done_cases done n c d) [
    | inl e ↦ each_at (Differ n) c rest r.distinct.0 i (sym e)
    | inr o ↦ r.fresh c (inr i) o
  ];
  complete = λ c f. elim (r.complete c f) [
    | inl d ↦ inl (done_still done n c d)
    | inr i ↦ elim i [
      | inl e ↦ inl (let P : ℕ → Type 0 = λ w. IsDone (set done n true) w in subst P (sym e) (done_here done n lt))
      | inr j ↦ inr j
    ]
  ];
  before = r.before.1;
}

pub rest_cons : (h : List Call) (done : List Bool) (n : ℕ) (rest : List ℕ) → n < length done → IsFree h done n
    → IsRest h (set done n true) rest → IsRest h done (n ∷ rest)
rest_cons h done n rest lt free r = record {
  distinct = (
    each_from (Differ n) rest (λ c i e.
        r.fresh c i (let P : ℕ → Type 0 = λ w. IsDone (set done n true) w in subst P e (done_here done n lt))),
    r.distinct,
  );
  calls = (free.stands, r.calls);
  fresh = λ c i d. elim i [
    | inl e ↦ free.fresh (let P : ℕ → Type 0 = λ w. IsDone done w in subst P e d)
    | inr j ↦ r.fresh c j (done_still done n c d)
  ];
  complete = λ c f. elim (r.complete c f) [
    | inl d ↦ elim (done_cases done n c d) [ inl e ↦ inr (inl e) | inr o ↦ inl o ]
    | inr i ↦ inr (inr i)
  ];
  before = (
    each_from (λ d. Precedes h d n → ⊥) rest (λ c i p. r.fresh c i (done_still done n c (free.ready c p))),
    r.before,
  );
}

-- ---- what a call leads to

takes_wanted : (h : List Call) (done : List Bool) (x : ℕ) (rest : List ℕ) → ((c : ℕ) → IsIn c rest → IsDone done c → ⊥)
    → Has (Takes x) (map (does h) rest) → IsWanted h done x
takes_wanted h done x [] f i = absurd i
takes_wanted h done x (c ∷ rest) f (inl e) = (c, f c (inl refl), sym e)
takes_wanted h done x (c ∷ rest) f (inr i) = takes_wanted h done x rest (λ d j. f d (inr j)) i

adds_coming : (h : List Call) (done : List Bool) (x : ℕ) (rest : List ℕ) → ((c : ℕ) → IsIn c rest → IsDone done c → ⊥)
    → Has (Adds x) (map (does h) rest) → IsComing h done x
adds_coming h done x [] f i = absurd i
adds_coming h done x (c ∷ rest) f (inl e) = (c, f c (inl refl), sym e)
adds_coming h done x (c ∷ rest) f (inr i) = adds_coming h done x rest (λ d j. f d (inr j)) i

both : (h : List Call) (done : List Bool) (items others : List ℕ) → AreAsGood h done items others
    → Both (IsWanted h done) items others
both h done items others g = both_from_places (IsWanted h done) items others g.0 g.1

-- n goes to the list after, and others are as good
pub leads_to : (k : ℕ) (h : List Call) (done : List Bool) (items after others : List ℕ) (n : ℕ) → length done ≡ length h
    → IsFree h done n
    → next k items (does h n) ≡ Some after → AreAsGood h (set done n true) after others
    → LeadsTo k h (reach done items) n (reach (set done n true) others)
leads_to k h done items after others n sized free e good =
    let inside : n < length h = free.inside in
    let lt : n < length done = omega arith in
    let pair = both h (set done n true) after others good in
    record {
      further = (length-set done n true, one_more_done done n lt free.fresh);
      sound = λ g. (
        n ∷ g.0,
        record {
          is_rest = rest_cons h done n g.0 lt free g.1.is_rest;
          is_run = run_back k items after (does h n) (map (does h) g.0) e
              (as_good_runs k (IsWanted h (set done n true)) (map (does h) g.0) others after
              (λ x i. takes_wanted h (set done n true) x g.0 g.1.is_rest.fresh i)
              (both_flip (IsWanted h (set done n true)) after others pair) g.1.is_run);
        },
      );
      complete = λ rest g.
          let tail = rest_tail h done n rest lt g.is_rest in (
            rest,
            record {
              is_rest = tail;
              is_run = as_good_runs k (IsWanted h (set done n true)) (map (does h) rest) after others
                  (λ x i. takes_wanted h (set done n true) x rest tail.fresh i) pair
                  (run_on k items after (does h n) (map (does h) rest) e g.is_run);
            },
          );
    }

pub no_next : (k : ℕ) (h : List Call) (r : Reach) (n : ℕ) → next k r.items (does h n) ≡ None → IsNoNext k h r n
no_next k h r n e rest g = no_run k r.items (does h n) (map (does h) rest) e g.is_run

-- ---- an idle call may go first

idle_end : (items : List ℕ) (op : Op) (o : Option End) → IsIdle items (effect_at op o) → HasEnd o
idle_end items op (Some end) i = tt
idle_end items (Enqueue x) None i = absurd i
idle_end items Dequeue None i = absurd i

moved_in : (x n : ℕ) (a b : List ℕ) → IsIn x (n ∷ (a ++ b)) → IsIn x (a ++ n ∷ b)
moved_in x n a b (inl e) = in_right x a (n ∷ b) (inl e)
moved_in x n a b (inr i) = in_less x n a b i

moved_out : (x n : ℕ) (a b : List ℕ) → IsIn x (a ++ n ∷ b) → IsIn x (n ∷ (a ++ b))
moved_out x n a b i = elim (in_more x n a b i) [ inl e ↦ inl e | inr j ↦ inr j ]

moved_rest : (h : List Call) (done : List Bool) (n : ℕ) (a b : List ℕ) → IsFree h done n → IsRest h done (a ++ n ∷ b)
    → IsRest h done (n ∷ (a ++ b))
moved_rest h done n a b free r =
    let S : ℕ → Type 0 = λ c. CanStand (call h c).end (call h c).op in
    let R : ℕ → ℕ → Type 0 = λ c d. Precedes h d c → ⊥ in
    record {
      distinct = (
        each_from (Differ n) (a ++ b) (λ x i. elim (in_append x a b i) [
          | inl j ↦ (λ e. pairs_across Differ a (n ∷ b) r.distinct x n j (inl refl) (sym e))
          | inr j ↦ each_at (Differ n) x b (pairs_back Differ a (n ∷ b) r.distinct).0 j
        ]),
        pairs_less Differ n a b r.distinct,
      );
      calls = (free.stands, each_from S (a ++ b) (λ x i. each_at S x (a ++ n ∷ b) r.calls (in_less x n a b i)));
      fresh = λ x i. r.fresh x (moved_in x n a b i);
      complete = λ x f. elim (r.complete x f) [ inl d ↦ inl d | inr i ↦ inr (moved_out x n a b i) ];
      before = (
        each_from (R n) (a ++ b) (λ x i p. r.fresh x (in_less x n a b i) (free.ready x p)),
        pairs_less R n a b
            r.before,
      );
    }

moved_run : (k : ℕ) (h : List Call) (items : List ℕ) (n : ℕ) (a b : List ℕ) → IsIdle items (does h n)
    → IsRun k items (map (does h) (a ++ n ∷ b)) → IsRun k items (map (does h) (n ∷ (a ++ b)))
moved_run k h items n a b idle r =
    let P : List Effect → Type 0 = λ t. IsRun k items t in
    idle_first k items (does h n) (map (does h) (a ++ b)) idle
    (subst P (sym (map-append (does h) a b)) (without_idle k items items (does h n) (map (does h) a)
    (map (does h) b) idle
    (subst P (map-append (does h) a (n ∷ b)) r)))

pub idle_goes : (k : ℕ) (h : List Call) (r : Reach) (n : ℕ) → IsFree h r.done n → IsIdle r.items (does h n)
    → IsNoNext k h r n
    → Extends k h r → ⊥
idle_goes k h r n free idle never g =
    elim (g.1.is_rest.complete n (idle_end r.items (call h n).op (call h n).end idle)) [
      | inl d ↦ free.fresh d
      | inr i ↦ (
          let p = parted n g.0 i in
          let R : List ℕ → Type 0 = λ t. IsRest h r.done t in
          let Q : List ℕ → Type 0 = λ t. IsRun k r.items (map (does h) t) in
          never (p.front ++ p.back) (record {
            is_rest = moved_rest h r.done n p.front p.back free (subst R p.is g.1.is_rest);
            is_run = moved_run k h r.items n p.front p.back idle (subst Q p.is g.1.is_run);
          })
          )
    ]

-- ---- an item that can no longer come

takes_end : (op : Op) (o : Option End) (x : ℕ) → effect_at op o ≡ Takes x → HasEnd o
takes_end op (Some end) x e = tt
takes_end (Enqueue y) None x e = absurd (cc)
takes_end Dequeue None x e = absurd (cc)

has_effect : (h : List Call) (e : Effect) (n : ℕ) (rest : List ℕ) → does h n ≡ e → IsIn n rest
    → Has e (map (does h) rest)
has_effect h e n [] q i = absurd i
has_effect h e n (c ∷ rest) q (inl s) = inl (sym q ∙ ap (does h) s)
has_effect h e n (c ∷ rest) q (inr i) = inr (has_effect h e n rest q i)

pub cannot_finish : (k : ℕ) (h : List Call) (r : Reach) (x : ℕ) → IsWanted h r.done x → (IsIn x r.items → ⊥)
    → (IsComing h r.done x → ⊥)
    → Extends k h r → ⊥
cannot_finish k h r x w gone never g =
    elim (g.1.is_rest.complete w.0 (takes_end (call h w.0).op (call h w.0).end x w.2)) [
      | inl d ↦ w.1 d
      | inr i ↦ elim (taken_from k x (map (does h) g.0) r.items (has_effect h (Takes x) w.0 g.0 w.2 i) g.1.is_run) [
        | inl j ↦ gone j
        | inr a ↦ never (adds_coming h r.done x g.0 g.1.is_rest.fresh a)
      ]
    ]

-- ---- ends

none_by : (k : ℕ) (h : List Call) (r : Reach) (rest : List ℕ) → IsHistory h → (IsComplete h r.done → ⊥)
    → ((n : ℕ) → n < length h → IsNoNext k h r n) → GoesOn k h r rest → ⊥
none_by k h r [] v open_ f g = open_ (λ n e. elim (g.is_rest.complete n e) [ inl d ↦ d | inr i ↦ absurd i ])
none_by k h r (n ∷ rest) v open_ f g = f n (rest_free h r.done n rest v g.is_rest).inside rest g

-- where nothing may come next and a finished call is not done, no order goes on
pub none_goes : (k : ℕ) (h : List Call) (r : Reach) → IsHistory h → (IsComplete h r.done → ⊥)
    → ((n : ℕ) → n < length h → IsNoNext k h r n)
    → Extends k h r → ⊥
none_goes k h r v open_ f g = none_by k h r g.0 v open_ f g.1

pub not_free : (k : ℕ) (h : List Call) (r : Reach) (n : ℕ) → IsHistory h → (IsFree h r.done n → ⊥) → IsNoNext k h r n
not_free k h r n v f rest g = f (rest_free h r.done n rest v g.is_rest)

-- ---- the start

abbrev pub opening : List Call → Reach
opening h = reach (replicate (length h) false) []

pub opening_sound : (k : ℕ) (h : List Call) → Extends k h (opening h) → HasOrder k h
opening_sound k h g =
    let r = g.1.is_rest in (
      g.0,
      record {
        is_order = record {
          distinct = r.distinct;
          calls = r.calls;
          complete = λ n f. elim (r.complete n f) [ inl d ↦ absurd (none_done (length h) n d) | inr i ↦ i ];
          before = r.before;
        };
        is_run = g.1.is_run;
      },
    )

pub opening_complete : (k : ℕ) (h : List Call) → HasOrder k h → Extends k h (opening h)
opening_complete k h o =
    let r = o.1.is_order in (
      o.0,
      record {
        is_rest = record {
          distinct = r.distinct;
          calls = r.calls;
          fresh = λ n i d. none_done (length h) n d;
          complete = λ n f. inr (r.complete n f);
          before = r.before;
        };
        is_run = o.1.is_run;
      },
    )

-- ---- items that no call takes any more

got_item : (op : Op) (a : Answer) (x : ℕ) → effect op a ≡ Takes x → AnswerInRange a → 0 < x
got_item (Enqueue y) Done x e i = absurd (cc)
got_item (Enqueue y) Full x e i = absurd (cc)
got_item (Enqueue y) (Got z) x e i = absurd (cc)
got_item (Enqueue y) Empty x e i = absurd (cc)
got_item (Enqueue y) Busy x e i = absurd (cc)
got_item (Enqueue y) Worn x e i = absurd (cc)
got_item Dequeue Done x e i = absurd (cc)
got_item Dequeue Full x e i = absurd (cc)
got_item Dequeue (Got z) x e i = let same : z ≡ x = cc in let small : 0 < z = i.0 in omega arith
got_item Dequeue Empty x e i = absurd (cc)
got_item Dequeue Busy x e i = absurd (cc)
got_item Dequeue Worn x e i = absurd (cc)

takes_item : (op : Op) (o : Option End) (x : ℕ) → effect_at op o ≡ Takes x → EndInRange o → 0 < x
takes_item op (Some end) x e i = got_item op end.answer x e i
takes_item (Enqueue y) None x e i = absurd (cc)
takes_item Dequeue None x e i = absurd (cc)

takes_inside : (h : List Call) (n x : ℕ) → does h n ≡ Takes x → n < length h
takes_inside h n x e =
    elim (cases_lt n (length h)) [
      | inl lt ↦ lt
      | inr le ↦ absurd (let P : Call → Type 0 = λ w. effect_of w ≡ Takes x in let q : Wrong
          ≡ Takes x = subst P (get_or_past h n no_call le) e in cc)
    ]

pub zero_unwanted : (h : List Call) (done : List Bool) → IsHistory h → IsWanted h done 0 → ⊥
zero_unwanted h done v w =
    let lt = takes_inside h w.0 0 w.2 in
    let p : 0 < 0 = takes_item (call h w.0).op (call h w.0).end 0 w.2 (v w.0 lt).ranged.2 in
    absurd (omega arith)

-- one more item, as good as that at its place
pub as_good_more : (h : List Call) (done : List Bool) (items kept : List ℕ) (i y : ℕ) → length kept ≡ i
    → ((j : ℕ) → j < i → IsAsGood h done (get_or items j 0) (get_or kept j 0)) → IsAsGood h done (get_or items i 0) y
    → (j : ℕ) → j < i + 1
    → IsAsGood h done (get_or items j 0) (get_or (kept ++ y ∷ []) j 0)
as_good_more h done items kept i y len good here j lt =
    elim (cases_lt j i) [
      | inl below ↦ (
          let inside : j < length kept = omega arith in
          let G : ℕ → Type 0 = λ w. IsAsGood h done (get_or items j 0) w in
          subst G (sym (get_or_append_left kept (y ∷ []) 0 j inside)) (good j below)
          )
      | inr le ↦ (
          let same : j ≡ length kept = omega arith in
          let at : get_or (kept ++ y ∷ []) j 0 ≡ y = ap (λ w. get_or (kept ++ y ∷ []) w 0) same
          ∙ get_or-append_seam kept y [] 0 in
          let to : i ≡ j = omega arith in
          let G : ℕ → Type 0 = λ w. IsAsGood h done (get_or items j 0) w in
          let F : ℕ → Type 0 = λ w. IsAsGood h done (get_or items w 0) y in
          subst G (sym at) (subst F to here)
          )
    ]

pub worthless : (h : List Call) (done : List Bool) (x : ℕ) → IsHistory h → (IsWanted h done x → ⊥) → IsAsGood h done x 0
worthless h done x v f = inr (f, zero_unwanted h done v)
