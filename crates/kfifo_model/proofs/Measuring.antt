-- A legal order has one rank for each call that got an item; items are distinct where no call repeats an earlier one's.
use Rattle.std.proofs.Common.{ℕ, suc, ◌≡◌, ◌≢◌, ◌+◌, ◌<◌, Bool, true, false, List, [], ◌∷◌, ◌++◌, length, map, take}
use Rattle.std.proofs.Common.{drop, get_or, refl, sym, ◌∙◌, ap, subst, inl, inr, arith, Option, Some, None}
use Rattle.std.proofs.Common.{append_assoc, length-append, cond, count_by}
use Rattle.std.specs.List.{filter, range_with_len}
use Rattle.std.proofs.lemmas.Bool.{cases_lt, cases_order, cond-true, cond-false}
use Rattle.std.proofs.lemmas.List.{drop_more, map-append, take-append-drop}
use Rattle.std.proofs.lemmas.List.Elements.{filter-append}
use Rattle.std.proofs.lemmas.List.Sums.{sum_by-cons}
use Rattle.kfifo_model.proofs.Types.{Call, Effect, End, Op}
use Rattle.kfifo_model.specs.declared.calls.Op.TheVariants.{Enqueue, Dequeue}
use Rattle.kfifo_model.specs.declared.orders.Verdict.{Verdict}
use Rattle.kfifo_model.specs.declared.orders.Verdict.TheVariants.{Legal, Repeats, NotACall, LeavesOut, BreaksBefore}
use Rattle.kfifo_model.specs.declared.orders.Verdict.TheVariants.{NotARun}
use Rattle.kfifo_model.specs.Lists.{IsIn}
use Rattle.kfifo_model.specs.declared.effects.Effect.TheVariants.{Adds, Takes, FindsNone, Refused, Wrong}
use Rattle.kfifo_model.specs.Relaxed.{IsRun, next, effect}
use Rattle.kfifo_model.specs.Histories.{does, effect_at, IsLegal}
use Rattle.kfifo_model.specs.Overtaking.{numbers_of}
use Rattle.kfifo_model.specs.Verdicts.{IsVerdict, IsTried}
use Rattle.kfifo_model.specs.declared.orders.Tried.{Tried}
use Rattle.kfifo_model.specs.declared.orders.Tried.TheVariants as Tries
use Rattle.kfifo_model.specs.declared.orders.Tried.TheVariants.{Went, Took}
use Rattle.kfifo_model.specs.Ranks.{rank, ranks_at, is_got}
use Rattle.kfifo_model.specs.Measures.{SharesItem, RepeatsEarlier, HasDistinctItems, EndsDone}
use Rattle.kfifo_model.proofs.Greedy.{run_on, no_run}
use Rattle.kfifo_model.proofs.Ranges.{in_range, into_range, range_push}

-- the ranks so far, and those of what is left
pub record Ranked (k : ℕ) (h : List Call) (order found items : List ℕ) (i : ℕ) (total : List ℕ) : Type 0 where
  pub told : found ++ ranks_at k (Some items) (map (does h) (drop i order)) ≡ total
  pub runs : IsRun k items (map (does h) (drop i order))

rest_is : (h : List Call) (order : List ℕ) (i : ℕ) → i < length order
    → map (does h) (drop i order) ≡ does h (get_or order i 0) ∷ map (does h) (drop (i + 1) order)
rest_is h order i lt = ap (map (does h)) (drop_more order i 0 lt)

pub runs_at : (k : ℕ) (h : List Call) (order items : List ℕ) (i : ℕ) → i < length order
    → IsRun k items (map (does h) (drop i order))
    → IsRun k items (does h (get_or order i 0) ∷ map (does h) (drop (i + 1) order))
runs_at k h order items i lt r = let P : List Effect → Type 0 = λ t. IsRun k items t in subst P (rest_is h order i lt) r

pub ranks_next : (k : ℕ) (h : List Call) (order found more items after : List ℕ) (i : ℕ) (total : List ℕ)
    → i < length order
    → found ++ ranks_at k (Some items) (map (does h) (drop i order)) ≡ total
    → IsRun k items (map (does h) (drop i order))
    → next k items (does h (get_or order i 0)) ≡ Some after → more ≡ found ++ rank items (does h (get_or order i 0))
    → Ranked k h order more after (i + 1) total
ranks_next k h order found more items after i total lt told run n e =
    record {
      told = ap (λ t. t ++ ranks_at k (Some after) (map (does h) (drop (i + 1) order))) e
          ∙ append_assoc found (rank items (does h (get_or order i 0)))
          (ranks_at k (Some after) (map (does h) (drop (i + 1) order)))
          ∙ ap (λ t. found
          ++ (rank items (does h (get_or order i 0)) ++ ranks_at k t (map (does h) (drop (i + 1) order)))) (sym n)
          ∙ ap (λ t. found ++ ranks_at k (Some items) t) (sym (rest_is h order i lt))
          ∙ told;
      runs = run_on k items after (does h (get_or order i 0)) (map (does h) (drop (i + 1) order)) n
          (runs_at k h order items i lt run);
    }

one_rank : (items : List ℕ) (e : Effect) → length (rank items e) ≡ cond (is_got e) 1 0
one_rank items (Takes x) = refl
one_rank items (Adds x) = refl
one_rank items FindsNone = refl
one_rank items Refused = refl
one_rank items Wrong = refl

ranks_more : (k : ℕ) (items : List ℕ) (e : Effect) (es : List Effect) (count : ℕ) → IsRun k items (e ∷ es)
    → ((after : List ℕ) → IsRun k after es → length (ranks_at k (Some after) es) ≡ count)
    → (left : Option (List ℕ)) → next k items e ≡ left → length (rank items e ++ ranks_at k left es)
    ≡ cond (is_got e) 1 0 + count
ranks_more k items e es count run rest None gone = absurd (no_run k items e es gone run)
ranks_more k items e es count run rest (Some after) gone =
    let one = one_rank items e in
    let others = rest after (run_on k items after e es gone run) in
    length-append (rank items e) (ranks_at k (Some after) es) ∙ omega (arith, one, others)

-- a run has one rank for each call that got an item
pub length-ranks_at : (k : ℕ) (h : List Call) (order items : List ℕ) → IsRun k items (map (does h) order)
    → length (ranks_at k (Some items) (map (does h) order)) ≡ count_by (λ c. is_got (does h c)) order
length-ranks_at k h [] items run = refl
length-ranks_at k h (c ∷ order) items run =
    ranks_more k items (does h c) (map (does h) order) (count_by (λ d. is_got (does h d)) order) run
    (λ after rest. length-ranks_at k h order after rest) (next k items (does h c)) refl
    ∙ sym (sum_by-cons (λ d. cond (is_got (does h d)) 1 0) c order)

-- a beginning of a run is a run
runs_before : (k : ℕ) (items : List ℕ) (es fs : List Effect) → IsRun k items (es ++ fs) → IsRun k items es
runs_before k items [] fs r = tt
runs_before k items (e ∷ es) fs r = (r.0, r.1, runs_before k r.0 es fs r.2)

runs_front : (k : ℕ) (h : List Call) (order : List ℕ) (p : ℕ) → IsRun k [] (map (does h) order)
    → IsRun k [] (map (does h) (take p order))
runs_front k h order p r =
    let P : List Effect → Type 0 = λ t. IsRun k [] t in
    runs_before k [] (map (does h) (take p order)) (map (does h) (drop p order))
    (subst P (ap (map (does h)) (sym (take-append-drop p order)) ∙ map-append (does h) (take p order) (drop p order)) r)

-- an order with a fault is not legal
pub faulty : (k : ℕ) (h : List Call) (order : List ℕ) (v : Verdict) → IsVerdict k h order v → v ≢ Legal
    → IsLegal k h order → ⊥
faulty k h order Legal i ne l = ne refl
faulty k h order Repeats i ne l = i l.is_order.distinct
faulty k h order NotACall i ne l = i.1 l.is_order.calls
faulty k h order LeavesOut i ne l = i.2 l.is_order.complete
faulty k h order BreaksBefore i ne l = i.3 l.is_order.before
faulty k h order (NotARun p) i ne l = i.3 (runs_front k h order (p + 1) l.is_run)

-- items that repeat
pub listed : (h : List Call) (c : ℕ) → c < length h → IsIn c (numbers_of h)
listed h c lt = into_range 0 (length h) c (omega arith) (omega arith)

pub below : (h : List Call) (c : ℕ) → IsIn c (numbers_of h) → c < length h
below h c i = let p = in_range 0 (length h) c i in let q : c < 0 + length h = p.1 in omega arith

pub not_distinct : (h : List Call) (n : ℕ) → n < length h → RepeatsEarlier h n → HasDistinctItems h → ⊥
not_distinct h n lt r d =
    let j : r.0 < n = r.1 in
    let lj : r.0 < length h = omega arith in
    elim r.2 [
      | inl a ↦ (let e = d.0 a.0 n r.0 (listed h n lt) (listed h r.0 lj) a.1 a.2 in omega arith)
      | inr a ↦ (let e = d.1 a.0 n r.0 (listed h n lt) (listed h r.0 lj) a.1 a.2 in omega arith)
    ]

one_each : (h : List Call) (c d : ℕ) → ((n : ℕ) → n < length h → RepeatsEarlier h n → ⊥) → c < length h → d < length h
    → SharesItem (does h c) (does h d) → SharesItem (does h d) (does h c) → c ≡ d
one_each h c d f lc ld s t =
    elim (cases_order c d) [
      | inl e ↦ e
      | inr o ↦ elim o [ inl lt ↦ absurd (f d ld (c, lt, t)) | inr gt ↦ absurd (f c lc (d, gt, s)) ]
    ]

pub are_distinct : (h : List Call) → ((n : ℕ) → n < length h → RepeatsEarlier h n → ⊥) → HasDistinctItems h
are_distinct h f = (
  λ x c d i j a b. one_each h c d f (below h c i) (below h d j) (inl (x, a, b)) (inl (x, b, a)),
  λ x c d i j a b. one_each h c d f (below h c i) (below h d j) (inr (x, a, b)) (inr (x, b, a)),
)

range_at : (n : ℕ) → range_with_len 0 (n + 1) ≡ range_with_len 0 n ++ n ∷ []
range_at n = ap (range_with_len 0) (let e : n + 1 ≡ suc n = omega arith in e) ∙ range_push 0 n
    ∙ ap (λ x. range_with_len 0 n ++ x ∷ []) (let e : 0 + n ≡ n = omega arith in e)

-- a count over one more number
pub count_more : (t : ℕ → Bool) (n : ℕ) → t n ≡ true
    → length (filter t (range_with_len 0 (n + 1))) ≡ length (filter t (range_with_len 0 n)) + 1
count_more t n e =
    ap (λ l. length (filter t l)) (range_at n) ∙ ap length (filter-append t (range_with_len 0 n) (n ∷ []))
    ∙ length-append (filter t (range_with_len 0 n)) (filter t (n ∷ []))
    ∙ ap (λ l. length (filter t (range_with_len 0 n)) + length l) (cond-true (t n) (n ∷ []) [] e)

pub count_same : (t : ℕ → Bool) (n : ℕ) → t n ≡ false
    → length (filter t (range_with_len 0 (n + 1))) ≡ length (filter t (range_with_len 0 n))
count_same t n e =
    ap (λ l. length (filter t l)) (range_at n) ∙ ap length (filter-append t (range_with_len 0 n) (n ∷ []))
    ∙ length-append (filter t (range_with_len 0 n)) (filter t (n ∷ []))
    ∙ ap (λ l. length (filter t (range_with_len 0 n)) + length l) (cond-false (t n) (n ∷ []) [] e)
    ∙ (let q : length (filter t (range_with_len 0 n)) + 0 ≡ length (filter t (range_with_len 0 n)) = omega arith in q)

pub ends_done_adds : (op : Op) (o : Option End) → EndsDone op o → (x : ℕ) × (effect_at op o ≡ Adds x)
ends_done_adds (Enqueue x) (Some end) e = (x, ap (effect (Enqueue x)) e)
ends_done_adds (Enqueue x) None e = absurd e
ends_done_adds Dequeue o e = absurd e

-- a call that stands in a run, and was tried, went
pub went_on : (k : ℕ) (before after : List ℕ) (e : Effect) (t : Tried) → IsTried k before after e t → (es : List Effect)
    → IsRun k before (e ∷ es) → next k before e ≡ Some after
went_on k before after e Tries.NotLegal i es r = absurd (no_run k before e es i r)
went_on k before after e Went i es r = i.0
went_on k before after e (Took p) i es r = i.0

pub took_rank : (k : ℕ) (before after : List ℕ) (e : Effect) (t : Tried) (p : ℕ) → IsTried k before after e t
    → t ≡ Took p
    → rank before e ≡ p ∷ []
took_rank k before after e t p i q = let P : Tried → Type 0 = λ w. IsTried k before after e w in (subst P q i).1

pub no_rank : (k : ℕ) (before after : List ℕ) (e : Effect) (t : Tried) → IsTried k before after e t
    → next k before e ≡ Some after
    → ((p : ℕ) → t ≡ Took p → ⊥) → rank before e ≡ []
no_rank k before after e Tries.NotLegal i n f = cc
no_rank k before after e Went i n f = i.1
no_rank k before after e (Took p) i n f = absurd (f p refl)

pub no_more : (P : ℕ → Type 0) (n : ℕ) → ((j : ℕ) → j < n → P j → ⊥) → (P n → ⊥) → (j : ℕ) → j < n + 1 → P j → ⊥
no_more P n f g j lt p =
    elim (cases_lt j n) [
      | inl below ↦ f j below p
      | inr le ↦ (let e : j ≡ n = omega arith in g (subst P e p))
    ]
