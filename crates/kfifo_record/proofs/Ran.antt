-- From calls that passes made in turn to the record of the run.
use Rattle.std.proofs.Common.{◌≡◌, ◌<◌, ◌≤◌, ◌+◌, ◌⊎◌, ℕ, zero, suc, List, [], ◌∷◌, length, map, get_or, Bool, true}
use Rattle.std.proofs.Common.{false, refl, sym, ap, ◌∙◌, subst, inl, inr, arith, cond, ne_eqb, eq-eqb, All, zero-add}
use Rattle.std.proofs.Common.{max, length-append, ◌*◌, suc-mul}
use Rattle.std.specs.Prelude.{◌==◌, ◌||◌, IsPermutation, IsSome}
use Rattle.std.specs.List.{fold, list_any, AllByRecursion}
use Rattle.std.proofs.lemmas.List.Sorted.{All-permutation, length_permutation}
use Rattle.std.proofs.lemmas.Bool.{cases_lt}
use Rattle.std.proofs.lemmas.List.{get_or_past, length-map}
use Rattle.std.proofs.lemmas.List.Elements.{All-cons, All-nil, All-from_recursion, recursion_from_All}
use Rattle.kfifo_words.specs.declared.shape.Shape.{Shape}
use Rattle.kfifo_model.specs.declared.calls.Call.{Call}
use Rattle.kfifo_model.specs.declared.calls.Op.{Op}
use Rattle.kfifo_model.proofs.Lists.{AllByRecursion-append, AllByRecursion-weaker}
use Rattle.kfifo_machine.specs.declared.event.Begin.{Begin}
use Rattle.kfifo_machine.specs.Calls.{op_asked}
use Rattle.kfifo_live.specs.declared.view.Opening.{Opening}
use Rattle.kfifo_live.specs.Schedule.{stamped_opening}
use Rattle.kfifo_live.specs.Pass.{IsComplete, IsPassOf, OpenQueue, new_passes}
use Rattle.kfifo_live.specs.Stamps.{Gathers, Logged, all_logs, calls_by, new_logs, passes_of}
use Rattle.kfifo_record.specs.Scripts.{AreScripts, EachMakes, IsCall, IsOpenFor, IsRecord, MakesInTurn, MayRun, longest}
use Rattle.kfifo_record.specs.Scripts.{room_for, script_of}
use Rattle.kfifo_live.proofs.NewPasses.{logs_of_new}
use Rattle.kfifo_record.proofs.Turns.{grown}

-- what a pass has run: it is of the queue and of this thread, and its log has the calls of the script
record Ran (q : OpenQueue) (script : List Begin) (thread : ℕ) (p : Logged) : Type 0 where
  pub of : IsPassOf q p.pass
  pub thread_is : p.pass.thread ≡ thread
  pub ops : map (λ (c : Call). c.op) p.log ≡ map op_asked script
  pub mine : AllByRecursion (λ c. c.thread ≡ thread) p.log
  pub ended : AllByRecursion (λ c. IsSome c.end) p.log

abbrev EachRan : OpenQueue → ℕ → List (List Begin) → List Logged → Type 0
EachRan q first [] [] = Unit {0}
EachRan q first (script ∷ scripts) [] = ⊥
EachRan q first [] (p ∷ ps) = ⊥
EachRan q first (script ∷ scripts) (p ∷ ps) = Ran q script first p × EachRan q (suc first) scripts ps

each_ran : (passed : ℕ → ℕ → Type 0) (q : OpenQueue) (first : ℕ) (scripts : List (List Begin)) (ps : List Logged)
    → EachMakes passed scripts (new_logs (new_passes q first (length scripts))) ps → EachRan q first scripts ps
each_ran passed q first [] [] made = tt
each_ran passed q first [] (p ∷ ps) made = made
each_ran passed q first (script ∷ scripts) [] made = made
each_ran passed q first (script ∷ scripts) (p ∷ ps) made =
    let g = grown (passed first) 1 script _ p made.0 in (
      record {
        of = (g.same.0, g.same.1);
        thread_is = g.same.2;
        ops = ap (λ calls. map (λ (c : Call). c.op) calls) g.log_is ∙ g.ops;
        mine = subst (AllByRecursion (λ c. c.thread ≡ first)) (sym g.log_is) g.mine;
        ended = subst (AllByRecursion (λ c. IsSome c.end)) (sym g.log_is) g.ended;
      },
      each_ran passed q (suc first) scripts ps made.1,
    )

-- by their places
each_makes : (passed : ℕ → ℕ → Type 0) (scripts : List (List Begin)) (olds news : List Logged)
    → length olds ≡ length scripts
    → length news ≡ length scripts
    → ((t : ℕ) (d : Logged) → t < length scripts
    → MakesInTurn (passed (get_or olds t d).pass.thread) 1 (get_or scripts t []) (get_or olds t d) (get_or news t d))
    → EachMakes passed scripts olds news
each_makes passed [] [] [] same count each = tt
each_makes passed [] (old ∷ olds) news same count each = absurd (omega (arith, same))
each_makes passed [] [] (new ∷ news) same count each = absurd (omega (arith, count))
each_makes passed (script ∷ scripts) [] news same count each = absurd (omega (arith, same))
each_makes passed (script ∷ scripts) (old ∷ olds) [] same count each = absurd (omega (arith, count))
each_makes passed (script ∷ scripts) (old ∷ olds) (new ∷ news) same count each = (
  each 0 old (omega arith),
  each_makes passed scripts olds news (omega (arith, same)) (omega (arith, count))
      (λ t d lt. each (suc t) d (omega (arith, lt))),
)

-- the pass at a place of an opening
thread_at : (q : OpenQueue) (first count t : ℕ) (d : Logged) → t < count
    → (get_or (new_logs (new_passes q first count)) t d).pass.thread ≡ first + t
thread_at q first zero t d less = absurd (omega (arith, less))
thread_at q first (suc count) zero d less = let e : first ≡ first + zero = omega arith in e
thread_at q first (suc count) (suc t) d less = let e : suc first + t ≡ first + suc t = omega arith in
    thread_at q (suc first) count t d (omega (arith, less)) ∙ e

long : (q : OpenQueue) (first count : ℕ) → length (new_logs (new_passes q first count)) ≡ count
long q first zero = refl
long q first (suc count) = ap suc (long q (suc first) count)

-- where each pass made the calls of the script of its thread
pub by_threads : (passed : ℕ → ℕ → Type 0) (shape : Shape) (scripts : List (List Begin)) (q : OpenQueue)
    (olds news : List Logged) → IsOpenFor shape scripts q olds
    → length news ≡ length olds
    → ((t : ℕ) (d : Logged) → t < length olds
    → MakesInTurn (passed (get_or olds t d).pass.thread) 1 (script_of scripts (get_or olds t d).pass.thread)
    (get_or olds t d)
    (get_or news t d)) → EachMakes passed scripts olds news
by_threads passed shape scripts q olds news opened count each =
    let same : length olds ≡ length scripts = ap (λ (ps : List Logged). length ps) opened.passes_are
    ∙ long q 0 (length scripts) in
    each_makes passed scripts olds news same (count ∙ same) (λ t d less.
    let thread : (get_or olds t d).pass.thread ≡ t =
    ap (λ (ps : List Logged). (get_or ps t d).pass.thread) opened.passes_are ∙ thread_at q 0 (length scripts) t d less
    ∙ zero-add t in
    subst (λ (n : ℕ). MakesInTurn (passed (get_or olds t d).pass.thread) 1 (script_of scripts n) (get_or olds t d)
    (get_or news t d)) thread (each t d (omega (arith, less, same))))

-- ---- a pass may run its script

at_least : (most : ℕ) (scripts : List (List Begin))
    → most ≤ fold (λ a (script : List Begin). max a (length script)) most scripts
at_least most [] = omega arith
at_least most (script ∷ scripts) = let more = at_least (max most (length script)) scripts in omega (arith, more)

no_longer : (most : ℕ) (scripts : List (List Begin)) (t : ℕ) → t < length scripts
    → length (get_or scripts t []) ≤ fold (λ a (script : List Begin). max a (length script)) most scripts
no_longer most [] t less = absurd (omega (arith, less))
no_longer most (script ∷ scripts) zero less = let more = at_least (max most (length script)) scripts in
    omega (arith, more)
no_longer most (script ∷ scripts) (suc t) less = no_longer (max most (length script)) scripts t (omega (arith, less))

pub may_run : (shape : Shape) (scripts : List (List Begin)) (q : OpenQueue) (ps : List Logged)
    → IsOpenFor shape scripts q ps
    → AreScripts shape scripts → longest scripts ≤ 1024
    → (t : ℕ) (d : Logged) → t < length ps → MayRun q scripts (get_or ps t d)
may_run shape scripts q ps opened calls few t d less =
    let same : length ps ≡ length scripts = ap (λ (ps : List Logged). length ps) opened.passes_are
    ∙ long q 0 (length scripts) in
    let within : t < length scripts = omega (arith, less, same) in
    let is : get_or ps t d ≡ get_or (new_logs (new_passes q 0 (length scripts))) t d =
    ap (λ (ps : List Logged). get_or ps t d) opened.passes_are in
    let thread : (get_or ps t d).pass.thread ≡ t =
    ap (λ (p : Logged). p.pass.thread) is ∙ thread_at q 0 (length scripts) t d within ∙ zero-add t in
    let room : q.opened.calls ≡ room_for scripts = ap (λ (o : Opening). o.calls) opened.opened in
    let sized : q.opened.shape ≡ shape = ap (λ (o : Opening). o.shape) opened.opened in
    let short = no_longer 0 scripts t within in
    record {
      of = subst (λ (p : Logged). IsPassOf q p.pass) (sym is)
          (logs_of_new q 0 (length scripts) t d (omega (arith, within, long q 0 (length scripts))));
      fresh = ap (λ (p : Logged). p.log) is ∙ no_log q 0 (length scripts) t d within;
      has_script = subst (λ (n : ℕ). n < length scripts) (sym thread) within;
      calls = subst (λ (x : Shape × ℕ). All (IsCall x.0) (script_of scripts x.1)) (λ i. (sym sized i, sym thread i))
          (calls t [] within);
      room = subst (λ (n : ℕ). length (script_of scripts n) ≤ q.opened.calls) (sym thread) (omega (arith, room, short));
      few = omega (arith, room, few);
    }
  where
    no_log : (q : OpenQueue) (first count t : ℕ) (d : Logged) → t < count
        → (get_or (new_logs (new_passes q first count)) t d).log ≡ []
    no_log q first zero t d less = absurd (omega (arith, less))
    no_log q first (suc count) zero d less = refl
    no_log q first (suc count) (suc t) d less = no_log q (suc first) count t d (omega (arith, less))

-- ---- what the passes then have

ran_by : (passed : ℕ → ℕ → Type 0) (shape : Shape) (scripts : List (List Begin)) (q : OpenQueue)
    (olds news : List Logged) → IsOpenFor shape scripts q olds
    → EachMakes passed scripts olds news → EachRan q 0 scripts news
ran_by passed shape scripts q olds news opened made =
    each_ran passed q 0 scripts news (subst (λ (ps : List Logged). EachMakes passed scripts ps news) opened.passes_are
    made)

-- ---- the passes

all_of : (q : OpenQueue) (first : ℕ) (scripts : List (List Begin)) (ps : List Logged) → EachRan q first scripts ps
    → All (λ p. IsPassOf q p.pass) ps
all_of q first [] [] ran = All-nil (λ p. IsPassOf q p.pass)
all_of q first [] (p ∷ ps) ran = absurd ran
all_of q first (script ∷ scripts) [] ran = All-nil (λ p. IsPassOf q p.pass)
all_of q first (script ∷ scripts) (p ∷ ps) ran =
    All-cons (λ p. IsPassOf q p.pass) p ps ran.0.of (all_of q (suc first) scripts ps ran.1)

pub all_of_queue : (passed : ℕ → ℕ → Type 0) (shape : Shape) (scripts : List (List Begin)) (q : OpenQueue)
    (olds news : List Logged) → IsOpenFor shape scripts q olds
    → EachMakes passed scripts olds news → All (λ p. IsPassOf q p.pass) news
all_of_queue passed shape scripts q olds news opened made =
    all_of q 0 scripts news (ran_by passed shape scripts q olds news opened made)

counted : (q : OpenQueue) (first : ℕ) (scripts : List (List Begin)) (ps : List Logged) → EachRan q first scripts ps
    → length (passes_of ps) ≡ length scripts
counted q first [] [] ran = refl
counted q first [] (p ∷ ps) ran = absurd ran
counted q first (script ∷ scripts) [] ran = absurd ran
counted q first (script ∷ scripts) (p ∷ ps) ran = ap suc (counted q (suc first) scripts ps ran.1)

any_more : (a b : Bool) → b ≡ true → (a || b) ≡ true
any_more true b is = refl
any_more false b is = is

there : (q : OpenQueue) (first : ℕ) (scripts : List (List Begin)) (ps : List Logged) → EachRan q first scripts ps
    → (i : ℕ)
    → i < length scripts → list_any (λ p. p.thread == first + i) (passes_of ps) ≡ true
there q first [] ps ran i less = absurd (omega (arith, less))
there q first (script ∷ scripts) [] ran i less = absurd ran
there q first (script ∷ scripts) (p ∷ ps) ran zero less =
    ap (λ b. b || list_any (λ p. p.thread == first + zero) (passes_of ps))
    (eq-eqb p.pass.thread (first + zero) (let e : first ≡ first + zero = omega arith in ran.0.thread_is ∙ e))
there q first (script ∷ scripts) (p ∷ ps) ran (suc i) less =
    let e : suc first + i ≡ first + suc i = omega arith in
    any_more (p.pass.thread == first + suc i) _
    (subst (λ (t : ℕ). list_any (λ p. p.thread == t) (passes_of ps) ≡ true) e
    (there q (suc first) scripts ps ran.1 i (omega (arith, less))))

complete : (q : OpenQueue) (scripts : List (List Begin)) (ps : List Logged) → EachRan q 0 scripts ps
    → IsComplete (length scripts) (passes_of ps)
complete q scripts ps ran = record {
  count = counted q 0 scripts ps ran;
  each = λ thread less. subst (λ (t : ℕ). list_any (λ p. p.thread == t) (passes_of ps) ≡ true) (zero-add thread)
      (there q 0 scripts ps ran thread less);
}

pub complete_for : (passed : ℕ → ℕ → Type 0) (shape : Shape) (scripts : List (List Begin)) (q : OpenQueue)
    (olds news : List Logged) → IsOpenFor shape scripts q olds
    → EachMakes passed scripts olds news → IsComplete q.opened.threads (passes_of news)
complete_for passed shape scripts q olds news opened made =
    subst (λ (n : ℕ). IsComplete n (passes_of news)) (sym (ap (λ (o : Opening). o.threads) opened.opened))
    (complete q scripts news (ran_by passed shape scripts q olds news opened made))

-- ---- the calls of all logs

below : (q : OpenQueue) (first : ℕ) (scripts : List (List Begin)) (ps : List Logged) → EachRan q first scripts ps
    → AllByRecursion (λ c. c.thread < first + length scripts) (all_logs ps)
below q first [] [] ran = tt
below q first [] (p ∷ ps) ran = absurd ran
below q first (script ∷ scripts) [] ran = absurd ran
below q first (script ∷ scripts) (p ∷ ps) ran =
    AllByRecursion-append (λ (c : Call). c.thread < first + length (script ∷ scripts)) p.log (all_logs ps)
    (AllByRecursion-weaker (λ (c : Call). c.thread ≡ first) (λ c. c.thread < first + length (script ∷ scripts))
    (λ c is. omega (arith, is))
    p.log ran.0.mine)
    (AllByRecursion-weaker (λ (c : Call). c.thread < suc first + length scripts)
    (λ c. c.thread < first + length (script ∷ scripts))
    (λ c less. omega (arith, less)) (all_logs ps) (below q (suc first) scripts ps ran.1))

all_ended : (q : OpenQueue) (first : ℕ) (scripts : List (List Begin)) (ps : List Logged) → EachRan q first scripts ps
    → AllByRecursion (λ c. IsSome c.end) (all_logs ps)
all_ended q first [] [] ran = tt
all_ended q first [] (p ∷ ps) ran = absurd ran
all_ended q first (script ∷ scripts) [] ran = absurd ran
all_ended q first (script ∷ scripts) (p ∷ ps) ran =
    AllByRecursion-append (λ (c : Call). IsSome c.end) p.log (all_logs ps) ran.0.ended
    (all_ended q (suc first) scripts ps ran.1)

-- so it is of the calls in any other order
shuffled : (P : Call → Type 0) (xs ys : List Call) → IsPermutation xs ys → AllByRecursion P xs → AllByRecursion P ys
shuffled P xs ys same each = recursion_from_All P ys (All-permutation P xs ys same (All-from_recursion P xs each))

-- ---- the calls of a thread

calls_of_none : (thread : ℕ) (calls : List Call) → AllByRecursion (λ c. c.thread < thread) calls
    → calls_by thread calls ≡ []
calls_of_none thread [] all = refl
calls_of_none thread (c ∷ calls) all =
    ap (λ b. cond b (c ∷ calls_by thread calls) (calls_by thread calls))
    (ne_eqb c.thread thread (λ same. let less = all.0 in absurd (omega (arith, same, less))))
    ∙ calls_of_none thread calls all.1

ops_of : (q : OpenQueue) (first : ℕ) (scripts : List (List Begin)) (ps : List Logged) (h : List Call)
    → EachRan q first scripts ps
    → AllByRecursion (λ p. calls_by p.pass.thread h ≡ p.log) ps
    → (i : ℕ) → i < length scripts → map (λ (c : Call). c.op) (calls_by (first + i) h)
    ≡ map op_asked (get_or scripts i [])
ops_of q first [] ps h ran logs i less = absurd (omega (arith, less))
ops_of q first (script ∷ scripts) [] h ran logs i less = absurd ran
ops_of q first (script ∷ scripts) (p ∷ ps) h ran logs zero less =
    let e : first + zero ≡ first = omega arith in
    ap (λ t. map (λ (c : Call). c.op) (calls_by t h)) (e ∙ sym ran.0.thread_is)
    ∙ ap (λ calls. map (λ (c : Call). c.op) calls) logs.0
    ∙ ran.0.ops
ops_of q first (script ∷ scripts) (p ∷ ps) h ran logs (suc i) less =
    let e : first + suc i ≡ suc first + i = omega arith in
    ap (λ t. map (λ (c : Call). c.op) (calls_by t h)) e
    ∙ ops_of q (suc first) scripts ps h ran.1 logs.1 i (omega (arith, less))

own_ops : (q : OpenQueue) (scripts : List (List Begin)) (ps : List Logged) (h : List Call) → EachRan q 0 scripts ps
    → AllByRecursion (λ p. calls_by p.pass.thread h ≡ p.log) ps → IsPermutation (all_logs ps) h
    → (thread : ℕ) → (thread < length scripts) ⊎ (length scripts ≤ thread)
    → map (λ (c : Call). c.op) (calls_by thread h) ≡ map op_asked (script_of scripts thread)
own_ops q scripts ps h ran logs same thread (inl less) =
    ap (λ t. map (λ (c : Call). c.op) (calls_by t h)) (sym (zero-add thread))
    ∙ ops_of q 0 scripts ps h ran logs thread less
own_ops q scripts ps h ran logs same thread (inr past) =
    ap (λ calls. map (λ (c : Call). c.op) calls)
    (calls_of_none thread h (AllByRecursion-weaker (λ (c : Call). c.thread < length scripts) (λ c. c.thread < thread)
    (λ c less. omega (arith, less, past)) h
    (shuffled (λ c. c.thread < length scripts) (all_logs ps) h same
    (subst (λ (n : ℕ). AllByRecursion (λ c. c.thread < n) (all_logs ps)) (zero-add (length scripts))
    (below q 0 scripts ps ran)))))
    ∙ sym (ap (map op_asked) (get_or_past scripts thread [] past))

-- ---- how many they are

logged : (q : OpenQueue) (first : ℕ) (scripts : List (List Begin)) (ps : List Logged) (most room : ℕ)
    → EachRan q first scripts ps
    → fold (λ a (script : List Begin). max a (length script)) most scripts ≤ room
    → length (all_logs ps) ≤ length scripts * room
logged q first [] [] most room ran few = omega arith
logged q first [] (p ∷ ps) most room ran few = absurd ran
logged q first (script ∷ scripts) [] most room ran few = absurd ran
logged q first (script ∷ scripts) (p ∷ ps) most room ran few =
    let rest = logged q (suc first) scripts ps (max most (length script)) room ran.1 few in
    let here : length p.log ≡ length script =
    sym (length-map p.log (λ (c : Call). c.op)) ∙ ap (λ (ops : List Op). length ops) ran.0.ops
    ∙ length-map script op_asked in
    let short : length script ≤ room = let more = at_least (max most (length script)) scripts in
    omega (arith, more, few) in
    let all = length-append p.log (all_logs ps) in
    let step : suc (length scripts) * room ≡ length scripts * room + room = suc-mul (length scripts) room in
    omega (arith, rest, here, short, all, step)

pub few_calls : (passed : ℕ → ℕ → Type 0) (shape : Shape) (scripts : List (List Begin)) (q : OpenQueue)
    (olds ps : List Logged) (h : List Call)
    → IsOpenFor shape scripts q olds → EachMakes passed scripts olds ps → Gathers q.opened ps h
    → ((length scripts ≡ 0) ⊎ (64 < length scripts) → ⊥)
    → ((0 < length scripts) × (length scripts ≤ 64) × (1024 < longest scripts) → ⊥)
    → length h ≤ 65536
few_calls passed shape scripts q olds ps h opened made gathers no_other no_more =
    let threads : length scripts ≤ 64 = elim (cases_lt 64 (length scripts)) [
      | inl more ↦ absurd (no_other (inr more))
      | inr few ↦ few
    ] in
    let some : 0 < length scripts = elim (cases_lt 0 (length scripts))
    [ inl more ↦ more | inr few ↦ absurd (no_other (inl (omega (arith, few)))) ] in
    let calls : longest scripts ≤ 1024 = elim (cases_lt 1024 (longest scripts))
    [ inl more ↦ absurd (no_more (some, threads, more)) | inr few ↦ few ] in
    let ran = ran_by passed shape scripts q olds ps opened made in
    let all = logged q 0 scripts ps 0 1024 ran calls in
    let same = length_permutation (all_logs ps) h gathers.each_once in
    omega (arith, all, same, threads)

-- The record
pub recorded : (passed : ℕ → ℕ → Type 0) (shape : Shape) (scripts : List (List Begin)) (q : OpenQueue)
    (fresh ps : List Logged) (h : List Call)
    → IsOpenFor shape scripts q fresh → EachMakes passed scripts fresh ps → Gathers q.opened ps h
    → IsRecord passed shape scripts h
recorded passed shape scripts q fresh ps h opened made gathers =
    let ran = ran_by passed shape scripts q fresh ps opened made in
    let g : Gathers (stamped_opening shape (length scripts) (room_for scripts)) ps h =
    subst (λ o. Gathers o ps h) opened.opened gathers in
    record {
      queue = q;
      fresh = fresh;
      opened = opened;
      passes = ps;
      made = made;
      gathers = g;
      ops = λ thread. own_ops q scripts ps h ran g.each_log g.each_once thread (cases_lt thread (length scripts));
      ended = shuffled (λ c. IsSome c.end) (all_logs ps) h g.each_once (all_ended q 0 scripts ps ran);
    }
