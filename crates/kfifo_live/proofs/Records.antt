-- The logs of all passes, and the passes alone.
use Rattle.std.proofs.Common.{◌≡◌, ◌≢◌, ℕ, zero, suc, ◌<◌, ◌≤◌, Some, List, [], ◌∷◌, ◌++◌, length, refl, sym, ap, ◌∙◌}
use Rattle.std.proofs.Common.{subst, arith, append_assoc}
use Rattle.std.proofs.lemmas.List.{append-nil}
use Rattle.std.specs.Prelude.{◌==◌, ◌||◌, IsPermutation}
use Rattle.std.specs.List.{list_any, AllByRecursion, All}
use Rattle.std.specs.List.Sorted.{IsNonDecreasingBy}
use Rattle.std.specs.Iterator.{Yields}
use Rattle.std.specs.Vec.Iter.{into_iter_items, into_iter_steps}
use Rattle.std.specs.declared.vec.IntoIter.{IntoIter}
use Rattle.std.proofs.lemmas.List.Elements.{All-head, All-tail}
use Rattle.kfifo_live.proofs.Types.{Call, Event, Opening}
use Rattle.kfifo_model.specs.Lists.{EachPair}
use Rattle.kfifo_model.specs.Histories.{call, no_call}
use Rattle.kfifo_model.specs.Validity.{IsHistory}
use Rattle.kfifo_machine.specs.Machine.{World, opening}
use Rattle.kfifo_machine.specs.Runs.{Begins, own}
use Rattle.kfifo_machine.proofs.OwnCalls.{KeepsCalls, others_keep}
use Rattle.kfifo_machine.proofs.Schedules.{run_before}
use Rattle.kfifo_live.specs.Pass.{AllSeen, Closes, IsComplete, IsPassOf, PassView, OpenQueue, new_passes}
use Rattle.kfifo_live.specs.Promise.{KeepsPromise, calls_of}
use Rattle.kfifo_live.specs.Schedule.{ticks, world_after}
use Rattle.kfifo_live.specs.Stamps.{Gathers, calls_by, HasCalls, IsLog, Logged, all_logs, logged_by, new_logs}
use Rattle.kfifo_live.specs.Stamps.{passes_of}
use Rattle.kfifo_live.proofs.Logs.{has_on}
use Rattle.kfifo_live.proofs.Passes.{keeps_promise}
use Rattle.kfifo_live.proofs.Shuffles.{all_once}
use Rattle.kfifo_live.proofs.Stamping.{IsGoodLog, log_rises, logs_few, logs_history, logs_legal, logs_order, rises}
use Rattle.kfifo_live.proofs.Stamping.{threads_of}
use Rattle.kfifo_live.proofs.Threads.{Has, each_by_has, has_of, log_of_thread, pairs_from}

pub any_of : (t : ℕ) (ps : List Logged) → list_any (λ p. p.pass.thread == t) ps
    ≡ list_any (λ p. p.thread == t) (passes_of ps)
any_of t [] = refl
any_of t (p ∷ ps) = ap (λ b. (p.pass.thread == t) || b) (any_of t ps)

pub passes-length : (ps : List Logged) → length (passes_of ps) ≡ length ps
passes-length [] = refl
passes-length (p ∷ ps) = ap suc (passes-length ps)

pub all_logs-snoc : (ps : List Logged) (p : Logged) → all_logs (ps ++ p ∷ []) ≡ all_logs ps ++ p.log
all_logs-snoc [] p = append-nil p.log
all_logs-snoc (x ∷ ps) p = ap (λ cs. x.log ++ cs) (all_logs-snoc ps p) ∙ sym (append_assoc x.log (all_logs ps) p.log)

pub passes-snoc : (ps : List Logged) (p : Logged) → passes_of (ps ++ p ∷ []) ≡ passes_of ps ++ p.pass ∷ []
passes-snoc [] p = refl
passes-snoc (x ∷ ps) p = ap (λ qs. x.pass ∷ qs) (passes-snoc ps p)

pub new_logs-snoc : (ps : List PassView) (p : PassView) → new_logs (ps ++ p ∷ []) ≡ new_logs ps ++ logged_by p [] ∷ []
new_logs-snoc [] p = refl
new_logs-snoc (x ∷ ps) p = ap (λ qs. logged_by x [] ∷ qs) (new_logs-snoc ps p)

-- what the iterator of a vector has given is a front of its items
pub taken_front : {X A : Type 0} (s : IntoIter X A) (xs : List X) (t : IntoIter X A) → Yields into_iter_steps s xs t
    → into_iter_items s ≡ xs ++ into_iter_items t
taken_front s [] t y = ap into_iter_items y
taken_front s (x ∷ xs) t y = y.1.0 ∙ ap (λ ys. x ∷ ys) (taken_front y.0 xs t y.2)

-- a pass of an opening has seen nothing
pub is_new : (q : OpenQueue) (first count : ℕ) (xs : List PassView) (x : PassView) (ys : List PassView)
    → new_passes q first count ≡ xs ++ x ∷ ys → (x.opened ≡ q.opened) × (x.seen ≡ [])
is_new q first zero [] x ys is = absurd (cc)
is_new q first zero (y ∷ xs) x ys is = absurd (cc)
is_new q first (suc count) [] x ys is =
    let same : record { table = q.table; opened = q.opened; thread = first; seen = [] } ≡ x = cc in
    (ap (λ (k : PassView). k.opened) (sym same), ap (λ (k : PassView). k.seen) (sym same))
is_new q first (suc count) (y ∷ xs) x ys is =
    let rest : new_passes q (suc first) count ≡ xs ++ x ∷ ys = cc in
    is_new q (suc first) count xs x ys rest

-- and its log is empty
pub new_log : (p : PassView) → p.seen ≡ [] → IsLog p []
new_log p none = record {
  count = ap (λ (es : List Event). ticks (own p.thread es)) none;
  room = omega arith;
  mine = tt;
  in_turn = tt;
  past = tt;
  calls = record {
    made = λ i less. absurd (omega arith);
    logged = λ n less mine. absurd (let size : length (calls_of p.opened p.seen)
        ≡ 0 = ap (λ (es : List Event). length (calls_of p.opened es)) none in omega arith);
  };
}

pub new_promise : (p : PassView) → p.seen ≡ [] → p.opened.threads ≤ 64 → KeepsPromise p.opened p.seen
new_promise p none few = subst (KeepsPromise p.opened) (sym none)
    (keeps_promise p.opened [] (opening p.opened.shape p.opened.threads) few refl)

any_thread : (t : ℕ) (ps : List Logged) → list_any (λ y. y == t) (threads_of ps)
    ≡ list_any (λ p. p.thread == t) (passes_of ps)
any_thread t [] = refl
any_thread t (p ∷ ps) = ap (λ b. (p.pass.thread == t) || b) (any_thread t ps)

threads-length : (ps : List Logged) → length (threads_of ps) ≡ length (passes_of ps)
threads-length [] = refl
threads-length (p ∷ ps) = ap suc (threads-length ps)

-- a log in a schedule which what its pass has seen begins
good_log : (o : Opening) (all : List Event) (here : World) → world_after o all ≡ Some here → o.threads ≤ 64
    → (p : Logged)
    → IsLog p.pass p.log → p.pass.opened ≡ o → Begins p.pass.thread p.pass.seen all → IsGoodLog o all p
good_log o all here reached few p is opened b =
    let t = p.pass.thread in
    let seen = p.pass.seen in
    let mid = run_before o.shape (Some (opening o.shape o.threads)) here seen b.rest
    (ap (λ es. world_after o es) (sym b.goes_on) ∙ reached) in
    let keeps = others_keep o.shape o.threads t seen b.rest mid.0 here few mid.1 mid.2 b.no_own in
    record {
      calls = has_on o all seen b.rest b.goes_on t p.log (subst (λ (x : Opening). HasCalls x seen t p.log) opened
          is.calls) (subst (λ (es : List Event). KeepsCalls t (calls_of o seen) (calls_of o es)) (sym b.goes_on) keeps);
      mine = is.mine;
      in_turn = is.in_turn;
    }

good_logs : (q : OpenQueue) (all : List Event) (here : World) → world_after q.opened all ≡ Some here
    → q.opened.threads ≤ 64
    → (ps : List Logged) → AllByRecursion (λ p. IsLog p.pass p.log) ps → All (λ p. IsPassOf q p.pass) ps
    → AllSeen (passes_of ps) all
    → AllByRecursion (IsGoodLog q.opened all) ps
good_logs q all here reached few [] is of seen = tt
good_logs q all here reached few (p ∷ ps) is of seen =
    let mine = All-head (λ p. IsPassOf q p.pass) p ps of in (
      good_log q.opened all here reached few p is.0 mine.1 seen.0,
      good_logs q all here reached few ps is.1 (All-tail (λ p. IsPassOf q p.pass) p ps of) seen.1,
    )

each_mine : (ps : List Logged) → AllByRecursion (λ p. IsLog p.pass p.log) ps
    → AllByRecursion (λ q. AllByRecursion (λ c. c.thread ≡ q.pass.thread) q.log) ps
each_mine [] is = tt
each_mine (p ∷ ps) is = (is.0.mine, each_mine ps is.1)

-- What is gathered when a queue was closed
module _ (q : OpenQueue) (ps : List Logged) (calls h : List Call) (plain : List PassView) (items : List ℕ)
    (few : q.opened.threads ≤ 64) (passes : plain ≡ passes_of ps) (logs : calls ≡ all_logs ps)
    (are_logs : AllByRecursion (λ p. IsLog p.pass p.log) ps) (of : All (λ p. IsPassOf q p.pass) ps)
    (complete : IsComplete q.opened.threads (passes_of ps)) (closed : Closes q plain items)
    (shuffled : IsPermutation calls h) (sorted : IsNonDecreasingBy (λ c. c.first) h) where
  good : AllByRecursion (IsGoodLog q.opened closed.all) ps
  good = good_logs q closed.all closed.world closed.reached few ps are_logs of
      (subst (λ (xs : List PassView). AllSeen xs closed.all) passes closed.begin)

  once : EachPair (λ t u. t ≢ u) (threads_of ps)
  once = (all_once q.opened.threads (threads_of ps) (threads-length ps ∙ complete.count)
      (λ t less. any_thread t ps ∙ complete.each t less)).1

  in_order : IsPermutation (all_logs ps) h
  in_order = subst (λ (cs : List Call). IsPermutation cs h) logs shuffled

  pub gathered_history : IsHistory h
  gathered_history = logs_history q.opened closed.all closed.world closed.reached few ps h good once complete.each
      in_order sorted

  rising : (i j : ℕ) → i < j → j < length h → (call h i).first < (call h j).first
  rising = λ i j lt within. rises q.opened closed.all closed.world closed.reached few ps h good once complete.each
      in_order sorted i j lt within

  own_log : (p : Logged) → Has p ps → calls_by p.pass.thread h ≡ p.log
  own_log p there =
      log_of_thread ps h p there once (each_mine ps are_logs) in_order
      (pairs_from no_call (λ c d. c.first < d.first) h rising)
      (log_rises q.opened closed.all closed.world closed.reached few p
      (has_of (IsGoodLog q.opened closed.all) ps p good there))

  pub gathered : Gathers q.opened ps h
  gathered = record {
    each_once = in_order;
    rising = rising;
    each_log = each_by_has (λ p. calls_by p.pass.thread h ≡ p.log) ps own_log;
    order = logs_order q.opened closed.all closed.world closed.reached few ps h good once complete.each in_order sorted;
    legal = logs_legal q.opened closed.all closed.world closed.reached few ps h good once complete.each in_order sorted;
    few_certainly_overtake = logs_few q.opened closed.all closed.world closed.reached few ps h good once complete.each
        in_order sorted;
  }
