-- The calls of a schedule are a history: they begin in turn, and those of one thread do not overlap.
use Rattle.std.proofs.Common.{◌≡◌, ◌≢◌, ℕ, zero, suc, ◌+◌, ◌<◌, ◌≤◌, List, [], ◌∷◌, ◌++◌, length, get_or, replicate}
use Rattle.std.proofs.Common.{Option, Some, None, Result, Ok, take, Bool, true, false, refl, sym, ap, ◌∙◌, subst, inl}
use Rattle.std.proofs.Common.{inr, arith, cond}
use Rattle.std.proofs.lemmas.List.{length-replicate, length-take-le}
use Rattle.kfifo_machine.proofs.Types.{Answer, Begin, Event, Next, NotEnabled, Outcome, Running, Shape}
use Rattle.kfifo_model.specs.declared.calls.Op.{Op}
use Rattle.kfifo_model.specs.declared.calls.Op.TheVariants as O
use Rattle.kfifo_model.specs.declared.calls.Call.{Call}
use Rattle.kfifo_model.specs.declared.history.RecordFault.{RecordFault}
use Rattle.kfifo_model.specs.declared.history.RecordFault.TheVariants as F
use Rattle.kfifo_model.specs.Histories.{call}
use Rattle.kfifo_model.specs.Validity.{IsFault, Answers}
use Rattle.kfifo_model.specs.Validity.{IsHistory}
use Rattle.kfifo_machine.specs.declared.event.Begin.TheVariants as B
use Rattle.kfifo_machine.specs.declared.place.EnqueuePhase.TheVariants as E
use Rattle.kfifo_machine.specs.declared.place.DequeuePhase.TheVariants as D
use Rattle.kfifo_machine.specs.declared.place.Running.TheVariants as R
use Rattle.kfifo_machine.specs.declared.place.Next.TheVariants as N
use Rattle.kfifo_machine.specs.Program.{advance}
use Rattle.kfifo_machine.specs.Machine.{World, opening, place_of, place_after, outcome_of, found, begun, may_begin}
use Rattle.kfifo_machine.specs.Machine.{step, world_of, run, after}
use Rattle.kfifo_machine.specs.Runs.{going}
use Rattle.kfifo_machine.specs.Calls.{Log, begins, ends, logged, logged_by, log_from, blank, log_of, history_of}
use Rattle.kfifo_machine.proofs.Schedules.{Some-injective, first_made, made_within, stepped, other_place, same_threads}
use Rattle.kfifo_machine.proofs.Schedules.{take-next}
use Rattle.kfifo_machine.proofs.Budget.{own_place, goes_on_from}
use Rattle.kfifo_machine.proofs.LogSteps.{FindsAt, IsAnswer, IsLog, NextFits, begin_log, begun_fits, end_log, fits}
use Rattle.kfifo_machine.proofs.LogSteps.{go_log, idle_log, op_of}

pub may_begun : (shape : Shape) (begin : Begin) (running : Running) (may : Bool) → may_begin shape begin ≡ may
    → cond may (begun begin) None ≡ Some running → FindsAt running × (begun begin ≡ Some running)
may_begun shape begin running true may is = (begun_fits shape begin running may is, is)
may_begun shape begin running false may is = absurd (cc)

pub first_goes : (shape : Shape) (begin : Begin) (running : Running) (word : ℕ) (answer : Answer)
    → begun begin ≡ Some running
    → advance shape running word ≡ N.Answers answer → ⊥
first_goes shape (B.Enqueue item start turns) running word answer is ends =
    let same : R.Enqueue item start turns E.LoadEnds ≡ running = Some-injective _ running is in
    let h : N.Goes (R.Enqueue item start turns (E.ScanTail word 0)) ≡ N.Answers answer =
    ap (λ (r : Running). advance shape r word) same ∙ ends in
    cc
first_goes shape (B.Dequeue start turns) running word answer is ends =
    let same : R.Dequeue start turns D.LoadEnds ≡ running = Some-injective _ running is in
    let h : N.Goes (R.Dequeue start turns (D.ScanHead word 0)) ≡ N.Answers answer =
    ap (λ (r : Running). advance shape r word) same ∙ ends in
    cc
first_goes shape B.Tick running word answer is ends = cc
first_goes shape B.Seal running word answer is ends = cc

-- An event that was made keeps the log
module _ (shape : Shape) (threads : ℕ) (here : World) (e : Event) (there : World) (outcome : Outcome) (now : ℕ)
    (log : Log) (is : IsLog threads here now log) (few : threads ≤ 64)
    (made : step shape here e ≡ Ok (there, outcome)) where
  others : (t : ℕ) → t ≢ e.thread → place_of there t ≡ place_of here t
  others t ne = other_place shape here e there outcome t ne made

  begins_so : (begin : Begin) (op : Op) (running : Running) (next : Next) → place_of here e.thread ≡ None
      → begun begin ≡ Some running
      → FindsAt running → op_of running ≡ op
      → advance shape running (found shape here running) ≡ next → place_of there e.thread ≡ place_after next
      → IsLog threads there (now + 1) (begins now e.thread op log)
  begins_so begin op running (N.Goes next) idle is_begun finds asks goes at =
      let fit : (op_of next ≡ op_of running) × FindsAt next =
      subst (NextFits (op_of running)) goes (fits shape running (found shape here running) finds) in
      begin_log threads here there now e.thread op next log is few (made_within shape here e there outcome made) idle at
      (fit.0 ∙ asks)
      fit.1 others (same_threads shape here e there outcome made)
  begins_so begin op running (N.Answers answer) idle is_begun finds asks goes at =
      absurd (first_goes shape begin running (found shape here running) answer is_begun goes)

  goes_so : (running : Running) (next : Next) → place_of here e.thread ≡ Some running
      → advance shape running (found shape here running) ≡ next → place_of there e.thread ≡ place_after next
      → outcome ≡ outcome_of next
      → IsLog threads there (now + 1) (logged now e.thread None outcome log)
  goes_so running (N.Goes next) was goes at comes =
      let finds : FindsAt running = (is.running_calls e.thread running was).finds in
      let fit : (op_of next ≡ op_of running) × FindsAt next =
      subst (NextFits (op_of running)) goes (fits shape running (found shape here running) finds) in
      subst (λ (o : Outcome). IsLog threads there (now + 1) (logged now e.thread None o log)) (sym comes)
      (go_log threads here there now e.thread log is others (same_threads shape here e there outcome made) running next
      was at fit.0 fit.1)
  goes_so running (N.Answers answer) was goes at comes =
      let finds : FindsAt running = (is.running_calls e.thread running was).finds in
      let right : IsAnswer (op_of running) answer =
      subst (NextFits (op_of running)) goes (fits shape running (found shape here running) finds) in
      subst (λ (o : Outcome). IsLog threads there (now + 1) (logged now e.thread None o log)) (sym comes)
      (end_log threads here there now e.thread running answer log is was at right others
      (same_threads shape here e there outcome made))

  steps_so : (begin : Option Begin) (place : Option Running) (running : Running) → place_of here e.thread ≡ place
      → going shape place begin ≡ Some running
      → place_of there e.thread ≡ place_after (advance shape running (found shape here running))
      → outcome ≡ outcome_of (advance shape running (found shape here running))
      → IsLog threads there (now + 1) (logged now e.thread begin outcome log)
  steps_so None None running was goes at comes = absurd (cc)
  steps_so None (Some r) running was goes at comes =
      goes_so running (advance shape running (found shape here running)) (was ∙ goes) refl at comes
  steps_so (Some begin) (Some r) running was goes at comes = absurd (cc)
  steps_so (Some B.Tick) None running was goes at comes = absurd (cc)
  steps_so (Some B.Seal) None running was goes at comes = absurd (cc)
  steps_so (Some (B.Enqueue item start turns)) None running was goes at comes =
      let k = may_begun shape (B.Enqueue item start turns) running (may_begin shape (B.Enqueue item start turns)) refl
      goes in
      begins_so (B.Enqueue item start turns) (O.Enqueue item) running (advance shape running (found shape here running))
      was k.1 k.0
      (ap op_of (sym (Some-injective _ running k.1))) refl at
  steps_so (Some (B.Dequeue start turns)) None running was goes at comes =
      let k = may_begun shape (B.Dequeue start turns) running (may_begin shape (B.Dequeue start turns)) refl goes in
      begins_so (B.Dequeue start turns) O.Dequeue running (advance shape running (found shape here running)) was k.1 k.0
      (ap op_of (sym (Some-injective _ running k.1))) refl at

  pub step_log : IsLog threads there (now + 1) (logged now e.thread e.begin outcome log)
  step_log =
      elim (stepped shape here e there outcome made) [
        | inl s ↦ steps_so e.begin (place_of here e.thread) s.running refl s.goes
            (ap (λ (w : World). place_of w e.thread) s.there_is
            ∙ own_place shape here e.thread s.running (made_within shape here e there outcome made)) s.outcome_is
        | inr o ↦
            let same : IsLog threads there (now + 1) log =
            idle_log threads here there now e.thread log is others (same_threads shape here e there outcome made)
            (o.leaves e.thread) in
            elim o.by [
              | inl t ↦ subst (λ (b : Option Begin). IsLog threads there (now + 1) (logged now e.thread b outcome log))
                  (sym t.begins) same
              | inr z ↦ subst (λ (b : Option Begin). IsLog threads there (now + 1) (logged now e.thread b outcome log))
                  (sym z.begins) same
            ]
      ]

-- a schedule keeps the log
pub run_log : (shape : Shape) (threads : ℕ) (here there : World) (events : List Event) (now : ℕ) (log : Log)
    → threads ≤ 64
    → IsLog threads here now log → run shape (Some here) events ≡ Some there
    → IsLog threads there (now + length events) (log_from shape (Some here) now events log)
run_log shape threads here there [] now log few is at = rw_place (Some-injective here there at)
  where
    rw_place : here ≡ there → IsLog threads there (now + 0) log
    rw_place same = let z : now ≡ now + 0 = omega arith in
        subst (λ (n : ℕ). IsLog threads there n log) z (subst (λ (w : World). IsLog threads w now log) same is)
run_log shape threads here there (e ∷ es) now log few is at =
    let m = first_made shape here e there es at in
    let next : IsLog threads m.0 (now + 1) (logged now e.thread e.begin m.1.0 log) =
    step_log shape threads here e m.0 m.1.0 now log is few m.1.1.0 in
    let all : IsLog threads there ((now + 1) + length es)
    (log_from shape (Some m.0) (now + 1) es (logged now e.thread e.begin m.1.0 log)) =
    run_log shape threads m.0 there es (now + 1) _ few next m.1.1.1 in
    let places : (now + 1) + length es ≡ now + length (e ∷ es) = omega arith in
    subst (λ (n : ℕ). IsLog threads there n (log_from shape (Some here) now (e ∷ es) log)) places (rw m.1.1.0 all)

get_or-none : (n t : ℕ) (r : Running) → get_or (replicate n None) t None ≡ Some r → ⊥
get_or-none zero t r e = cc
get_or-none (suc n) zero r e = cc
get_or-none (suc n) (suc t) r e = get_or-none n t r e

opening_idle : (shape : Shape) (threads t : ℕ) (r : Running) → place_of (opening shape threads) t ≡ Some r → ⊥
unfolding opening place_of
opening_idle shape threads t r at = get_or-none threads t r at

opening_threads : (shape : Shape) (threads : ℕ) → length (opening shape threads).places ≡ threads
unfolding opening
opening_threads shape threads = length-replicate threads None

opening_log : (shape : Shape) (threads : ℕ) → IsLog threads (opening shape threads) 0 (blank threads)
opening_log shape threads = record {
  history = λ n less. absurd (omega arith);
  past = λ n less. absurd (omega arith);
  open_calls = λ n less unfinished. absurd (omega arith);
  running_calls = λ t r at. absurd (opening_idle shape threads t r at);
  known = length-replicate threads 0;
  threads_are = opening_threads shape threads;
}

-- what the log of a schedule is
pub log_is : (shape : Shape) (threads : ℕ) (events : List Event) (here : World) → threads ≤ 64
    → after shape threads events ≡ Some here
    → IsLog threads here (length events) (log_of shape threads events)
log_is shape threads events here few is =
    let all : IsLog threads here (0 + length events) (log_of shape threads events) =
    run_log shape threads (opening shape threads) here events 0 (blank threads) few (opening_log shape threads) is in
    let z : 0 + length events ≡ length events = omega arith in
    subst (λ (n : ℕ). IsLog threads here n (log_of shape threads events)) z all

-- the calls of a schedule are a history
pub history_is : (shape : Shape) (threads : ℕ) (events : List Event) (here : World) → threads ≤ 64
    → after shape threads events ≡ Some here
    → IsHistory (history_of shape threads events)
history_is shape threads events here few is = (log_is shape threads events here few is).history

-- the log of a schedule with one event more
pub log-snoc : (shape : Shape) (world : World) (here : World) (now : ℕ) (events : List Event) (e : Event) (log : Log)
    → run shape (Some world) events ≡ Some here
    → log_from shape (Some world) now (events ++ e ∷ []) log
    ≡ logged_by (now + length events) e (step shape here e) (log_from shape (Some world) now events log)
log-snoc shape world here now [] e log is =
    let same : world ≡ here = Some-injective world here is in
    let z : now ≡ now + 0 = omega arith in
    ap (λ (w : World). logged_by now e (step shape w e) log) same
    ∙ ap (λ (n : ℕ). logged_by n e (step shape here e) log) z
log-snoc shape world here now (f ∷ fs) e log is =
    let m = first_made shape world f here fs is in
    let rest : log_from shape (Some m.0) (now + 1) (fs ++ e ∷ []) (logged_by now f (step shape world f) log)
    ≡ logged_by ((now + 1) + length fs) e (step shape here e)
    (log_from shape (Some m.0) (now + 1) fs (logged_by now f (step shape world f) log)) =
    log-snoc shape m.0 here (now + 1) fs e (logged_by now f (step shape world f) log) m.1.1.1 in
    let next : world_of (step shape world f) ≡ Some m.0 = ap world_of m.1.1.0 in
    let places : (now + 1) + length fs ≡ now + length (f ∷ fs) = omega arith in
    ap (λ (w : Option World). log_from shape w (now + 1) (fs ++ e ∷ []) (logged_by now f (step shape world f) log)) next
    ∙ rest
    ∙ ap (λ (w : Option World). logged_by ((now + 1) + length fs) e (step shape here e)
    (log_from shape w (now + 1) fs (logged_by now f (step shape world f) log))) (sym next)
    ∙ ap (λ (n : ℕ). logged_by n e (step shape here e)
    (log_from shape (world_of (step shape world f)) (now + 1) fs (logged_by now f (step shape world f) log))) places

-- a history has no fault
pub no_fault : (h : List Call) (fault : RecordFault) → IsHistory h → IsFault h fault → ⊥
no_fault h (F.NumberOutOfRange n) good bad = bad.1 (good n bad.0.0).ranged
no_fault h (F.WrongAnswer n) good bad = bad.2 (good n bad.0.0).answers
no_fault h (F.EndsEarly n) good bad = bad.3 (good n bad.0.0).ends
no_fault h (F.OutOfOrder n) good bad = bad.4 (good n bad.0.0).rises
no_fault h (F.Overlap n) good bad = bad.5 (good n bad.0.0).apart
no_fault h F.NotAList good bad = bad
no_fault h F.TooMany good bad = bad
no_fault h (F.NotACall n) good bad = bad
no_fault h F.Memory good bad = bad

-- the thread of an event that is made is one of the log's
pub log_thread : (shape s : Shape) (threads : ℕ) (events : List Event) (here : World) (e : Event) (there : World)
    (outcome : Outcome) (log : Log) → threads ≤ 64 → after shape threads events ≡ Some here
    → log ≡ log_of shape threads events → step s here e ≡ Ok (there, outcome) → e.thread < length log.latest
log_thread shape s threads events here e there outcome log few at logs made =
    let is = log_is shape threads events here few at in
    let k = is.known in
    let l = is.threads_are in
    let within : e.thread < length here.places = made_within s here e there outcome made in
    let same : length log.latest ≡ length (log_of shape threads events).latest =
    ap (λ (x : Log). length x.latest) logs in
    omega arith

-- where it begins nothing, its call is one of the log's
pub log_call : (shape s : Shape) (threads : ℕ) (events : List Event) (here : World) (e : Event) (there : World)
    (outcome : Outcome) (log : Log) → threads ≤ 64 → after shape threads events ≡ Some here
    → log ≡ log_of shape threads events → step s here e ≡ Ok (there, outcome) → e.begin ≡ None
    → get_or log.latest e.thread 0 < length log.calls
log_call shape s threads events here e there outcome log few at logs made none =
    let is = log_is shape threads events here few at in
    let k = goes_on_from s here e there outcome made none in
    let low : get_or (log_of shape threads events).latest e.thread 0 < length (log_of shape threads events).calls =
    (is.running_calls e.thread k.0 k.1).within in
    subst (λ (x : Log). get_or x.latest e.thread 0 < length x.calls) (sym logs) low

-- the log of the events up to the next place
pub log_goes_on : (shape s : Shape) (threads : ℕ) (events : List Event) (place : ℕ) (d : Event) (here there : World)
    (outcome : Outcome) (log next : Log) → place < length events → s ≡ shape
    → after shape threads (take place events) ≡ Some here → step s here (get_or events place d) ≡ Ok (there, outcome)
    → log ≡ log_of shape threads (take place events)
    → next ≡ logged place (get_or events place d).thread (get_or events place d).begin outcome log
    → next ≡ log_of shape threads (take (place + 1) events)
log_goes_on shape s threads events place d here there outcome log next within same at made logs is =
    let e : Event = get_or events place d in
    let made_so : step shape here e ≡ Ok (there, outcome) = ap (λ (x : Shape). step x here e) (sym same) ∙ made in
    let taken : length (take place events) ≡ place = length-take-le place events (omega arith) in
    let size : 0 + length (take place events) ≡ place = omega arith in
    let more : log_of shape threads (take place events ++ e ∷ [])
    ≡ logged_by (0 + length (take place events)) e (step shape here e) (log_of shape threads (take place events)) =
    log-snoc shape (opening shape threads) here 0 (take place events) e (blank threads) at in
    is
    ∙ ap (logged place e.thread e.begin outcome) logs
    ∙ ap (λ (r : Result (World × Outcome) NotEnabled). logged_by place e r (log_of shape threads (take place events)))
    (sym made_so)
    ∙ ap (λ (n : ℕ). logged_by n e (step shape here e) (log_of shape threads (take place events))) (sym size)
    ∙ sym more
    ∙ ap (log_of shape threads) (sym (take-next events place d within))
