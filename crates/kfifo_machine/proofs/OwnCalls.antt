-- What a complete execution of a call adds to the calls of its thread: that call alone.
use Rattle.std.proofs.Common.{◌≡◌, ◌≢◌, ℕ, ◌+◌, ◌<◌, ◌≤◌, List, [], ◌∷◌, ◌++◌, length, get_or, set, Option, Some, None}
use Rattle.std.proofs.Common.{Result, Ok, refl, sym, ap, ◌∙◌, subst, inl, inr, arith, length-append, append_assoc}
use Rattle.std.proofs.lemmas.Bool.{cases_eq, cases_lt}
use Rattle.std.proofs.lemmas.Grind.{get_or-set_at}
use Rattle.std.proofs.lemmas.List.{get_or-set_other, length-set}
use Rattle.kfifo_machine.proofs.Types.{Answer, Begin, Event, NotEnabled, Outcome, Shape}
use Rattle.kfifo_model.specs.declared.calls.Op.TheVariants as O
use Rattle.kfifo_model.specs.declared.calls.Call.{Call}
use Rattle.kfifo_model.specs.Histories.{call, no_call}
use Rattle.kfifo_machine.specs.declared.event.Begin.TheVariants as B
use Rattle.kfifo_machine.specs.declared.event.Outcome.TheVariants.{Went, Ended}
use Rattle.kfifo_machine.specs.Program.{advance}
use Rattle.kfifo_machine.specs.Machine.{World, opening, place_of, place_after, found, begun, step, world_of, run, after}
use Rattle.kfifo_machine.specs.Runs.{event, own, going, AllGoOn, CompleteExecution}
use Rattle.kfifo_machine.specs.Calls.{Log, ended, logged, logged_by, log_from, blank, log_of, history_of, op_asked}
use Rattle.kfifo_machine.proofs.Schedules.{Some-injective, run_on, run_before, own-append, first_made, made_within}
use Rattle.kfifo_machine.proofs.Schedules.{stepped, own_none}
use Rattle.kfifo_machine.proofs.Budget.{own_place, own_first, goes_on_from}
use Rattle.kfifo_machine.proofs.Sound.{IsSound, step_sound, sound}
use Rattle.kfifo_machine.proofs.Calls.{step_log, run_log, log_is, log-snoc}
use Rattle.kfifo_machine.proofs.LogSteps.{opened, call-before, call-new, length-more, IsLog}
use Rattle.kfifo_machine.proofs.Paths.{answered, none_after, begins_from, never_at_once}
use Rattle.kfifo_machine.proofs.BusyIsDisturbed.{own_single}

-- The calls of a thread stay as they were, and none comes: neither behind the old ones nor, as `mine` says, in place of
-- another's.
-- Without `mine` two such changes in turn could bring one
pub record KeepsCalls (thread : ℕ) (old new : List Call) : Type 0 where
  pub longer : length old ≤ length new
  pub same : (n : ℕ) → n < length old → (call old n).thread ≡ thread → call new n ≡ call old n
  pub mine : (n : ℕ) → n < length old → (call new n).thread ≡ thread → (call old n).thread ≡ thread
  pub none : (n : ℕ) → n < length new → (call new n).thread ≡ thread → n < length old

-- They stay as they were, and this one comes
pub record AddsCall (thread : ℕ) (old new : List Call) (made : Call) : Type 0 where
  pub number : ℕ
  pub beyond : length old ≤ number
  pub within : number < length new
  pub is : call new number ≡ made
  pub same : (n : ℕ) → n < length old → (call old n).thread ≡ thread → call new n ≡ call old n
  pub mine : (n : ℕ) → n < length old → (call new n).thread ≡ thread → (call old n).thread ≡ thread
  pub none : (n : ℕ) → n < length new → (call new n).thread ≡ thread → n ≢ number → n < length old

-- What a complete execution adds: events of others, then the first event of the call, and the last event of all ends it
pub record RunAdds (shape : Shape) (threads thread : ℕ) (begin : Begin) (answer : Answer) (old new : List Event) : Type
    0 where
  pub before : List Event
  pub rest : List Event
  pub split : new ≡ (old ++ before) ++ event thread (Some begin) ∷ rest
  pub quiet : own thread before ≡ []
  pub last_place : ℕ
  pub last_is : last_place + 1 ≡ length new
  pub adds : AddsCall thread (history_of shape threads old) (history_of shape threads new)
      (record {
        thread = thread;
        op = op_asked begin;
        first = length (old ++ before);
        end = Some (record { last = last_place; answer = answer });
      })

keeps_same : (thread : ℕ) (calls : List Call) → KeepsCalls thread calls calls
keeps_same thread calls = record {
  longer = omega arith;
  same = λ n less mine. refl;
  mine = λ n less mine. mine;
  none = λ n less mine. less;
}

pub keeps_trans : (thread : ℕ) (a b c : List Call) → KeepsCalls thread a b → KeepsCalls thread b c
    → KeepsCalls thread a c
keeps_trans thread a b c first second =
    let ab : length a ≤ length b = first.longer in
    let bc : length b ≤ length c = second.longer in
    record {
      longer = omega arith;
      same = λ n less mine.
          let at : call b n ≡ call a n = first.same n less mine in
          second.same n (omega arith) (ap (λ (x : Call). x.thread) at ∙ mine) ∙ at;
      mine = λ n less mine. first.mine n less (second.mine n (omega arith) mine);
      none = λ n less mine. let low : n < length b = second.none n less mine in
          first.none n low (second.mine n low mine);
    }

-- another thread begins a call
begin_keeps : (thread : ℕ) (old : List Call) (made : Call) → thread ≢ made.thread
    → KeepsCalls thread old (old ++ made ∷ [])
begin_keeps thread old made apart =
    let size : length (old ++ made ∷ []) ≡ length old + 1 = length-more old made in
    record {
      longer = omega arith;
      same = λ n less mine. call-before old made n less;
      mine = λ n less mine. ap (λ (x : Call). x.thread) (sym (call-before old made n less)) ∙ mine;
      none = λ n less mine. elim (cases_lt n (length old)) [
        | inl low ↦ low
        | inr high ↦
            let last : n ≡ length old = omega arith in
            absurd (apart (sym mine ∙ ap (λ (x : Call). x.thread) (call-new old made n last)))
      ];
    }

-- another thread's call ends
end_keeps : (thread number now : ℕ) (old : List Call) (answer : Answer) → thread ≢ (call old number).thread
    → KeepsCalls thread old (set old number (ended (call old number) now answer))
end_keeps thread number now old answer apart =
    let size : length (set old number (ended (call old number) now answer)) ≡ length old =
    length-set old number (ended (call old number) now answer) in
    record {
      longer = omega arith;
      same = λ n less mine. get_or-set_other old number n (ended (call old number) now answer) no_call
          (λ at. apart (sym mine ∙ ap (λ (m : ℕ). (call old m).thread) at));
      mine = λ n less mine. elim (cases_eq n number) [
        | inl at ↦
            let this : call (set old number (ended (call old number) now answer)) n
            ≡ ended (call old number) now answer =
            get_or-set_at old number n (ended (call old number) now answer) no_call at
            (subst (λ (m : ℕ). m < length old) at less) in
            absurd (apart (sym mine ∙ ap (λ (x : Call). x.thread) this))
        | inr ne ↦ ap (λ (x : Call). x.thread)
            (sym (get_or-set_other old number n (ended (call old number) now answer) no_call ne)) ∙ mine
      ];
      none = λ n less mine. omega arith;
    }

-- an event of another thread keeps the calls of this one
logged_keeps : (thread now by : ℕ) (begin : Option Begin) (outcome : Outcome) (log : Log) → thread ≢ by
    → (begin ≡ None → (call log.calls (get_or log.latest by 0)).thread ≡ by)
    → KeepsCalls thread log.calls (logged now by begin outcome log).calls
logged_keeps thread now by (Some (B.Enqueue item start turns)) outcome log apart its =
    begin_keeps thread log.calls (opened now by (O.Enqueue item)) apart
logged_keeps thread now by (Some (B.Dequeue start turns)) outcome log apart its =
    begin_keeps thread log.calls (opened now by O.Dequeue) apart
logged_keeps thread now by (Some B.Tick) outcome log apart its = keeps_same thread log.calls
logged_keeps thread now by (Some B.Seal) outcome log apart its = keeps_same thread log.calls
logged_keeps thread now by None Went log apart its = keeps_same thread log.calls
logged_keeps thread now by None (Ended answer) log apart its =
    end_keeps thread (get_or log.latest by 0) now log.calls answer (λ same. apart (same ∙ its refl))

other_keeps : (shape : Shape) (threads thread : ℕ) (here : World) (e : Event) (there : World) (outcome : Outcome)
    (now : ℕ) (log : Log)
    → IsLog threads here now log → thread ≢ e.thread
    → step shape here e ≡ Ok (there, outcome)
    → KeepsCalls thread log.calls (logged now e.thread e.begin outcome log).calls
other_keeps shape threads thread here e there outcome now log is apart made =
    logged_keeps thread now e.thread e.begin outcome log apart
    (λ none. let k = goes_on_from shape here e there outcome made none in (is.running_calls e.thread k.0 k.1).mine)

-- an event keeps the calls, and so do those after it
then_keeps : (shape : Shape) (thread : ℕ) (here : World) (e : Event) (next : World) (outcome : Outcome)
    (es : List Event) (now : ℕ) (log : Log) → step shape here e ≡ Ok (next, outcome)
    → KeepsCalls thread log.calls (logged now e.thread e.begin outcome log).calls
    → KeepsCalls thread (logged now e.thread e.begin outcome log).calls
    (log_from shape (Some next) (now + 1) es (logged now e.thread e.begin outcome log)).calls
    → KeepsCalls thread log.calls (log_from shape (Some here) now (e ∷ es) log).calls
then_keeps shape thread here e next outcome es now log made first later =
    subst (λ (r : Result (World × Outcome) NotEnabled).
    KeepsCalls thread log.calls (log_from shape (world_of r) (now + 1) es (logged_by now e r log)).calls) (sym made)
    (keeps_trans thread log.calls (logged now e.thread e.begin outcome log).calls
    (log_from shape (Some next) (now + 1) es (logged now e.thread e.begin outcome log)).calls first later)

-- events of others keep the calls of a thread
others_from : (shape : Shape) (threads thread : ℕ) (here there : World) (events : List Event) (now : ℕ) (log : Log)
    → threads ≤ 64
    → IsLog threads here now log → own thread events ≡ []
    → run shape (Some here) events ≡ Some there
    → KeepsCalls thread log.calls (log_from shape (Some here) now events log).calls
others_from shape threads thread here there [] now log few is quiet runs = keeps_same thread log.calls
others_from shape threads thread here there (e ∷ es) now log few is quiet runs =
    let m = first_made shape here e there es runs in
    let n = own_none thread e es quiet in
    let next : IsLog threads m.0 (now + 1) (logged now e.thread e.begin m.1.0 log) =
    step_log shape threads here e m.0 m.1.0 now log is few m.1.1.0 in
    then_keeps shape thread here e m.0 m.1.0 es now log m.1.1.0 (other_keeps shape threads thread here e m.0 m.1.0 now
    log is n.0 m.1.1.0)
    (others_from shape threads thread m.0 there es (now + 1) (logged now e.thread e.begin m.1.0 log) few next n.1
    m.1.1.1)

-- the log of a longer schedule
log-append : (shape : Shape) (world here : World) (now place : ℕ) (xs ys : List Event) (log : Log)
    → now + length xs ≡ place
    → run shape (Some world) xs ≡ Some here
    → log_from shape (Some world) now (xs ++ ys) log
    ≡ log_from shape (Some here) place ys (log_from shape (Some world) now xs log)
log-append shape world here now place [] ys log at is =
    let z : now ≡ place = omega arith in
    ap (λ (w : World). log_from shape (Some w) now ys log) (Some-injective world here is)
    ∙ ap (λ (n : ℕ). log_from shape (Some here) n ys log) z
log-append shape world here now place (x ∷ xs) ys log at is =
    let m = first_made shape world x here xs is in
    let next : world_of (step shape world x) ≡ Some m.0 = ap world_of m.1.1.0 in
    let all : log_from shape (Some m.0) (now + 1) (xs ++ ys) (logged_by now x (step shape world x) log)
    ≡ log_from shape (Some here) place ys
    (log_from shape (Some m.0) (now + 1) xs (logged_by now x (step shape world x) log)) =
    log-append shape m.0 here (now + 1) place xs ys (logged_by now x (step shape world x) log) (omega arith) m.1.1.1 in
    ap (λ (w : Option World). log_from shape w (now + 1) (xs ++ ys) (logged_by now x (step shape world x) log)) next
    ∙ all
    ∙ ap (λ (w : Option World). log_from shape (Some here) place ys
    (log_from shape w (now + 1) xs (logged_by now x (step shape world x) log))) (sym next)

log_of-append : (shape : Shape) (threads : ℕ) (here : World) (xs ys : List Event) → after shape threads xs ≡ Some here
    → log_of shape threads (xs ++ ys) ≡ log_from shape (Some here) (length xs) ys (log_of shape threads xs)
log_of-append shape threads here xs ys is =
    log-append shape (opening shape threads) here 0 (length xs) xs ys (blank threads) (omega arith) is

-- A schedule that goes on with events of others keeps the calls of a thread
pub others_keep : (shape : Shape) (threads thread : ℕ) (seen more : List Event) (here there : World) → threads ≤ 64
    → after shape threads seen ≡ Some here → run shape (Some here) more ≡ Some there
    → own thread more ≡ [] → KeepsCalls thread (history_of shape threads seen) (history_of shape threads (seen ++ more))
others_keep shape threads thread seen more here there few is runs quiet =
    subst (λ (log : Log). KeepsCalls thread (history_of shape threads seen) log.calls)
    (sym (log_of-append shape threads here seen more is))
    (others_from shape threads thread here there more (length seen) (log_of shape threads seen) few
    (log_is shape threads seen here few is)
    quiet runs)

-- A tick of the thread keeps them too
pub tick_keeps : (shape : Shape) (threads thread : ℕ) (seen : List Event) (here there : World) (outcome : Outcome)
    → after shape threads seen ≡ Some here
    → step shape here (event thread (Some B.Tick)) ≡ Ok (there, outcome)
    → KeepsCalls thread (history_of shape threads seen)
    (history_of shape threads (seen ++ event thread (Some B.Tick) ∷ []))
tick_keeps shape threads thread seen here there outcome is made =
    let log : Log = log_of shape threads seen in
    let more : log_of shape threads (seen ++ event thread (Some B.Tick) ∷ []) ≡ log =
    log_of-append shape threads here seen (event thread (Some B.Tick) ∷ []) is
    ∙ ap (λ (r : Result (World × Outcome) NotEnabled).
    log_from shape (world_of r) (length seen + 1) [] (logged_by (length seen) (event thread (Some B.Tick)) r log))
    made in
    subst (λ (x : Log). KeepsCalls thread log.calls x.calls) (sym more) (keeps_same thread log.calls)

-- a thread whose call has ended is idle
ended_idle : (shape : Shape) (here : World) (e : Event) (there : World) (answer : Answer)
    → step shape here e ≡ Ok (there, Ended answer)
    → place_of there e.thread ≡ None
ended_idle shape here e there answer made =
    elim (stepped shape here e there (Ended answer) made) [
      | inl s ↦
          ap (λ (w : World). place_of w e.thread) s.there_is
          ∙ own_place shape here e.thread s.running (made_within shape here e there (Ended answer) made)
          ∙ ap place_after (answered (advance shape s.running (found shape here s.running)) answer s.outcome_is)
      | inr t ↦ absurd (let h : Ended answer ≡ Went = t.outcome_is in cc)
    ]

-- a thread that has ticked or sealed is idle
outside_idle : (shape : Shape) (here : World) (e : Event) (there : World) (outcome : Outcome) (begin : Begin)
    → step shape here e ≡ Ok (there, outcome) → e.begin ≡ Some begin → begun begin ≡ None
    → place_of there e.thread ≡ None
outside_idle shape here e there outcome begin made begins none =
    elim (stepped shape here e there outcome made) [
      | inl s ↦ absurd (let h : None ≡ Some s.running = sym none
          ∙ begins_from shape (place_of here e.thread) begin s.running
          (ap (going shape (place_of here e.thread)) (sym begins) ∙ s.goes) in cc)
      | inr t ↦ t.leaves e.thread ∙ t.idle
    ]

-- The events of a call up to its last, which is still to come
module _ (shape : Shape) (threads thread : ℕ) (few : threads ≤ 64) (last : Event) (there : World)
    (mine : last.thread ≡ thread) where
  -- an own event that begins nothing does not end the call, and so keeps the calls
  own_keeps : (here next : World) (e : Event) (outcome : Outcome) (es : List Event) (now : ℕ) (log : Log)
      → IsSound shape next
      → step shape here e ≡ Ok (next, outcome) → e.thread ≡ thread → e.begin ≡ None
      → AllGoOn (own thread (es ++ last ∷ [])) → run shape (Some next) (es ++ last ∷ []) ≡ Some there
      → KeepsCalls thread log.calls (logged now e.thread e.begin outcome log).calls
  own_keeps here next e Went es now log safe made own_is none on runs =
      subst (λ (b : Option Begin). KeepsCalls thread log.calls (logged now e.thread b Went log).calls) (sym none)
      (keeps_same thread log.calls)
  own_keeps here next e (Ended answer) es now log safe made own_is none on runs =
      absurd (none_after shape next there thread es last safe (ap (place_of next) (sym own_is) ∙ ended_idle shape here e
      next answer made)
      mine on runs)

  call_from : (here : World) (events : List Event) (now : ℕ) (log : Log) → IsSound shape here
      → IsLog threads here now log
      → AllGoOn (own thread (events ++ last ∷ []))
      → run shape (Some here) (events ++ last ∷ []) ≡ Some there
      → KeepsCalls thread log.calls (log_from shape (Some here) now events log).calls
  call_from here [] now log safe is on runs = keeps_same thread log.calls
  call_from here (e ∷ es) now log safe is on runs =
      let m = first_made shape here e there (es ++ last ∷ []) runs in
      let next_safe : IsSound shape m.0 = step_sound shape here e m.0 m.1.0 safe m.1.1.0 in
      let next : IsLog threads m.0 (now + 1) (logged now e.thread e.begin m.1.0 log) =
      step_log shape threads here e m.0 m.1.0 now log is few m.1.1.0 in
      elim (own_first thread e (es ++ last ∷ [])) [
        | inl own_is ↦
            let both : (e.begin ≡ None) × AllGoOn (own thread (es ++ last ∷ [])) = subst AllGoOn own_is.1 on in
            then_keeps shape thread here e m.0 m.1.0 es now log m.1.1.0
            (own_keeps here m.0 e m.1.0 es now log next_safe m.1.1.0 own_is.0 both.0 both.1 m.1.1.1)
            (call_from m.0 es (now + 1) (logged now e.thread e.begin m.1.0 log) next_safe next both.1 m.1.1.1)
        | inr other ↦
            then_keeps shape thread here e m.0 m.1.0 es now log m.1.1.0
            (other_keeps shape threads thread here e m.0 m.1.0 now log is other.0 m.1.1.0)
            (call_from m.0 es (now + 1) (logged now e.thread e.begin m.1.0 log) next_safe next
            (subst AllGoOn other.1 on) m.1.1.1)
      ]

-- What a call leaves of the calls of its thread: it was added to b, and at the end it was set
adds_between : (thread : ℕ) (a b c : List Call) (open_call closed : Call) → open_call.thread ≡ thread
    → KeepsCalls thread a b
    → KeepsCalls thread (b ++ open_call ∷ []) c
    → AddsCall thread a (set c (length b) closed) closed
adds_between thread a b c open_call closed its first second =
    let ab : length a ≤ length b = first.longer in
    let bc : length (b ++ open_call ∷ []) ≤ length c = second.longer in
    let size : length (b ++ open_call ∷ []) ≡ length b + 1 = length-more b open_call in
    let same_size : length (set c (length b) closed) ≡ length c = length-set c (length b) closed in
    let else_is : (n : ℕ) → n ≢ length b → call (set c (length b) closed) n ≡ call c n =
    λ n ne. get_or-set_other c (length b) n closed no_call ne in
    let mine_before : (n : ℕ) → n < length b → (call (set c (length b) closed) n).thread ≡ thread
    → (call b n).thread ≡ thread =
    λ n low mine.
    ap (λ (x : Call). x.thread) (sym (call-before b open_call n low))
    ∙ second.mine n (omega arith) (ap (λ (x : Call). x.thread) (sym (else_is n (λ at. absurd (omega arith)))) ∙ mine) in
    record {
      number = length b;
      beyond = ab;
      within = omega arith;
      is = get_or-set_at c (length b) (length b) closed no_call refl (omega arith);
      same = λ n less mine.
          let in_b : call b n ≡ call a n = first.same n less mine in
          let in_more : call (b ++ open_call ∷ []) n ≡ call a n = call-before b open_call n (omega arith) ∙ in_b in
          else_is n (λ at. absurd (omega arith))
          ∙ second.same n (omega arith) (ap (λ (x : Call). x.thread) in_more ∙ mine) ∙ in_more;
      mine = λ n less mine. first.mine n less (mine_before n (omega arith) mine);
      none = λ n less mine ne.
          let low : n < length (b ++ open_call ∷ []) =
          second.none n (omega arith) (ap (λ (x : Call). x.thread) (sym (else_is n ne)) ∙ mine) in
          let lower : n < length b = omega arith in
          first.none n lower (mine_before n lower mine);
    }

-- a call that was begun stands there, as long as the calls of its thread stay
begun_stands : (thread : ℕ) (b c : List Call) (open_call : Call) → open_call.thread ≡ thread
    → KeepsCalls thread (b ++ open_call ∷ []) c
    → call c (length b) ≡ open_call
begun_stands thread b c open_call its keeps =
    let size : length (b ++ open_call ∷ []) ≡ length b + 1 = length-more b open_call in
    let at : call (b ++ open_call ∷ []) (length b) ≡ open_call = call-new b open_call (length b) refl in
    keeps.same (length b) (omega arith) (ap (λ (x : Call). x.thread) at ∙ its) ∙ at

-- the first event of a call adds it
begin_adds : (now thread : ℕ) (begin : Begin) (outcome : Outcome) (log : Log) → begun begin ≢ None
    → (logged now thread (Some begin) outcome log).calls ≡ log.calls ++ opened now thread (op_asked begin) ∷ []
begin_adds now thread (B.Enqueue item start turns) outcome log call_is = refl
begin_adds now thread (B.Dequeue start turns) outcome log call_is = refl
begin_adds now thread B.Tick outcome log call_is = absurd (call_is refl)
begin_adds now thread B.Seal outcome log call_is = absurd (call_is refl)

-- the last event of a call sets it
end_sets : (now thread number : ℕ) (begin : Option Begin) (answer : Answer) (log : Log) (c : Call) → begin ≡ None
    → get_or log.latest thread 0 ≡ number → call log.calls number ≡ c
    → (logged now thread begin (Ended answer) log).calls ≡ set log.calls number (ended c now answer)
end_sets now thread number begin answer log c none at is =
    ap (λ (b : Option Begin). (logged now thread b (Ended answer) log).calls) none
    ∙ ap (λ (n : ℕ). set log.calls n (ended (call log.calls n) now answer)) at
    ∙ ap (λ (x : Call). set log.calls number (ended x now answer)) is

-- the number of a thread's unfinished call is that of the call that it began last
open_number : (threads thread : ℕ) (here : World) (now number : ℕ) (log : Log) (c : Call) → IsLog threads here now log
    → number < length log.calls → call log.calls number ≡ c → c.thread ≡ thread → c.end ≡ None
    → get_or log.latest thread 0 ≡ number
open_number threads thread here now number log c is less at its unfinished =
    let o = is.open_calls number less (ap (λ (x : Call). x.end) at ∙ unfinished) in
    ap (λ (t : ℕ). get_or log.latest t 0) (sym (ap (λ (x : Call). x.thread) at ∙ its)) ∙ o.number

-- A call from its first event to its last adds itself
call_adds : (shape : Shape) (threads thread : ℕ) (here next before there : World) (begin : Begin) (outcome : Outcome)
    (answer : Answer) (rest : List Event) (last : Event) (now : ℕ) (log : Log) (a : List Call) → threads ≤ 64
    → IsSound shape here → IsLog threads here now log → step shape here (event thread (Some begin)) ≡ Ok (next, outcome)
    → run shape (Some next) rest ≡ Some before → step shape before last ≡ Ok (there, Ended answer)
    → last.thread ≡ thread → last.begin ≡ None → AllGoOn (own thread (rest ++ last ∷ []))
    → KeepsCalls thread a log.calls
    → AddsCall thread a (log_from shape (Some here) now (event thread (Some begin) ∷ (rest ++ last ∷ [])) log).calls
    (ended (opened now thread (op_asked begin)) ((now + 1) + length rest) answer)
call_adds shape threads thread here next before there begin outcome answer rest last now log a few safe is made runs
    ends mine none on keeps =
    let first : Event = event thread (Some begin) in
    let asked : Call = opened now thread (op_asked begin) in
    let begun_log : Log = logged now thread (Some begin) outcome log in
    let end_place : ℕ = (now + 1) + length rest in
    let log_before : Log = log_from shape (Some next) (now + 1) rest begun_log in
    let next_safe : IsSound shape next = step_sound shape here first next outcome safe made in
    let is_begun : IsLog threads next (now + 1) begun_log = step_log shape threads here first next outcome now log is
    few made in
    let is_before : IsLog threads before end_place log_before =
    run_log shape threads next before rest (now + 1) begun_log few is_begun runs in
    let to_end : run shape (Some next) (rest ++ last ∷ []) ≡ Some there =
    run_on shape (Some next) before rest (last ∷ []) runs ∙ ap world_of ends in
    let is_call : begun begin ≢ None = λ none. none_after shape next there thread rest last next_safe
    (outside_idle shape here first next outcome begin made refl none) mine on to_end in
    let added : begun_log.calls ≡ log.calls ++ asked ∷ [] = begin_adds now thread begin outcome log is_call in
    let stays : KeepsCalls thread (log.calls ++ asked ∷ []) log_before.calls =
    subst (λ (calls : List Call). KeepsCalls thread calls log_before.calls) added
    (call_from shape threads thread few last there mine next rest (now + 1) begun_log next_safe is_begun on to_end) in
    let stands : call log_before.calls (length log.calls) ≡ asked =
    begun_stands thread log.calls log_before.calls asked refl stays in
    let within : length log.calls < length log_before.calls = let l = stays.longer in
    let s = length-more log.calls asked in omega arith in
    let number : get_or log_before.latest last.thread 0 ≡ length log.calls =
    ap (λ (t : ℕ). get_or log_before.latest t 0) mine
    ∙ open_number threads thread before end_place (length log.calls) log_before asked is_before within stands refl
    refl in
    let at_end : (log_from shape (Some here) now (first ∷ (rest ++ last ∷ [])) log).calls
    ≡ set log_before.calls (length log.calls) (ended asked end_place answer) =
    ap (λ (r : Result (World × Outcome) NotEnabled).
    (log_from shape (world_of r) (now + 1) (rest ++ last ∷ []) (logged_by now first r log)).calls) made
    ∙ ap (λ (x : Log). x.calls) (log-snoc shape next before (now + 1) rest last begun_log runs)
    ∙ ap (λ (r : Result (World × Outcome) NotEnabled). (logged_by end_place last r log_before).calls) ends
    ∙ end_sets end_place last.thread (length log.calls) last.begin answer log_before asked none number stands in
    subst (λ (calls : List Call). AddsCall thread a calls (ended asked end_place answer)) (sym at_end)
    (adds_between thread a log.calls log_before.calls asked (ended asked end_place answer) refl keeps stays)

-- events up to the first own one, and those after it
record FirstOwn (thread : ℕ) (xs : List Event) (y : Event) (ys : List Event) : Type 0 where
  pub before : List Event
  pub rest : List Event
  pub split : xs ≡ before ++ y ∷ rest
  pub quiet : own thread before ≡ []
  pub later : own thread rest ≡ ys

first_own : (thread : ℕ) (xs : List Event) (y : Event) (ys : List Event) → own thread xs ≡ y ∷ ys
    → FirstOwn thread xs y ys
first_own thread [] y ys is = absurd (cc)
first_own thread (e ∷ es) y ys is = elim (own_first thread e es) [
  | inl own_is ↦
      let both : e ∷ own thread es ≡ y ∷ ys = sym own_is.1 ∙ is in
      let same : e ≡ y = cc in
      record { before = []; rest = es; split = ap (λ (x : Event). x ∷ es) same; quiet = refl; later = cc }
  | inr other ↦
      let f = first_own thread es y ys (sym other.1 ∙ is) in
      record {
        before = e ∷ f.before;
        rest = f.rest;
        split = ap (λ (zs : List Event). e ∷ zs) f.split;
        quiet = passed f.before other.0 ∙ f.quiet;
        later = f.later;
      }
]
  where
    passed : (zs : List Event) → thread ≢ e.thread → own thread (e ∷ zs) ≡ own thread zs
    passed zs apart = elim (own_first thread e zs) [ inl own_is ↦ absurd (apart (sym own_is.0)) | inr other ↦ other.1 ]

-- a call's events before its last: those of others, its first, and the rest
record CallEvents (thread : ℕ) (begin : Begin) (between : List Event) (last : Event) : Type 0 where
  pub before : List Event
  pub rest : List Event
  pub split : between ≡ before ++ event thread (Some begin) ∷ rest
  pub quiet : own thread before ≡ []
  pub on : AllGoOn (own thread (rest ++ last ∷ []))
  pub last_on : last.begin ≡ None

last_goes_on : (xs : List Event) (last : Event) → AllGoOn (xs ++ last ∷ []) → last.begin ≡ None
last_goes_on [] last on = on.0
last_goes_on (x ∷ xs) last on = last_goes_on xs last on.1

own-snoc : (thread : ℕ) (xs : List Event) (last : Event) → last.thread ≡ thread
    → own thread (xs ++ last ∷ []) ≡ own thread xs ++ last ∷ []
own-snoc thread xs last mine = own-append thread xs (last ∷ [])
    ∙ ap (λ (ys : List Event). own thread xs ++ ys) (own_single thread last mine)

call_events : (shape : Shape) (threads thread : ℕ) (begin : Begin) (answer : Answer) (old new : List Event)
    (w : CompleteExecution shape threads thread begin answer old new) → CallEvents thread begin w.between w.last
call_events shape threads thread begin answer old new w = by_own (own thread w.between) refl
  where
    all_own : (xs : List Event) → own thread w.between ≡ xs → xs ++ w.last ∷ [] ≡ event thread (Some begin)
        ∷ w.one_call.others
    all_own xs is = ap (λ (ys : List Event). ys ++ w.last ∷ []) (sym is)
        ∙ sym (own-snoc thread w.between w.last w.last_own)
        ∙ w.one_call.first

    by_own : (xs : List Event) → own thread w.between ≡ xs → CallEvents thread begin w.between w.last
    by_own [] is =
        let one : w.last ∷ [] ≡ event thread (Some begin) ∷ w.one_call.others = all_own [] is in
        let begins : w.last.begin ≡ Some begin =
        (let h : w.last ≡ event thread (Some begin) = cc in ap (λ (x : Event). x.begin) h) in
        absurd (never_at_once shape w.before w.last w.world answer begin w.ends begins)
    by_own (y ∷ ys) is =
        let both : y ∷ (ys ++ w.last ∷ []) ≡ event thread (Some begin) ∷ w.one_call.others = all_own (y ∷ ys) is in
        let same : y ≡ event thread (Some begin) = cc in
        let others : ys ++ w.last ∷ [] ≡ w.one_call.others = cc in
        let on : AllGoOn (ys ++ w.last ∷ []) = subst AllGoOn (sym others) w.one_call.go_on in
        let f : FirstOwn thread w.between (event thread (Some begin)) ys =
        first_own thread w.between (event thread (Some begin)) ys (is ∙ ap (λ (e : Event). e ∷ ys) same) in
        record {
          before = f.before;
          rest = f.rest;
          split = f.split;
          quiet = f.quiet;
          on = subst AllGoOn
              (sym (own-snoc thread f.rest w.last w.last_own ∙ ap (λ (zs : List Event). zs ++ w.last ∷ []) f.later)) on;
          last_on = last_goes_on ys w.last on;
        }

-- A complete execution of a call adds that call to those of its thread, and no other
pub run_adds : (shape : Shape) (threads thread : ℕ) (begin : Begin) (answer : Answer) (old new : List Event)
    → threads ≤ 64
    → CompleteExecution shape threads thread begin answer old new
    → RunAdds shape threads thread begin answer old new
run_adds shape threads thread begin answer old new few w =
    let p : CallEvents thread begin w.between w.last = call_events shape threads thread begin answer old new w in
    let first : Event = event thread (Some begin) in
    let start : Option World = Some (opening shape threads) in
    let seen : List Event = old ++ p.before in
    let joined : old ++ w.between ≡ seen ++ first ∷ p.rest =
    ap (λ (xs : List Event). old ++ xs) p.split ∙ sym (append_assoc old p.before (first ∷ p.rest)) in
    let split : new ≡ seen ++ first ∷ (p.rest ++ w.last ∷ []) =
    w.new_is ∙ ap (λ (xs : List Event). xs ++ w.last ∷ []) joined ∙ append_assoc seen (first ∷ p.rest) (w.last ∷ []) in
    let at_first = run_before shape start w.before seen (first ∷ p.rest)
    (ap (run shape start) (sym joined) ∙ w.reached) in
    let at_old = run_before shape start at_first.0 old p.before at_first.1 in
    let m = first_made shape at_first.0 first w.before p.rest at_first.2 in
    let keeps : KeepsCalls thread (history_of shape threads old) (history_of shape threads seen) =
    others_keep shape threads thread old p.before at_old.0 at_first.0 few at_old.1 at_old.2 p.quiet in
    let is_log : IsLog threads at_first.0 (length seen) (log_of shape threads seen) =
    log_is shape threads seen at_first.0 few at_first.1 in
    let log_is_so : log_of shape threads new
    ≡ log_from shape (Some at_first.0) (length seen) (first ∷ (p.rest ++ w.last ∷ []))
    (log_of shape threads seen) =
    ap (log_of shape threads) split ∙ log_of-append shape threads at_first.0 seen (first ∷ (p.rest ++ w.last ∷ []))
    at_first.1 in
    let size : length new ≡ length seen + length (first ∷ (p.rest ++ w.last ∷ [])) =
    ap length split ∙ length-append seen (first ∷ (p.rest ++ w.last ∷ [])) in
    let rest_size : length (p.rest ++ w.last ∷ []) ≡ length p.rest + length (w.last ∷ []) =
    length-append p.rest (w.last ∷ []) in
    record {
      before = p.before;
      rest = p.rest ++ w.last ∷ [];
      split = split;
      quiet = p.quiet;
      last_place = (length seen + 1) + length p.rest;
      last_is = omega arith;
      adds = subst (λ (log : Log). AddsCall thread (history_of shape threads old) log.calls
          (ended (opened (length seen) thread (op_asked begin)) ((length seen + 1) + length p.rest) answer))
          (sym log_is_so)
          (call_adds shape threads thread at_first.0 m.0 w.before w.world begin m.1.0 answer p.rest w.last (length seen)
          (log_of shape threads seen) (history_of shape threads old) few
          (sound shape threads seen at_first.0 at_first.1) is_log m.1.1.0 m.1.1.1 w.ends w.last_own p.last_on p.on
          keeps);
    }
