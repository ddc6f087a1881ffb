-- What picks cannot exceed: a thread begins no more calls than its script has, and a schedule has far fewer than 2^64
-- events.
use Rattle.std.proofs.Common.{◌≡◌, ◌≢◌, ℕ, ◌+◌, ◌-◌, ◌*◌, ◌^◌, ◌<◌, ◌≤◌, List, [], ◌∷◌, ◌++◌, length, get_or, take}
use Rattle.std.proofs.Common.{Option, Some, None, Ok, true, cond, refl, sym, ◌∙◌, ap, subst, inl, inr, arith}
use Rattle.std.proofs.Common.{length-append, lit<}
use Rattle.std.specs.Prelude.{sum_by, slice_get}
use Rattle.std.proofs.Math.Nat.{mul-le-mul_right}
use Rattle.std.proofs.lemmas.Bool.{cases_eq, cases_lt}
use Rattle.std.proofs.lemmas.Bool.Decides.{nat_tests}
use Rattle.std.proofs.lemmas.List.{get_or_past, length-set, take_all}
use Rattle.std.proofs.lemmas.Option.{slice_get_within, get_or_from_slice_get}
use Rattle.kfifo_replay.proofs.Types.{Begin, Event, Outcome, Running, Shape}
use Rattle.kfifo_machine.specs.declared.event.Begin.TheVariants as B
use Rattle.kfifo_machine.specs.declared.event.Outcome.TheVariants.{Ended, Went}
use Rattle.kfifo_machine.specs.declared.place.EnqueuePhase.TheVariants as E
use Rattle.kfifo_machine.specs.declared.place.DequeuePhase.TheVariants as D
use Rattle.kfifo_machine.specs.declared.place.Running.TheVariants as R
use Rattle.kfifo_machine.specs.Program.{advance}
use Rattle.kfifo_machine.specs.Machine.{World, opening, place_of, moved, found, outcome_of, may_begin, step, world_of}
use Rattle.kfifo_machine.specs.Machine.{after}
use Rattle.kfifo_machine.specs.Runs.{event, going}
use Rattle.kfifo_machine.specs.Laws.{most_events}
use Rattle.kfifo_machine.specs.Calls.{Log, logged, logged_by, blank, log_of, history_of}
use Rattle.kfifo_machine.proofs.Schedules.{Some-injective, after-snoc, other_place, steps_on}
use Rattle.kfifo_machine.proofs.Sound.{sound, sound_threads}
use Rattle.kfifo_machine.proofs.Budget.{left_of, left_falls, begin_left}
use Rattle.kfifo_machine.proofs.Calls.{log-snoc}
use Rattle.kfifo_linear.specs.Notes.{begins_call, calls_begun}
use Rattle.kfifo_linear.proofs.Base.{get_or_replicate}
use Rattle.kfifo_linear.proofs.Linearizing.{calls_more}
use Rattle.kfifo_replay.specs.Scripts.{IsCall, IsScript, AreScripts, calls_in}
use Rattle.kfifo_replay.specs.Picks.{begun_by, script_of, next_call, event_at, and_then, events_from, events_of}
use Rattle.kfifo_replay.proofs.Sums.{sum_below, same_below, falls_below, term_below, few_below, sum_below-get_or}
use Rattle.kfifo_replay.proofs.Events.{events_from-none, picked_in, how_made, begun_by-goes_on, begun_by-own}
use Rattle.kfifo_replay.proofs.Events.{begun_by-other}

-- a bound on the events of a call
abbrev pub most : ℕ
most = 8978432

few_calls_events : (shape : Shape) (call : Begin) → IsCall shape call → most_events shape call ≤ most
few_calls_events shape (B.Enqueue item start turns) is = few shape turns (omega (arith, is.2))
  where
    few : (shape : Shape) (turns : ℕ) → turns ≤ 65536 → turns * (2 * shape.k + 9) ≤ 8978432
    few shape turns low =
        let slots = shape.few_slots in
        let first : turns * (2 * shape.k + 9) ≤ 65536 * (2 * shape.k + 9) = mul-le-mul_right (2 * shape.k + 9) low in
        omega (arith, first, slots)
few_calls_events shape (B.Dequeue start turns) is = few shape turns (omega (arith, is.2))
  where
    few : (shape : Shape) (turns : ℕ) → turns ≤ 65536 → turns * (2 * shape.k + 9) ≤ 8978432
    few shape turns low =
        let slots = shape.few_slots in
        let first : turns * (2 * shape.k + 9) ≤ 65536 * (2 * shape.k + 9) = mul-le-mul_right (2 * shape.k + 9) low in
        omega (arith, first, slots)
few_calls_events shape B.Tick is = absurd is
few_calls_events shape B.Seal is = absurd is

-- a call of a script may begin
call_begins : (shape : Shape) (call : Begin) → IsCall shape call → (running : Running)
    × (going shape None (Some call) ≡ Some running)
call_begins shape (B.Enqueue item start turns) is =
    let may : may_begin shape (B.Enqueue item start turns) ≡ true = grind (arith, nat_tests, is) in
    let first : Running = R.Enqueue item start turns E.LoadEnds in
    (first, ap (λ b. cond b (Some first) None) may)
call_begins shape (B.Dequeue start turns) is =
    let may : may_begin shape (B.Dequeue start turns) ≡ true = grind (arith, nat_tests, is) in
    let first : Running = R.Dequeue start turns D.LoadEnds in
    (first, ap (λ b. cond b (Some first) None) may)
call_begins shape B.Tick is = absurd is
call_begins shape B.Seal is = absurd is

begins_a_call : (shape : Shape) (call : Begin) → IsCall shape call → begins_call (Some call) ≡ true
begins_a_call shape (B.Enqueue item start turns) is = refl
begins_a_call shape (B.Dequeue start turns) is = refl
begins_a_call shape B.Tick is = absurd is
begins_a_call shape B.Seal is = absurd is

-- how many calls of its script a thread has not begun, and how many events it may still have
abbrev pub left_calls : List (List Begin) → List Event → ℕ → ℕ
left_calls scripts events t = length (script_of scripts t) - begun_by t events

abbrev pub left_events : Shape → List Event → World → ℕ → ℕ
left_events shape events world t = left_of shape.k (place_of world t) + most * (64 - begun_by t events)

pub record IsWithin (shape : Shape) (scripts : List (List Begin)) (events : List Event) (world : World) : Type 0 where
  pub reached : after shape (length scripts) events ≡ Some world
  pub begun : (t : ℕ) → begun_by t events ≤ length (script_of scripts t)
  pub calls : calls_begun events + sum_below (left_calls scripts events) (length scripts) ≤ calls_in scripts
  pub spent : length events + sum_below (left_events shape events world) (length scripts) ≤ length scripts * (most * 64)
  pub known : length (history_of shape (length scripts) events) ≡ calls_begun events

-- the script of a thread is one
pub script_is : (shape : Shape) (scripts : List (List Begin)) (t : ℕ) → AreScripts shape scripts → t < length scripts
    → IsScript shape (script_of scripts t)
script_is shape scripts t are within = are.each t [] within

-- a thread that begins the next call of its script has one
pub next_within : (scripts : List (List Begin)) (t : ℕ) (events : List Event) (call : Begin)
    → next_call scripts t events ≡ Some call
    → t < length scripts
next_within scripts t events call next =
    elim (cases_lt t (length scripts)) [
      | inl within ↦ within
      | inr past ↦
          let none : script_of scripts t ≡ [] = get_or_past scripts t [] past in
          let h : slice_get [] (begun_by t events) ≡ Some call =
          ap (λ (s : List Begin). slice_get s (begun_by t events)) (sym none) ∙ next in
          absurd (cc)
    ]

pub next_is_call : (shape : Shape) (scripts : List (List Begin)) (t : ℕ) (events : List Event) (call : Begin)
    → AreScripts shape scripts
    → next_call scripts t events ≡ Some call → IsCall shape call
next_is_call shape scripts t events call are next =
    let script : IsScript shape (script_of scripts t) =
    script_is shape scripts t are (next_within scripts t events call next) in
    subst (IsCall shape) (get_or_from_slice_get (script_of scripts t) (begun_by t events) call call next)
    (script.calls (begun_by t events) call (slice_get_within (script_of scripts t) (begun_by t events) call next))

-- a thread inside a call is one of the machine's
pub running_within : (shape : Shape) (scripts : List (List Begin)) (t : ℕ) (events : List Event) (world : World)
    (running : Running)
    → after shape (length scripts) events ≡ Some world
    → place_of world t ≡ Some running → t < length scripts
unfolding place_of
running_within shape scripts t events world running reached there =
    let threads : length world.places ≡ length scripts = sound_threads shape (length scripts) events world reached in
    elim (cases_lt t (length world.places)) [
      | inl within ↦ omega (arith, within, threads)
      | inr past ↦ absurd (let h : None ≡ Some running = sym (get_or_past world.places t None past) ∙ there in cc)
    ]

-- the calls of a log with one event more
length-logged : (place thread : ℕ) (begin : Option Begin) (outcome : Outcome) (log : Log)
    → length (logged place thread begin outcome log).calls ≡ length log.calls + cond (begins_call begin) 1 0
length-logged place thread (Some (B.Enqueue item start turns)) outcome log = length-append log.calls _
length-logged place thread (Some (B.Dequeue start turns)) outcome log = length-append log.calls _
length-logged place thread (Some B.Tick) outcome log = let z : length log.calls ≡ length log.calls + 0 =
    omega arith in z
length-logged place thread (Some B.Seal) outcome log = let z : length log.calls ≡ length log.calls + 0 =
    omega arith in z
length-logged place thread None Went log = let z : length log.calls ≡ length log.calls + 0 = omega arith in z
length-logged place thread None (Ended answer) log =
    let z : length log.calls ≡ length log.calls + 0 = omega arith in
    length-set log.calls (get_or log.latest thread 0) _ ∙ z

-- the log with one event more
pub log_more : (shape : Shape) (threads : ℕ) (events : List Event) (world there : World) (outcome : Outcome) (e : Event)
    → after shape threads events ≡ Some world → step shape world e ≡ Ok (there, outcome)
    → log_of shape threads (events ++ e ∷ [])
    ≡ logged (length events) e.thread e.begin outcome (log_of shape threads events)
log_more shape threads events world there outcome e reached made =
    log-snoc shape (opening shape threads) world 0 events e (blank threads) reached
    ∙ ap (λ n. logged_by n e (step shape world e) (log_of shape threads events))
    (let z : 0 + length events ≡ length events = omega arith in z)
    ∙ ap (λ r. logged_by (length events) e r (log_of shape threads events)) made

-- an event that is made, after which what picks cannot exceed is not exceeded
pub record Makes (shape : Shape) (scripts : List (List Begin)) (events : List Event) (world : World) (e : Event) : Type
    0 where
  pub there : World
  pub outcome : Outcome
  pub made : step shape world e ≡ Ok (there, outcome)
  pub thread : e.thread < length scripts
  pub room : begins_call e.begin ≡ true → calls_begun events < calls_in scripts
  pub within : IsWithin shape scripts (events ++ e ∷ []) there

-- what stays to be shown of an event that was made
record Falls (shape : Shape) (scripts : List (List Begin)) (events : List Event) (world there : World)
    (e : Event) : Type 0 where
  pub begun : begun_by e.thread (events ++ e ∷ []) ≤ length (script_of scripts e.thread)
  pub others_begun : (t : ℕ) → t ≢ e.thread → begun_by t (events ++ e ∷ []) ≡ begun_by t events
  pub calls : left_calls scripts (events ++ e ∷ []) e.thread + cond (begins_call e.begin) 1 0 ≤ left_calls scripts
      events e.thread
  pub left : left_events shape (events ++ e ∷ []) there e.thread < left_events shape events world e.thread

within_more : (shape : Shape) (scripts : List (List Begin)) (events : List Event) (world there : World)
    (outcome : Outcome) (e : Event)
    → IsWithin shape scripts events world
    → step shape world e ≡ Ok (there, outcome) → e.thread < length scripts → Falls shape scripts events world there e
    → Makes shape scripts events world e
within_more shape scripts events world there outcome e w made thread f =
    record {
      there = there;
      outcome = outcome;
      made = made;
      thread = thread;
      room = room;
      within = record {
        reached = after-snoc shape (length scripts) events world e w.reached ∙ ap world_of made;
        begun = begun;
        calls = calls;
        spent = spent;
        known = known;
      };
    }
  where
    began : ℕ
    began = cond (begins_call e.begin) 1 0

    begun : (t : ℕ) → begun_by t (events ++ e ∷ []) ≤ length (script_of scripts t)
    begun t =
        elim (cases_eq t e.thread) [
          | inl same ↦ subst (λ i. begun_by i (events ++ e ∷ []) ≤ length (script_of scripts i)) (sym same) f.begun
          | inr apart ↦ subst (λ n. n ≤ length (script_of scripts t)) (sym (f.others_begun t apart)) (w.begun t)
        ]

    calls_fall : sum_below (left_calls scripts (events ++ e ∷ [])) (length scripts) + cond (begins_call e.begin) 1 0
        ≤ sum_below (left_calls scripts events) (length scripts)
    calls_fall =
        falls_below (cond (begins_call e.begin) 1 0) (left_calls scripts events) (left_calls scripts (events ++ e ∷ []))
        e.thread
        (length scripts)
        (λ t apart. ap (λ n. length (script_of scripts t) - n) (f.others_begun t apart)) thread f.calls

    calls : calls_begun (events ++ e ∷ []) + sum_below (left_calls scripts (events ++ e ∷ [])) (length scripts) ≤
        calls_in scripts
    calls =
        let more : calls_begun (events ++ e ∷ []) ≡ calls_begun events + cond (begins_call e.begin) 1 0 =
        calls_more events e in
        omega (arith, more, calls_fall, w.calls)

    spent : length (events ++ e ∷ []) + sum_below (left_events shape (events ++ e ∷ []) there) (length scripts)
        ≤ length scripts * (most * 64)
    spent =
        let size : length (events ++ e ∷ []) ≡ length events + 1 = length-append events (e ∷ []) in
        let fall : sum_below (left_events shape (events ++ e ∷ []) there) (length scripts) + 1
        ≤ sum_below (left_events shape events world) (length scripts) =
        falls_below 1 (left_events shape events world) (left_events shape (events ++ e ∷ []) there) e.thread
        (length scripts) others thread
        (omega (arith, f.left)) in
        omega (arith, size, fall, w.spent)
      where
        others : (t : ℕ) → t ≢ e.thread → left_events shape (events ++ e ∷ []) there t
            ≡ left_events shape events world t
        others t apart =
            ap (λ (p : Option Running). left_of shape.k p + most * (64 - begun_by t (events ++ e ∷ [])))
            (other_place shape world e there outcome t apart made)
            ∙ ap (λ n. left_of shape.k (place_of world t) + most * (64 - n)) (f.others_begun t apart)

    room : begins_call e.begin ≡ true → calls_begun events < calls_in scripts
    room begins =
        let one : cond {A = ℕ} (begins_call e.begin) 1 0 ≡ 1 = ap (λ b. cond {A = ℕ} b 1 0) begins in
        let some : left_calls scripts events e.thread ≤ sum_below (left_calls scripts events) (length scripts) =
        term_below (left_calls scripts events) e.thread (length scripts) thread in
        omega (arith, one, some, f.calls, w.calls)

    known : length (history_of shape (length scripts) (events ++ e ∷ [])) ≡ calls_begun (events ++ e ∷ [])
    known =
        ap (λ (l : Log). length l.calls) (log_more shape (length scripts) events world there outcome e w.reached made)
        ∙ length-logged (length events) e.thread e.begin outcome (log_of shape (length scripts) events)
        ∙ ap (λ n. n + cond (begins_call e.begin) 1 0) w.known
        ∙ sym (calls_more events e)

-- a thread that goes on with its call
goes_on : (shape : Shape) (scripts : List (List Begin)) (events : List Event) (world : World) (thread : ℕ)
    (running : Running)
    → IsWithin shape scripts events world
    → place_of world thread ≡ Some running → Makes shape scripts events world (event thread None)
goes_on shape scripts events world thread running w at =
    let e : Event = event thread None in
    let known : length world.places ≡ length scripts = sound_threads shape (length scripts) events world w.reached in
    let within : thread < length scripts = running_within shape scripts thread events world running w.reached at in
    let goes : going shape (place_of world thread) None ≡ Some running =
    ap (λ (p : Option Running). going shape p None) at in
    let there : World = moved shape world thread running in
    let made : step shape world e ≡ Ok (there, outcome_of (advance shape running (found shape world running))) =
    steps_on shape world e running (omega (arith, known, within)) goes in
    let same : (t : ℕ) → begun_by t (events ++ e ∷ []) ≡ begun_by t events = λ t. begun_by-goes_on t thread events in
    let fall : left_of shape.k (place_of there thread) < left_of shape.k (place_of world thread) =
    subst (λ (p : Option Running). left_of shape.k (place_of there thread) < left_of shape.k p) (sym at)
    (left_falls shape world e there (outcome_of (advance shape running (found shape world running))) running
    (sound shape (length scripts) events world w.reached) made goes) in
    within_more shape scripts events world there (outcome_of (advance shape running (found shape world running))) e w
    made within
    (record {
      begun = subst (λ n. n ≤ length (script_of scripts thread)) (sym (same thread)) (w.begun thread);
      others_begun = λ t apart. same t;
      calls =
          let h : left_calls scripts (events ++ e ∷ []) thread ≡ left_calls scripts events thread =
          ap (λ n. length (script_of scripts thread) - n) (same thread) in
          let d : left_calls scripts (events ++ e ∷ []) thread + 0 ≤ left_calls scripts events thread =
          omega (arith, h) in
          d;
      left = let h : most * (64 - begun_by thread (events ++ e ∷ [])) ≡ most * (64 - begun_by thread events) =
          ap (λ n. most * (64 - n)) (same thread) in omega (arith, h, fall);
    })

-- a thread that begins the next call of its script
begins_next : (shape : Shape) (scripts : List (List Begin)) (events : List Event) (world : World) (thread : ℕ)
    (call : Begin)
    → AreScripts shape scripts → IsWithin shape scripts events world
    → place_of world thread ≡ None → next_call scripts thread events ≡ Some call
    → Makes shape scripts events world (event thread (Some call))
begins_next shape scripts events world thread call are w idle next =
    let e : Event = event thread (Some call) in
    let known : length world.places ≡ length scripts = sound_threads shape (length scripts) events world w.reached in
    let within : thread < length scripts = next_within scripts thread events call next in
    let is : IsCall shape call = next_is_call shape scripts thread events call are next in
    let first = call_begins shape call is in
    let goes : going shape (place_of world thread) (Some call) ≡ Some first.0 =
    ap (λ (p : Option Running). going shape p (Some call)) idle ∙ first.1 in
    let there : World = moved shape world thread first.0 in
    let made : step shape world e ≡ Ok (there, outcome_of (advance shape first.0 (found shape world first.0))) =
    steps_on shape world e first.0 (omega (arith, known, within)) goes in
    let one : begun_by thread (events ++ e ∷ []) ≡ begun_by thread events + 1 = begun_by-own thread events call in
    let low : begun_by thread events < length (script_of scripts thread) =
    slice_get_within (script_of scripts thread) (begun_by thread events) call next in
    let short : length (script_of scripts thread) ≤ 64 = (script_is shape scripts thread are within).short in
    let fall : left_of shape.k (place_of there thread) < most_events shape call =
    begin_left shape world e there (outcome_of (advance shape first.0 (found shape world first.0))) call
    (sound shape (length scripts) events world w.reached) made refl in
    let few : most_events shape call ≤ most = few_calls_events shape call is in
    within_more shape scripts events world there (outcome_of (advance shape first.0 (found shape world first.0))) e w
    made within
    (record {
      begun = omega (arith, one, low);
      others_begun = λ t apart. begun_by-other t thread events call apart;
      calls = let d : cond {A = ℕ} (begins_call (Some call)) 1 0 ≡ 1 =
          ap (λ b. cond {A = ℕ} b 1 0) (begins_a_call shape call is) in
          omega (arith, d, one, low);
      left = omega (arith, one, low, short, fall, few);
    })

-- every pick that is not refused makes an event
pub makes : (shape : Shape) (scripts : List (List Begin)) (events : List Event) (world : World) (thread : ℕ) (e : Event)
    → AreScripts shape scripts → IsWithin shape scripts events world
    → event_at thread (place_of world thread) (next_call scripts thread events) ≡ Some e
    → Makes shape scripts events world e
makes shape scripts events world thread e are w picks =
    elim (how_made thread (place_of world thread) (next_call scripts thread events) e picks) [
      | inl on ↦ subst (Makes shape scripts events world) (sym on.is)
          (goes_on shape scripts events world thread on.running w on.there)
      | inr begins ↦ subst (Makes shape scripts events world) (sym begins.is)
          (begins_next shape scripts events world thread begins.call are w begins.idle begins.next_is)
    ]

-- at the opening every thread is idle
idle_at : (shape : Shape) (threads t : ℕ) → place_of (opening shape threads) t ≡ None
unfolding opening place_of
idle_at shape threads t = get_or_replicate threads t None

-- the opening
within_none : (shape : Shape) (scripts : List (List Begin)) → IsWithin shape scripts [] (opening shape (length scripts))
within_none shape scripts =
    record {
      reached = refl;
      begun = λ t. omega arith;
      calls = calls;
      spent = spent;
      known = refl;
    }
  where
    calls : 0 + sum_below (left_calls scripts []) (length scripts) ≤ calls_in scripts
    calls =
        let terms : sum_below (left_calls scripts []) (length scripts)
        ≡ sum_below (λ t. length (script_of scripts t)) (length scripts) =
        same_below (λ t. length (script_of scripts t)) (left_calls scripts []) (length scripts)
        (λ t below. omega arith) in
        let all : sum_below (λ t. length (script_of scripts t)) (length scripts)
        ≡ sum_by (λ (s : List Begin). length s) (take (length scripts) scripts) =
        sum_below-get_or (λ (s : List Begin). length s) scripts [] (length scripts) (omega arith) in
        let whole : sum_by (λ (s : List Begin). length s) (take (length scripts) scripts) ≡ calls_in scripts =
        ap (sum_by (λ (s : List Begin). length s)) (take_all (length scripts) scripts (omega arith)) in
        omega (arith, terms, all, whole)

    spent : 0 + sum_below (left_events shape [] (opening shape (length scripts))) (length scripts) ≤ length scripts *
        (most * 64)
    spent =
        let few : sum_below (left_events shape [] (opening shape (length scripts))) (length scripts) ≤ length scripts *
        (most * 64) =
        few_below (left_events shape [] (opening shape (length scripts))) (most * 64) (length scripts) (λ t. each t) in
        omega (arith, few)
      where
        each : (t : ℕ) → left_events shape [] (opening shape (length scripts)) t ≤ most * 64
        each t = let none : left_of shape.k (place_of (opening shape (length scripts)) t) ≡ 0 =
            ap (left_of shape.k) (idle_at shape (length scripts) t) in omega (arith, none)

-- what picks have made is within those bounds
pub record Reaches (shape : Shape) (scripts : List (List Begin)) (events : List Event) : Type 0 where
  pub world : World
  pub within : IsWithin shape scripts events world

within_from : (shape : Shape) (scripts : List (List Begin)) → AreScripts shape scripts
    → (events all : List Event) (world : World)
    → IsWithin shape scripts events world
    → (picks : List ℕ) → events_from shape scripts (Some events) picks ≡ Some all → Reaches shape scripts all
within_from shape scripts are events all world w [] made =
    subst (Reaches shape scripts) (Some-injective events all made) (record { world = world; within = w })
within_from shape scripts are events all world w (thread ∷ picks) made =
    by_pick (λ here at v on. within_from shape scripts are here all at v picks on)
    (event_at thread (place_of world thread) (next_call scripts thread events)) refl
    (sym (ap (λ (m : Option Event). events_from shape scripts (and_then events m) picks)
    (picked_in shape scripts events thread world w.reached)) ∙ made)
  where
    by_pick : ((here : List Event) (at : World) → IsWithin shape scripts here at → events_from shape scripts (Some here)
        picks ≡ Some all
        → Reaches shape scripts all) → (m : Option Event) → event_at thread (place_of world thread)
        (next_call scripts thread events) ≡ m
        → events_from shape scripts (and_then events m) picks ≡ Some all → Reaches shape scripts all
    by_pick on None is rest = absurd (let h : None ≡ Some all = sym (events_from-none shape scripts picks) ∙ rest in cc)
    by_pick on (Some e) is rest =
        let m = makes shape scripts events world thread e are w is in
        on (events ++ e ∷ []) m.there m.within rest

pub within_picks : (shape : Shape) (scripts : List (List Begin)) (picks : List ℕ) (events : List Event)
    → AreScripts shape scripts
    → events_of shape scripts picks ≡ Some events → Reaches shape scripts events
within_picks shape scripts picks events are made =
    within_from shape scripts are [] events (opening shape (length scripts)) (within_none shape scripts) picks made

-- so there are far fewer than 2^64 events
pub few_events : (shape : Shape) (scripts : List (List Begin)) (events : List Event) (world : World)
    → AreScripts shape scripts
    → IsWithin shape scripts events world → length events < 2 ^ 40
few_events shape scripts events world are w =
    let most_scripts : length scripts * (most * 64) ≤ 64 * (most * 64) = mul-le-mul_right (most * 64) are.few in
    let bound : 64 * (most * 64) < 2 ^ 40 = lit< tt in
    omega (arith, most_scripts, bound, w.spent)
