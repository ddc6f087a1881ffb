-- One pick of a replay: it makes an event, and the replay then stands for one pick more.
use Rattle.std.proofs.Common.{◌≡◌, ◌⊎◌, ℕ, ◌+◌, ◌^◌, ◌<◌, ◌≤◌, List, [], ◌∷◌, ◌++◌, length, get_or, set, take, Option}
use Rattle.std.proofs.Common.{Some, None, Ok, true, cond, sym, ◌∙◌, ap, subst, inl, inr, arith}
use Rattle.std.specs.Prelude.{slice_get, is_some}
use Rattle.std.proofs.lemmas.Bool.{cases_eq}
use Rattle.std.proofs.lemmas.Grind.{get_or-set_at}
use Rattle.std.proofs.lemmas.List.{get_or-set_other, length-set}
use Rattle.kfifo_replay.proofs.Types.{Begin, Event, Outcome, Running, Shape}
use Rattle.kfifo_machine.specs.declared.event.Begin.TheVariants as B
use Rattle.kfifo_machine.specs.Program.{advance}
use Rattle.kfifo_machine.specs.Machine.{World, place_of, found, opening, outcome_of, step, after}
use Rattle.kfifo_machine.specs.Runs.{event, going}
use Rattle.kfifo_machine.specs.Laws.{counted}
use Rattle.kfifo_machine.specs.Calls.{Log, logged, log_of}
use Rattle.kfifo_machine.proofs.Schedules.{Some-injective, StepsFrom, Outside, stepped}
use Rattle.kfifo_machine.proofs.Calls.{log_thread, log_call}
use Rattle.kfifo_linear.specs.Notes.{begins_call}
use Rattle.kfifo_linear.specs.Following.{Follower, Follows}
use Rattle.kfifo_replay.specs.Scripts.{IsCall, calls_in}
use Rattle.kfifo_replay.specs.Picks.{begun_by, script_of, next_call, event_at, and_then, events_of}
use Rattle.kfifo_replay.specs.Player.{Book, Player, StandsFor, Trace, IsRefused, undoes, is_undoing, takes_back, undos}
use Rattle.kfifo_replay.specs.Steps.{AreSteps, IsStep}
use Rattle.kfifo_replay.specs.Traces.{KeepsStep}
use Rattle.kfifo_replay.proofs.Events.{events_of-snoc, picked_in, how_made, begun_by-goes_on, begun_by-own}
use Rattle.kfifo_replay.proofs.Events.{begun_by-other}
use Rattle.kfifo_replay.proofs.Stepping.{kept_more}
use Rattle.kfifo_replay.proofs.Within.{IsWithin, Makes, makes, few_events, within_picks, log_more, next_is_call}
use Rattle.kfifo_replay.proofs.Within.{script_is}
use Rattle.kfifo_replay.proofs.Undos.{takes_back-false, undo_told, first_no_undo, undos-snoc, few_undos}

-- the event that a replay sees for a pick of a thread
abbrev pub sees : Player → ℕ → Option Event
sees p thread =
    event_at thread (place_of p.follower.world thread)
    (slice_get (script_of p.scripts thread) (get_or p.begun thread 0))

module _ (shape : Shape) (scripts : List (List Begin)) (picks : List ℕ) (p : Player)
    (s : StandsFor shape scripts picks p) where
  -- the world of the replay is the one that its picks reach
  pub reached_by : after shape (length scripts) s.events ≡ Some p.follower.world
  reached_by = subst (λ (x : Shape). after x (length scripts) s.events ≡ Some p.follower.world) s.follower_shape
      s.follows.reached

  pub within_replay : IsWithin shape scripts s.events p.follower.world
  within_replay =
      let r = within_picks shape scripts picks s.events s.are_scripts s.made in
      subst (IsWithin shape scripts s.events)
      (Some-injective r.world p.follower.world (sym r.within.reached ∙ reached_by)) r.within

  pub few_steps : p.follower.notes.step < 2 ^ 40
  few_steps = let n : p.follower.notes.step ≡ length s.events = s.follows.steps in let few : length s.events < 2 ^ 40 =
      few_events shape scripts s.events p.follower.world s.are_scripts within_replay in omega (arith, n, few)

  pub few_rollbacks : p.rollbacks < 2 ^ 40
  few_rollbacks =
      let few : length s.events < 2 ^ 40 = few_events shape scripts s.events p.follower.world s.are_scripts
      within_replay in
      let less : undos shape (length scripts) s.events ≤ length s.events = few_undos shape (length scripts) s.events in
      omega (arith, few, less, s.rollbacks)

  pub sees_is : (thread : ℕ)
      → sees p thread ≡ event_at thread (place_of p.follower.world thread) (next_call scripts thread s.events)
  sees_is thread =
      ap (λ (x : List (List Begin)). event_at thread (place_of p.follower.world thread)
      (slice_get (script_of x thread) (get_or p.begun thread 0))) s.scripts_are
      ∙ ap (λ n. event_at thread (place_of p.follower.world thread) (slice_get (script_of scripts thread) n))
      (s.begun thread)

  -- what the picks with one more make
  pub one_more : (thread : ℕ) → events_of shape scripts (picks ++ thread ∷ []) ≡ and_then s.events (sees p thread)
  one_more thread =
      events_of-snoc shape scripts picks thread s.events s.made
      ∙ ap (and_then s.events) (picked_in shape scripts s.events thread p.follower.world reached_by
      ∙ sym (sees_is thread))

  pub is_refused : (thread : ℕ) → sees p thread ≡ None → IsRefused shape scripts picks thread
  is_refused thread none = one_more thread ∙ ap (and_then s.events) none

  module _ (thread : ℕ) (e : Event) (picks_e : sees p thread ≡ Some e) where
    pub makes_event : Makes shape scripts s.events p.follower.world e
    makes_event = makes shape scripts s.events p.follower.world thread e s.are_scripts within_replay
        (sym (sees_is thread) ∙ picks_e)

    pub own_thread : e.thread ≡ thread
    own_thread =
        elim (how_made thread (place_of p.follower.world thread) (next_call scripts thread s.events) e
        (sym (sees_is thread) ∙ picks_e)) [
          | inl on ↦ ap (λ (x : Event). x.thread) on.is
          | inr begins ↦ ap (λ (x : Event). x.thread) begins.is
        ]

    pub thread_within : thread < length p.begun
    thread_within = let t : e.thread < length scripts = makes_event.thread in omega (arith, t, own_thread, s.threads)

    pub enabled : (there : World) × (outcome : Outcome)
        × (step p.follower.shape p.follower.world e ≡ Ok (there, outcome))
    enabled = (
      makes_event.there,
      makes_event.outcome,
      ap (λ (x : Shape). step x p.follower.world e) s.follower_shape ∙ makes_event.made,
    )

    begins_call_only : (begin : Begin) → e.begin ≡ Some begin → IsCall shape begin
    begins_call_only begin at =
        elim (how_made thread (place_of p.follower.world thread) (next_call scripts thread s.events) e
        (sym (sees_is thread) ∙ picks_e)) [
          | inl on ↦
              let none : e.begin ≡ None = ap (λ (x : Event). x.begin) on.is in
              let h : None ≡ Some begin = sym none ∙ at in
              absurd (cc)
          | inr begins ↦
              let some : e.begin ≡ Some begins.call = ap (λ (x : Event). x.begin) begins.is in
              subst (IsCall shape) (Some-injective begins.call begin (sym some ∙ at))
              (next_is_call shape scripts thread s.events begins.call s.are_scripts begins.next_is)
        ]

    pub goes : (running : Running)
        × (going p.follower.shape (place_of p.follower.world e.thread) e.begin ≡ Some running)
    goes =
        elim (stepped p.follower.shape p.follower.world e enabled.0 enabled.1 enabled.2) [
          | inl from ↦ (from.running, from.goes)
          | inr outside ↦ absurd (elim outside.by [
            | inl t ↦ begins_call_only B.Tick t.begins
            | inr z ↦ begins_call_only B.Seal z.begins
          ])
        ]

    pub room_for_call : begins_call e.begin ≡ true → p.follower.notes.begun < length p.follower.notes.calls
    room_for_call begins = omega (arith, makes_event.room begins, s.follows.begun, s.follows.sizes.calls)

    pub room_in_book : begins_call e.begin ≡ true → length p.book.log.calls < p.book.room
    room_in_book begins =
        let same : length p.book.log.calls ≡ length (log_of shape (length scripts) s.events).calls =
        ap (λ (l : Log). length l.calls) s.log in
        omega (arith, same, makes_event.room begins, within_replay.known, s.room)

    pub thread_in_book : e.thread < length p.book.log.latest
    thread_in_book =
        log_thread shape shape (length scripts) s.events p.follower.world e makes_event.there makes_event.outcome
        p.book.log
        s.are_scripts.few reached_by s.log makes_event.made

    pub call_in_book : e.begin ≡ None → get_or p.book.log.latest e.thread 0 < length p.book.log.calls
    call_in_book none =
        log_call shape shape (length scripts) s.events p.follower.world e makes_event.there makes_event.outcome
        p.book.log s.are_scripts.few
        reached_by s.log makes_event.made none

    pub few_begun : get_or p.begun thread 0 ≤ 64
    few_begun =
        let low : begun_by thread s.events ≤ length (script_of scripts thread) = within_replay.begun thread in
        let t : thread < length scripts = omega (arith, thread_within, s.threads) in
        let short : length (script_of scripts thread) ≤ 64 = (script_is shape scripts thread s.are_scripts t).short in
        omega (arith, low, short, s.begun thread)

    -- how many calls each thread has begun then
    begun_then : (other : ℕ) → get_or (set p.begun thread (get_or p.begun thread 0 + cond (is_some e.begin) 1 0))
        other 0
        ≡ begun_by other (s.events ++ e ∷ [])
    begun_then other =
        elim (how_made thread (place_of p.follower.world thread) (next_call scripts thread s.events) e
        (sym (sees_is thread) ∙ picks_e)) [
          | inl on ↦ subst (λ (x : Event). get_or
              (set p.begun thread (get_or p.begun thread 0 + cond (is_some x.begin) 1 0)) other 0
              ≡ begun_by other (s.events ++ x ∷ [])) (sym on.is) (stays other)
          | inr begins
              ↦ subst (λ (x : Event). get_or (set p.begun thread (get_or p.begun thread 0 + cond (is_some x.begin) 1 0))
              other 0
              ≡ begun_by other (s.events ++ x ∷ [])) (sym begins.is) (grows begins.call other)
        ]
      where
        stays : (other : ℕ) → get_or (set p.begun thread (get_or p.begun thread 0 + 0)) other 0
            ≡ begun_by other (s.events ++ event thread None ∷ [])
        stays other =
            elim (cases_eq other thread) [
              | inl own ↦
                  let z : get_or p.begun thread 0 + 0 ≡ get_or p.begun thread 0 = omega arith in
                  get_or-set_at p.begun thread other (get_or p.begun thread 0 + 0) 0 own thread_within ∙ z
                  ∙ s.begun thread
                  ∙ ap (λ t. begun_by t s.events) (sym own) ∙ sym (begun_by-goes_on other thread s.events)
              | inr apart ↦
                  get_or-set_other p.begun thread other (get_or p.begun thread 0 + 0) 0 apart ∙ s.begun other
                  ∙ sym (begun_by-goes_on other thread s.events)
            ]

        grows : (call : Begin) (other : ℕ) → get_or (set p.begun thread (get_or p.begun thread 0 + 1)) other 0
            ≡ begun_by other (s.events ++ event thread (Some call) ∷ [])
        grows call other =
            elim (cases_eq other thread) [
              | inl own ↦
                  get_or-set_at p.begun thread other (get_or p.begun thread 0 + 1) 0 own thread_within
                  ∙ ap (λ n. n + 1) (s.begun thread)
                  ∙ sym (begun_by-own thread s.events call)
                  ∙ ap (λ t. begun_by t (s.events ++ event thread (Some call) ∷ [])) (sym own)
              | inr apart ↦
                  get_or-set_other p.begun thread other (get_or p.begun thread 0 + 1) 0 apart ∙ s.begun other
                  ∙ sym (begun_by-other other thread s.events call apart)
            ]

    module _ (there : World) (outcome : Outcome) (made : step p.follower.shape p.follower.world e ≡ Ok (there, outcome))
      where
        made_so : step shape p.follower.world e ≡ Ok (there, outcome)
        made_so = ap (λ (x : Shape). step x p.follower.world e) (sym s.follower_shape) ∙ made

        came_to : (r : Running) → going shape (place_of p.follower.world e.thread) e.begin ≡ Some r
            → StepsFrom shape p.follower.world e.thread (place_of p.follower.world e.thread) e.begin there outcome
            ⊎ Outside shape p.follower.world (place_of p.follower.world e.thread) e.begin there outcome
            → outcome ≡ outcome_of (advance shape r (found shape p.follower.world r))
        came_to r goes (inl t) =
            subst (λ (q : Running). outcome ≡ outcome_of (advance shape q (found shape p.follower.world q)))
            (Some-injective t.running r (sym t.goes ∙ goes)) t.outcome_is
        came_to r goes (inr t) = absurd (let h : None ≡ Some r = sym t.begins_none ∙ goes in cc)

        -- it is a won undo where its thread's place says so
        rollbacks_then : p.rollbacks + cond (takes_back (is_undoing (place_of p.follower.world thread)) outcome) 1 0
            ≡ undos shape (length scripts) (s.events ++ e ∷ [])
        rollbacks_then =
            ap (λ n. n + cond (takes_back (is_undoing (place_of p.follower.world thread)) outcome) 1 0) s.rollbacks
            ∙ ap (λ n. undos shape (length scripts) s.events + n) told
            ∙ sym (undos-snoc shape (length scripts) p.follower.world s.events e reached_by)
          where
            goes_told : (running : Running) → place_of p.follower.world thread ≡ Some running → e ≡ event thread None
                → cond {A = ℕ} (takes_back (is_undoing (place_of p.follower.world thread)) outcome) 1 0
                ≡ counted shape undoes p.follower.world (going shape (place_of p.follower.world e.thread) e.begin)
            goes_told r at is =
                let goes : going shape (place_of p.follower.world e.thread) e.begin ≡ Some r =
                ap (λ (x : Event). going shape (place_of p.follower.world x.thread) x.begin) is
                ∙ ap (λ (q : Option Running). going shape q None) at in
                let came : outcome ≡ outcome_of (advance shape r (found shape p.follower.world r)) =
                came_to r goes (stepped shape p.follower.world e there outcome made_so) in
                ap (λ (q : Option Running). cond {A = ℕ} (takes_back (is_undoing q) outcome) 1 0) at
                ∙ ap (λ (o : Outcome). cond {A = ℕ} (takes_back (is_undoing (Some r)) o) 1 0) came
                ∙ ap (λ b. cond {A = ℕ} b 1 0) (sym (undo_told shape r (found shape p.follower.world r)))
                ∙ ap (counted shape undoes p.follower.world) (sym goes)

            told : cond {A = ℕ} (takes_back (is_undoing (place_of p.follower.world thread)) outcome) 1 0
                ≡ counted shape undoes p.follower.world (going shape (place_of p.follower.world e.thread) e.begin)
            told =
                elim (how_made thread (place_of p.follower.world thread) (next_call scripts thread s.events) e
                (sym (sees_is thread) ∙ picks_e)) [
                  | inl on ↦ goes_told on.running on.there on.is
                  | inr begins ↦
                      let first : going shape (place_of p.follower.world e.thread) e.begin
                      ≡ going shape None (Some begins.call) =
                      ap (λ (x : Event). going shape (place_of p.follower.world x.thread) x.begin) begins.is
                      ∙ ap (λ (q : Option Running). going shape q (Some begins.call)) begins.idle in
                      ap (λ (q : Option Running). cond {A = ℕ} (takes_back (is_undoing q) outcome) 1 0) begins.idle
                      ∙ ap (λ b. cond {A = ℕ} b 1 0) (takes_back-false outcome)
                      ∙ sym (first_no_undo shape p.follower.world begins.call)
                      ∙ ap (counted shape undoes p.follower.world) (sym first)
                ]

        -- The replay then stands for one pick more
        pub stands_on : (f : Follower) (book : Book) (begun : List ℕ) (rollbacks : ℕ) (trace : Trace)
            → f.shape ≡ p.follower.shape
            → Follows (length scripts) (calls_in scripts) (s.events ++ e ∷ []) f
            → book.log ≡ logged p.follower.notes.step e.thread e.begin outcome p.book.log → p.book.room ≤ book.room
            → begun ≡ set p.begun thread (get_or p.begun thread 0 + cond (is_some e.begin) 1 0)
            → rollbacks ≡ p.rollbacks + cond (takes_back (is_undoing (place_of p.follower.world thread)) outcome) 1 0
            → KeepsStep p.follower.shape p.follower.world e there p.trace trace
            → StandsFor shape scripts (picks ++ thread ∷ [])
            (record {
              shape = p.shape;
              scripts = p.scripts;
              follower = f;
              begun = begun;
              book = book;
              rollbacks = rollbacks;
              trace = trace;
            })
        stands_on f book begun rollbacks trace same follows log room begun_is rollbacks_is keeps =
            record {
              events = s.events ++ e ∷ [];
              made = one_more thread ∙ ap (and_then s.events) picks_e;
              are_scripts = s.are_scripts;
              shape_is = s.shape_is;
              scripts_are = s.scripts_are;
              follower_shape = same ∙ s.follower_shape;
              follows = follows;
              threads = ap (λ (l : List ℕ). length l) begun_is ∙ length-set p.begun thread _ ∙ s.threads;
              begun = λ other. ap (λ (l : List ℕ). get_or l other 0) begun_is ∙ begun_then other;
              log = log
                  ∙ ap (λ n. logged n e.thread e.begin outcome p.book.log) s.follows.steps
                  ∙ ap (logged (length s.events) e.thread e.begin outcome) s.log
                  ∙ sym (log_more shape (length scripts) s.events p.follower.world there outcome e reached_by made_so);
              room = omega (arith, room, s.room);
              rollbacks = rollbacks_is ∙ rollbacks_then;
              traced = subst (λ (t : Trace). AreSteps shape (opening shape (length scripts))
                  (take t.most (s.events ++ e ∷ [])) t.steps) (sym keeps.2)
                  (kept_more p.trace.most shape (opening shape (length scripts)) p.follower.world there s.events
                  p.trace.steps e keeps.0
                  s.traced reached_by (subst (λ (x : Shape). IsStep x p.follower.world e there keeps.0) s.follower_shape
                  keeps.1));
            }
