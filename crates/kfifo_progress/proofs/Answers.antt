-- Where calls begin with enough turns, Busy comes at most once from each thread before some call ends with another
-- answer. So a stretch with no other answer is at most so many stretches in which no call ends.
use Rattle.std.proofs.Common.{◌≡◌, ℕ, ◌+◌, ◌*◌, ◌<◌, ◌≤◌, Bool, true, false, inl, inr, refl, sym, ◌∙◌, ap, subst, arith}
use Rattle.std.proofs.Common.{List, [], ◌∷◌, ◌++◌, Option, Some, None, Ok}
use Rattle.std.specs.Prelude.{◌==◌, not, if◌then◌else◌}
use Rattle.std.proofs.Math.Nat.{mul-le-mul_left, mul-le-mul_right}
use Rattle.std.proofs.lemmas.Bool.{lt-ltb, ltb-false, ltb-true, cases_Bool, cases_eq, cases_lt, false≢true}
use Rattle.std.proofs.lemmas.Bool.Decides.{nat_tests}
use Rattle.std.proofs.lemmas.Option.{none-some, same_Some}
use Rattle.kfifo_machine.specs.declared.place.Next.TheVariants.{Answers, Goes}
use Rattle.kfifo_linear.proofs.Types.{Begin, Event, Next, Outcome, Running, Shape}
use Rattle.kfifo_model.specs.declared.calls.Answer.TheVariants.{Busy}
use Rattle.kfifo_machine.specs.declared.event.Outcome.TheVariants.{Ended, Went}
use Rattle.kfifo_linear.proofs.Abstract.{event_at, noted-other, noted-same}
use Rattle.kfifo_linear.specs.Ledger.{Ledger, found_in, ledger_after, ledger_of, noted}
use Rattle.kfifo_linear.specs.Order.{ledger_after_all}
use Rattle.kfifo_machine.proofs.Budget.{own_first, own_place}
use Rattle.kfifo_machine.proofs.Schedules.{first_made, made_within, other_place, run_before, run_on, same_threads}
use Rattle.kfifo_machine.proofs.Schedules.{stepped}
use Rattle.kfifo_machine.specs.Runs.{event, own}
use Rattle.kfifo_machine.proofs.Sound.{sound, sound_threads, step_sound}
use Rattle.kfifo_machine.specs.Machine.{World, after, begun, found, may_begin, moved, opening, outcome_of, place_after}
use Rattle.kfifo_machine.specs.Machine.{place_of, run, step, word_at, world_of}
use Rattle.kfifo_machine.specs.Program.{advance}
use Rattle.kfifo_machine.specs.Runs.{going}
use Rattle.kfifo_progress.proofs.Counting.{few_old, fewer_old, old_threads}
use Rattle.kfifo_progress.proofs.Live.{Begun}
use Rattle.kfifo_progress.proofs.Rounds.{disturbed, disturbed_bound, rounds_left}
use Rattle.kfifo_progress.proofs.Schedule.{with_seals}
use Rattle.kfifo_progress.proofs.LiveStretches.{Fair, LiveAt, UndosAt, at_begin, names_of, spare_of, begins, busy_live}
use Rattle.kfifo_progress.proofs.LiveStretches.{enough_prices, event_live, fair_begin, live_begins, live_changed}
use Rattle.kfifo_progress.proofs.LiveStretches.{live_spent, prices, undos_after}
use Rattle.kfifo_progress.proofs.Undos.{Undos, undos_begin, undos_step, undos_table, undos_outside}
use Rattle.kfifo_progress.specs.Progress.{AllHaveTurns, BusyMeansProgress, HasTurns, SomeCallAnswers, answers_of}
use Rattle.kfifo_progress.specs.Progress.{call_steps, calls_answered, turns_for_progress, is_wide, most_changes}
use Rattle.kfifo_progress.specs.Progress.{most_steps, seals_in, seals_of, steps_of, steps_to_answer}

-- a call that ends with Busy was in its last round
busy_last : (shape : Shape) (r : Running) (word : ℕ) → Ended Busy ≡ outcome_of (advance shape r word)
    → rounds_left r ≡ 1
busy_last shape r word e = grind (arith, nat_tests)

begun_goes_on : (shape : Shape) (begin : Begin) (r : Running) (word : ℕ) → begun begin ≡ Some r
    → Ended Busy ≡ outcome_of (advance shape r word) → ⊥
begun_goes_on shape begin r word g e = grind arith

going_busy : (shape : Shape) (place : Option Running) (begin : Option Begin) (r : Running) (word : ℕ)
    → going shape place begin ≡ Some r
    → Ended Busy ≡ outcome_of (advance shape r word) → place ≡ Some r
going_busy shape None None r word g e = absurd (none-some r g)
going_busy shape None (Some begin) r word g e =
    absurd (begun_goes_on shape begin r word (begins (may_begin shape begin) (begun begin) r g).1 e)
going_busy shape (Some q) None r word g e = g
going_busy shape (Some q) (Some begin) r word g e = absurd (none-some r g)

-- each thread but the watched one may have begun its call before
abbrev unwatched : Option ℕ → ℕ → Bool
unwatched None u = true
unwatched (Some t) u = not (u == t)

watched_is : (watched : Option ℕ) (u : ℕ) → unwatched watched u ≡ false → watched ≡ Some u
watched_is None u e = absurd (false≢true (sym e))
watched_is (Some t) u e = let z : u ≡ t = grind (arith, nat_tests) in ap Some (sym z)

watched_new : (watched : Option ℕ) (t : ℕ) → watched ≡ Some t → unwatched watched t ≡ false
watched_new None t e = absurd (none-some t e)
watched_new (Some x) t e = let z : x ≡ t = same_Some x t e in grind (arith, nat_tests)

answer_place : (next : Next) → Ended Busy ≡ outcome_of next → place_after next ≡ None
answer_place next e = grind arith

answers_busy : (next : Next) → Ended Busy ≡ outcome_of next → next ≡ Answers Busy
answers_busy (Goes q) e = absurd (cc)
answers_busy (Answers answer) e = let z : Busy ≡ answer = cc in ap Answers (sym z)

-- the turns of the calls, in a wide ring and in another one, and what all restarts cost in rounds and in steps: a wide
-- ring needs none
abbrev turns_in : Shape → ℕ → Bool → ℕ
turns_in shape threads wide = if wide then most_changes shape threads (2 * threads) + 2 * threads + 3
    else (threads + 1) * (most_changes shape threads threads + 1) + 2

abbrev lost_by : Shape → ℕ → Bool → ℕ → ℕ
lost_by shape threads wide busy = if wide then 0 else busy * (most_changes shape threads threads + 1)

abbrev steps_by : Shape → ℕ → Bool → ℕ → ℕ
steps_by shape threads wide busy = if wide then 0 else busy * (most_steps shape threads threads + 1)

-- a stretch with no answer but Busy, in which a thread that was in no call at its begin is watched, or none. The last
-- part of it goes on without a restart
record Stretched (shape : Shape) (threads : ℕ) (wide : Bool) (watched : Option ℕ) (world : World) (l : Ledger)
    (steps : ℕ) : Type 0 where
  busy : ℕ
  b : Begun
  old : ℕ → Bool
  spent : ℕ
  live : LiveAt shape threads (prices shape threads) b old world l spent
  fair : Fair shape threads b
  count : busy + old_threads old threads ≤ threads
  names : b.names ≡ names_of wide threads
  spare : b.spare ≡ spare_of wide
  turns : b.turns ≡ turns_in shape threads wide
  lost : b.lost ≡ lost_by shape threads wide busy
  all : steps ≤ steps_by shape threads wide busy + spent
  new : (t : ℕ) → watched ≡ Some t → old t ≡ false

-- a call that began in the stretch has not lost all its rounds
too_few : (shape : Shape) (threads : ℕ) (wide : Bool) (busy changed : ℕ) → busy ≤ threads
    → changed ≤ most_changes shape threads (names_of wide threads) + spare_of wide * threads
    → turns_in shape threads wide ≤ 1 + lost_by shape threads wide busy + 1 + changed → ⊥
too_few shape threads true busy changed few bound turns = omega (arith, bound, turns)
too_few shape threads false busy changed few bound turns =
    let m : busy * (most_changes shape threads threads + 1) ≤ threads * (most_changes shape threads threads + 1) =
    mul-le-mul_right (most_changes shape threads threads + 1) few in
    omega (arith, bound, turns, m)

few_restarts : (shape : Shape) (threads : ℕ) (wide : Bool) (busy : ℕ) → busy ≤ threads
    → steps_by shape threads wide busy ≤ steps_by shape threads wide threads
few_restarts shape threads true busy few = omega arith
few_restarts shape threads false busy few = mul-le-mul_right (most_steps shape threads threads + 1) few

none_lost : (shape : Shape) (threads : ℕ) (wide : Bool) → 0 ≡ lost_by shape threads wide 0
none_lost shape threads true = refl
none_lost shape threads false = omega arith

module _ (shape : Shape) (again : shape.holds_again ≡ true) (threads : ℕ) (wide : Bool)
    (room : names_of wide threads < shape.n) (watched : Option ℕ) where
  undos_next : (world next : World) (outcome : Outcome) (e : Event) (l : Ledger) (b : Begun) (old : ℕ → Bool)
      (spent : ℕ)
      → LiveAt shape threads (prices shape threads) b old world l spent → step shape world e ≡ Ok (next, outcome)
      → UndosAt shape again threads next (ledger_after shape world e l)
  undos_next world next outcome e l b old spent h made =
      event_at shape (Undos shape) (undos_table shape again) (undos_begin shape again) (undos_step shape again)
      (undos_outside shape again)
      world next outcome e l (record { size = h.size; holds = h.live.undos }) made

  changed : (world : World) (l : Ledger) (steps : ℕ) (h : Stretched shape threads wide watched world l steps)
      → h.live.live.changed ≤ most_changes shape threads (names_of wide threads) + spare_of wide * threads
  changed world l steps h =
      let bound = live_changed shape threads h.b h.old (rw h.names room) h.fair l world h.spent h.live in
      rw (h.names, h.spare) at bound

  spent_little : (world : World) (l : Ledger) (steps : ℕ) (h : Stretched shape threads wide watched world l steps)
      → h.spent ≤ most_steps shape threads (names_of wide threads)
  spent_little world l steps h =
      let bound = live_spent shape threads h.b h.old (rw h.names room) h.fair l world h.spent h.live in
      rw h.names at bound

  module _ (world next : World) (e : Event) (l : Ledger) (steps : ℕ)
      (h : Stretched shape threads wide watched world l steps)
      (made : step shape world e ≡ Ok (next, Ended Busy)) (r : Running) (at : place_of world e.thread ≡ Some r)
      (there : next ≡ moved shape world e.thread r)
      (busy : Ended Busy ≡ outcome_of (advance shape r (found_in shape (word_at world) r)))
    where
      within : e.thread < threads
      within = let k = made_within shape world e next (Ended Busy) made in omega (arith, k, h.live.count)

      -- the thread had no Busy before, since its call would have begun in the stretch
      was_old : h.old e.thread ≡ true
      was_old = elim (cases_Bool (h.old e.thread)) [
        | inl old ↦ old
        | inr new ↦
            let k = h.live.live.young e.thread r at new in
            let last = busy_last shape r (found_in shape (word_at world) r) busy in
            absurd (too_few shape threads wide h.busy h.live.live.changed (omega (arith, h.count))
            (changed world l steps h)
            (omega (arith, k, last, h.turns, h.lost)))
      ]

      still_new : (t : ℕ) → watched ≡ Some t → noted h.old e.thread false t ≡ false
      still_new t is = elim (cases_eq t e.thread) [
        | inl same ↦ noted-same h.old e.thread t false same
        | inr ne ↦ noted-other h.old e.thread t false ne ∙ h.new t is
      ]

      still_young : wide ≡ false → (u : ℕ) (q : Running) → place_of next u ≡ Some q
          → noted h.old e.thread false u ≡ false
          → turns_in shape threads false + disturbed (word_at next) q
          ≤ rounds_left q + (h.busy + 1) * (most_changes shape threads threads + 1) + 1
      unfolding found
      still_young narrow u q f new = elim (cases_eq u e.thread) [
        | inl same ↦
            let gone : place_of next e.thread ≡ None = ap (λ z. place_of z e.thread) there
            ∙ own_place shape world e.thread r (made_within shape world e next (Ended Busy) made)
            ∙ answer_place (advance shape r (found_in shape (word_at world) r)) busy in
            absurd (none-some q (sym gone ∙ ap (place_of next) (sym same) ∙ f))
        | inr ne ↦
            let g : place_of world u ≡ Some q = sym (other_place shape world e next (Ended Busy) u ne made) ∙ f in
            let k = h.live.live.young u q g (sym (noted-other h.old e.thread u false ne) ∙ new) in
            let c = changed world l steps h in
            let t1 = h.turns in
            let t2 = h.lost in
            omega (
              arith,
              rw narrow at c,
              k,
              disturbed_bound (word_at next) q,
              rw narrow at t1,
              rw narrow at t2,
            )
      ]

      -- in a wide ring the stretch goes on
      goes_on : wide ≡ true → Stretched shape threads wide watched next (ledger_after shape world e l) (steps + 1)
      goes_on is_wide =
          let n = h.names in
          let m = h.spare in
          let all = h.all in
          let lost = h.lost in
          record {
            busy = h.busy + 1;
            b = h.b;
            old = noted h.old e.thread false;
            spent = h.spent + 1;
            live = busy_live shape again threads (prices shape threads) (enough_prices shape threads) h.b h.old world
                next e l h.spent h.live
                made r at there (answers_busy (advance shape r (found_in shape (word_at world) r)) busy) was_old
                (rw is_wide at n)
                (rw is_wide at m);
            fair = h.fair;
            count = omega (arith, fewer_old h.old threads e.thread within was_old, h.count);
            names = h.names;
            spare = h.spare;
            turns = h.turns;
            lost = rw is_wide (rw is_wide at lost);
            all = rw is_wide (omega (arith, rw is_wide at all));
            new = still_new;
          }

      -- in another one the next part of it begins
      restarts : wide ≡ false → Stretched shape threads wide watched next (ledger_after shape world e l) (steps + 1)
      restarts narrow =
          let spent = spent_little world l steps h in
          let all = h.all in
          let undos = undos_next world next (Ended Busy) e l h.b h.old h.spent h.live made in
          let old : ℕ → Bool = noted h.old e.thread false in
          let lost : ℕ = (h.busy + 1) * (most_changes shape threads threads + 1) in
          let fewer = fewer_old h.old threads e.thread within was_old in
          record {
            busy = h.busy + 1;
            b = at_begin (ledger_after shape world e l) shape threads next false old (turns_in shape threads false)
                lost;
            old = old;
            spent = 0;
            live = live_begins shape again threads next (ledger_after shape world e l) false old
                (turns_in shape threads false) lost undos (same_threads shape world e next (Ended Busy) made
                ∙ h.live.count)
                (step_sound shape world e next (Ended Busy) h.live.sound made) (still_young narrow);
            fair = fair_begin shape threads (ledger_after shape world e l) next false old
                (turns_in shape threads false) lost undos.holds.inv.base.ends;
            count = omega (arith, fewer, h.count);
            names = rw narrow refl;
            spare = rw narrow refl;
            turns = rw narrow refl;
            lost = rw narrow refl;
            all = rw narrow (omega (arith, rw narrow at all, rw narrow at spent));
            new = still_new;
          }

  busy_event : (world next : World) (e : Event) (l : Ledger) (steps : ℕ)
      → Stretched shape threads wide watched world l steps
      → step shape world e ≡ Ok (next, Ended Busy)
      → Stretched shape threads wide watched next (ledger_after shape world e l) (steps + 1)
  unfolding found
  busy_event world next e l steps h made = elim (stepped shape world e next (Ended Busy) made) [
    | inl s ↦
        let at = going_busy shape (place_of world e.thread) e.begin s.running (found_in shape (word_at world) s.running)
        s.goes s.outcome_is in
        elim (cases_Bool wide) [
          | inl is_wide ↦ goes_on world next e l steps h made s.running at s.there_is s.outcome_is is_wide
          | inr narrow ↦ restarts world next e l steps h made s.running at s.there_is s.outcome_is narrow
        ]
    | inr t ↦ absurd (let z = t.outcome_is in cc)
  ]

  busy_old : (world next : World) (e : Event) (l : Ledger) (steps : ℕ)
      (h : Stretched shape threads wide watched world l steps)
      → step shape world e ≡ Ok (next, Ended Busy) → h.old e.thread ≡ true
  unfolding found
  busy_old world next e l steps h made = elim (stepped shape world e next (Ended Busy) made) [
    | inl s ↦
        let at = going_busy shape (place_of world e.thread) e.begin s.running (found_in shape (word_at world) s.running)
        s.goes s.outcome_is in
        was_old world next e l steps h made s.running at s.there_is s.outcome_is
    | inr t ↦ absurd (let z = t.outcome_is in cc)
  ]

  fewer_steps : (world : World) (l : Ledger) (few many : ℕ) → few ≤ many
      → Stretched shape threads wide watched world l many
      → Stretched shape threads wide watched world l few
  fewer_steps world l few many le h = record {
    busy = h.busy;
    b = h.b;
    old = h.old;
    spent = h.spent;
    live = h.live;
    fair = h.fair;
    count = h.count;
    names = h.names;
    spare = h.spare;
    turns = h.turns;
    lost = h.lost;
    all = omega (arith, le, h.all);
    new = h.new;
  }

  one_step : (begin : Option Begin) → steps_of begin ≤ 1
  one_step begin = grind arith

  stretched_event : (world next : World) (outcome : Outcome) (e : Event) (l : Ledger) (steps : ℕ)
      → Stretched shape threads wide watched world l steps
      → HasTurns (turns_in shape threads wide) e.begin → seals_of e.begin ≡ 0 → step shape world e ≡ Ok (next, outcome)
      → answers_of (Ok (next, outcome)) ≡ 0
      → Stretched shape threads wide watched next (ledger_after shape world e l) (steps + steps_of e.begin)
  stretched_event world next Went e l steps h turns unsealed made none = record {
    busy = h.busy;
    b = h.b;
    old = h.old;
    spent = h.spent + steps_of e.begin;
    live = event_live shape again threads (prices shape threads) (enough_prices shape threads) h.b h.old world next e l
        h.spent h.live (rw h.turns turns) unsealed made;
    fair = h.fair;
    count = h.count;
    names = h.names;
    spare = h.spare;
    turns = h.turns;
    lost = h.lost;
    all = omega (arith, h.all);
    new = h.new;
  }
  stretched_event world next (Ended Busy) e l steps h turns unsealed made none =
      fewer_steps next (ledger_after shape world e l) (steps + steps_of e.begin) (steps + 1)
      (omega (arith, one_step e.begin))
      (busy_event world next e l steps h made)
  stretched_event world next (Ended answer) e l steps h turns unsealed made none = absurd (omega (arith, none))

  stretched : (stretch : List Event) (here there : World) (l : Ledger) (steps : ℕ)
      → Stretched shape threads wide watched here l steps
      → AllHaveTurns (turns_in shape threads wide) stretch → seals_in stretch ≡ 0 → run shape (Some here) stretch
      ≡ Some there
      → calls_answered shape (Some here) stretch ≡ 0
      → Stretched shape threads wide watched there (ledger_of shape (Some here) stretch l) (steps + call_steps stretch)
  stretched [] here there l steps h turns unsealed is none =
      subst (λ w. Stretched shape threads wide watched w l (steps + 0)) (same_Some here there is)
      (fewer_steps here l (steps + 0) steps (omega arith) h)
  stretched (e ∷ es) here there l steps h turns unsealed is none =
      let m = first_made shape here e there es is in
      let answers : answers_of (Ok (m.0, m.1.0)) + calls_answered shape (Some m.0) es ≡ 0 = rw m.1.1.0 at none in
      let k = stretched_event here m.0 m.1.0 e l steps h turns.0 (omega arith) m.1.1.0 (omega (arith, answers)) in
      let all = stretched es m.0 there (ledger_after shape here e l) (steps + steps_of e.begin) k turns.1 (omega arith)
      m.1.1.1
      (omega (arith, answers)) in
      let z : steps + steps_of e.begin + call_steps es ≡ steps + call_steps (e ∷ es) = omega arith in
      rw m.1.1.0 (subst
      (λ n. Stretched shape threads wide watched there (ledger_of shape (Some m.0) es (ledger_after shape here e l))
      n) z all)

  stretched_bound : (world : World) (l : Ledger) (steps : ℕ) → Stretched shape threads wide watched world l steps
      → steps ≤ steps_by shape threads wide threads + most_steps shape threads (names_of wide threads)
  stretched_bound world l steps h =
      let spent = spent_little world l steps h in
      let m = few_restarts shape threads wide h.busy (omega (arith, h.count)) in
      omega (arith, h.all, spent, m)

  -- such a stretch may begin at any world
  stretched_begins : (events : List Event) (here : World) → after shape threads events ≡ Some here
      → ((t : ℕ) → watched ≡ Some t → place_of here t ≡ None)
      → Stretched shape threads wide watched here (ledger_after_all shape threads events) 0
  stretched_begins events here is idle =
      let l = ledger_after_all shape threads events in
      let undos = undos_after shape again threads events here is in
      record {
        busy = 0;
        b = at_begin l shape threads here wide (unwatched watched) (turns_in shape threads wide) 0;
        old = unwatched watched;
        spent = 0;
        live = live_begins shape again threads here l wide (unwatched watched) (turns_in shape threads wide) 0 undos
            (sound_threads shape threads events here is) (sound shape threads events here is)
            (λ t r at new. absurd (none-some r (sym (idle t (watched_is watched t new)) ∙ at)));
        fair = fair_begin shape threads l here wide (unwatched watched) (turns_in shape threads wide) 0
            undos.holds.inv.base.ends;
        count = omega (arith, few_old (unwatched watched) threads);
        names = refl;
        spare = refl;
        turns = refl;
        lost = none_lost shape threads wide;
        all = omega arith;
        new = λ t is. watched_new watched t is;
      }

-- what the definitions choose by the width of the ring
room_in : (shape : Shape) (threads : ℕ) → threads < shape.n → names_of (is_wide shape threads) threads < shape.n
room_in shape threads few = elim (cases_Bool (is_wide shape threads)) [
  | inl wide ↦ let w : 2 * threads < shape.n = ltb-true (2 * threads) shape.n wide in rw wide w
  | inr narrow ↦ rw narrow few
]

steps_in : (shape : Shape) (threads : ℕ)
    → steps_by shape threads (is_wide shape threads) threads + most_steps shape threads
    (names_of (is_wide shape threads) threads)
    ≤ steps_to_answer shape threads
steps_in shape threads = elim (cases_Bool (is_wide shape threads)) [
  | inl wide ↦ rw wide (omega arith)
  | inr narrow ↦ rw narrow (omega arith)
]

unsealed_answers : (shape : Shape) (threads : ℕ) → shape.holds_again ≡ true → threads < shape.n
    → (events stretch : List Event)
    (here there : World) → after shape threads events ≡ Some here → run shape (Some here) stretch ≡ Some there
    → AllHaveTurns (turns_for_progress shape threads) stretch → seals_in stretch ≡ 0
    → calls_answered shape (Some here) stretch ≡ 0
    → call_steps stretch ≤ steps_to_answer shape threads
unsealed_answers shape threads again few events stretch here there is made turns unsealed none =
    let l = ledger_after_all shape threads events in
    let wide = is_wide shape threads in
    let room = room_in shape threads few in
    let begun = stretched_begins shape again threads wide room None events here is (λ t is. absurd (none-some t is)) in
    let bound = stretched_bound shape again threads wide room None there (ledger_of shape (Some here) stretch l)
    (0 + call_steps stretch)
    (stretched shape again threads wide room None stretch here there l 0 begun turns unsealed made none) in
    omega (arith, bound, steps_in shape threads)

pub some_call_answers : (shape : Shape) (threads : ℕ) → shape.holds_again ≡ true → threads < shape.n
    → SomeCallAnswers shape threads
some_call_answers shape threads again few events stretch here there is made turns none =
    with_seals shape threads (steps_to_answer shape threads) (turns_for_progress shape threads) answers_of
    (unsealed_answers shape threads again few) (seals_in stretch) events stretch here there is made turns refl none

-- a thread is idle before a call begins
going_idle : (shape : Shape) (place : Option Running) (call : Begin) (r : Running) → going shape place (Some call)
    ≡ Some r → place ≡ None
going_idle shape None call r g = refl
going_idle shape (Some q) call r g = absurd (none-some r g)

idle_before : (shape : Shape) (here there : World) (thread : ℕ) (call : Begin) (events others : List Event)
    → own thread events ≡ event thread (Some call) ∷ others → run shape (Some here) events ≡ Some there
    → place_of here thread ≡ None
idle_before shape here there thread call [] others first is = absurd (cc)
idle_before shape here there thread call (e ∷ es) others first is =
    let m = first_made shape here e there es is in
    elim (own_first thread e es) [
      | inl mine ↦
          let both : e ∷ own thread es ≡ event thread (Some call) ∷ others = sym mine.1 ∙ first in
          let begins : e.begin ≡ Some call =
          (let h : e ≡ event thread (Some call) = cc in ap (λ (x : Event). x.begin) h) in
          let idle : place_of here e.thread ≡ None = elim (stepped shape here e m.0 m.1.0 m.1.1.0) [
            | inl s ↦ going_idle shape (place_of here e.thread) call s.running
                (ap (going shape (place_of here e.thread)) (sym begins) ∙ s.goes)
            | inr t ↦ t.idle
          ] in
          ap (place_of here) (sym mine.0) ∙ idle
      | inr other ↦
          let later : place_of m.0 thread ≡ None =
          idle_before shape m.0 there thread call es others (sym other.1 ∙ first) m.1.1.1 in
          sym (other_place shape here e m.0 m.1.0 thread other.0 m.1.1.0) ∙ later
    ]

turns_before : (least : ℕ) (xs ys : List Event) → AllHaveTurns least (xs ++ ys) → AllHaveTurns least xs
turns_before least [] ys h = tt
turns_before least (e ∷ xs) ys h = (h.0, turns_before least xs ys h.1)

seals_before : (xs ys : List Event) → seals_in xs ≤ seals_in (xs ++ ys)
seals_before [] ys = omega arith
seals_before (e ∷ xs) ys = omega (arith, seals_before xs ys)

counted_before : (shape : Shape) (world : Option World) (xs ys : List Event)
    → calls_answered shape world xs ≤ calls_answered shape world (xs ++ ys)
counted_before shape world [] ys = omega arith
counted_before shape None (e ∷ xs) ys = omega arith
counted_before shape (Some world) (e ∷ xs) ys =
    omega (arith, counted_before shape (world_of (step shape world e)) xs ys)

pub busy_means_progress : (shape : Shape) (threads : ℕ) → shape.holds_again ≡ true → threads < shape.n
    → BusyMeansProgress shape threads
busy_means_progress shape threads again few thread call old new whole turns =
    let k = run_before shape (Some (opening shape threads)) whole.before old whole.between whole.reached in
    rw k.1 (elim
    (cases_lt 0 (calls_answered shape (Some k.0) (whole.between ++ whole.last ∷ []) + seals_in
    (whole.between ++ whole.last ∷ []))) [
      | inl some ↦ some
      | inr none ↦
          let all : run shape (Some k.0) (whole.between ++ whole.last ∷ []) ≡ Some whole.world =
          run_on shape (Some k.0) whole.before whole.between (whole.last ∷ []) k.2 ∙ ap world_of whole.ends in
          let idle : place_of k.0 thread ≡ None =
          idle_before shape k.0 whole.world thread call (whole.between ++ whole.last ∷ []) whole.one_call.others
          whole.one_call.first all in
          let wide = is_wide shape threads in
          let room = room_in shape threads few in
          let begun = stretched_begins shape again threads wide room (Some thread) old k.0 k.1
          (λ t is. ap (place_of k.0) (sym (same_Some thread t is)) ∙ idle) in
          let quiet : calls_answered shape (Some k.0) whole.between ≡ 0 =
          omega (arith, none, counted_before shape (Some k.0) whole.between (whole.last ∷ [])) in
          let unsealed : seals_in whole.between ≡ 0 =
          omega (arith, none, seals_before whole.between (whole.last ∷ [])) in
          let h = stretched shape again threads wide room (Some thread) whole.between k.0 whole.before
          (ledger_after_all shape threads old) 0 begun
          (turns_before (turns_for_progress shape threads) whole.between (whole.last ∷ []) turns) unsealed k.2 quiet in
          let was = busy_old shape again threads wide room (Some thread) whole.before whole.world whole.last
          (ledger_of shape (Some k.0) whole.between (ledger_after_all shape threads old)) (0 + call_steps whole.between)
          h whole.ends in
          absurd (false≢true (sym (ap h.old whole.last_own ∙ h.new thread refl) ∙ was))
    ])

-- a call can have so many turns
pub few_turns : (shape : Shape) (threads : ℕ) → threads ≤ 64 → 2 * threads < shape.n
    → turns_for_progress shape threads < 65536
few_turns shape threads few is_wide_ring =
    let n = shape.few_segments in
    let wide : is_wide shape threads ≡ true = lt-ltb (2 * threads) shape.n is_wide_ring in
    let square : 2 * threads * (2 * threads + 1) ≤ 2 * threads * 129 =
    mul-le-mul_left (2 * threads) (omega (arith, few)) in
    rw wide (omega (arith, square, few, n))

pub turns_of_few : (shape : Shape) (threads : ℕ) → threads ≤ 29 → turns_for_progress shape threads < 65536
turns_of_few shape threads few = elim (cases_Bool (is_wide shape threads)) [
  | inl wide ↦ few_turns shape threads (omega (arith, few)) (ltb-true (2 * threads) shape.n wide)
  | inr narrow ↦
      let n : shape.n ≤ 2 * threads = ltb-false (2 * threads) shape.n narrow in
      let square : 2 * threads * (threads + 1) ≤ 2 * threads * 30 =
      mul-le-mul_left (2 * threads) (omega (arith, few)) in
      let lost : most_changes shape threads threads + 1 ≤ 2002 = omega (arith, square, few, n) in
      let all : (threads + 1) * (most_changes shape threads threads + 1) ≤ (threads + 1) * 2002 =
      mul-le-mul_left (threads + 1) lost in
      rw narrow (omega (arith, all, few))
]
