-- A call has few events.
use Rattle.std.proofs.Common.{◌≡◌, ◌≢◌, ◌⊎◌, ℕ, ◌+◌, ◌*◌, ◌<◌, ◌≤◌, List, [], ◌∷◌, length, Option, Some, None, Ok, Bool}
use Rattle.std.proofs.Common.{true, false, refl, sym, ap, ◌∙◌, subst, inl, inr, arith, cond, eq-eqb}
use Rattle.std.specs.Prelude.{◌==◌}
use Rattle.std.proofs.lemmas.Bool.{eqb-true}
use Rattle.std.proofs.lemmas.Bool.Decides.{nat_tests}
use Rattle.std.proofs.lemmas.Grind.{get_or-set_at}
use Rattle.kfifo_machine.proofs.Types.{Begin, Event, Next, Outcome, Running, Shape}
use Rattle.kfifo_machine.specs.declared.event.Begin.TheVariants as B
use Rattle.kfifo_machine.specs.declared.place.EnqueuePhase.TheVariants as E
use Rattle.kfifo_machine.specs.declared.place.DequeuePhase.TheVariants as D
use Rattle.kfifo_machine.specs.declared.place.Running.TheVariants as R
use Rattle.kfifo_machine.specs.declared.place.Next.TheVariants.{Goes, Answers}
use Rattle.kfifo_machine.specs.Program.{advance}
use Rattle.kfifo_machine.specs.Machine.{World, opening, place_of, place_after, moved, found, may_begin, step, run}
use Rattle.kfifo_machine.specs.Runs.{event, own, going, AllGoOn}
use Rattle.kfifo_machine.specs.Places.{IsPlace}
use Rattle.kfifo_machine.specs.Laws.{most_events, FewEvents}
use Rattle.kfifo_machine.proofs.Places.{budget, budget_falls, budget-begin, NextBelow}
use Rattle.kfifo_machine.proofs.Schedules.{Some-injective, run_before, first_made, made_within, stepped, other_place}
use Rattle.kfifo_machine.proofs.Sound.{IsSound, going_place, place_is, step_sound, opening_sound, run_sound}

-- how many events a thread may still have in its call
abbrev pub left_of : ℕ → Option Running → ℕ
left_of k None = 0
left_of k (Some running) = budget k running

-- the place of the thread that made an event
pub own_place : (shape : Shape) (here : World) (thread : ℕ) (running : Running) → thread < length here.places
    → place_of (moved shape here thread running) thread ≡ place_after (advance shape running (found shape here running))
unfolding moved place_of
own_place shape here thread running within =
    get_or-set_at here.places thread thread (place_after (advance shape running (found shape here running))) None refl
    within

below_left : (k bound : ℕ) (next : Next) → 0 < bound → NextBelow k bound next → left_of k (place_after next) < bound
below_left k bound (Goes running) some less = less
below_left k bound (Answers answer) some less = some

budget-some : (shape : Shape) (running : Running) → IsPlace shape running → 0 < budget shape.k running
budget-some shape running place = grind (arith, nat_tests)

-- each own event brings a call nearer to its end
pub left_falls : (shape : Shape) (here : World) (e : Event) (there : World) (outcome : Outcome) (running : Running)
    → IsSound shape here
    → step shape here e ≡ Ok (there, outcome)
    → going shape (place_of here e.thread) e.begin ≡ Some running
    → left_of shape.k (place_of there e.thread) < budget shape.k running
left_falls shape here e there outcome running sound is goes =
    elim (stepped shape here e there outcome is) [
      | inl s ↦
          let same : s.running ≡ running = Some-injective s.running running (sym s.goes ∙ goes) in
          let place : IsPlace shape s.running = going_place shape (place_of here e.thread) e.begin s.running
          (λ r t. place_is shape here e.thread r sound t) s.goes in
          let next : left_of shape.k (place_after (advance shape s.running (found shape here s.running))) < budget
          shape.k s.running =
          below_left shape.k (budget shape.k s.running) (advance shape s.running (found shape here s.running))
          (budget-some shape s.running place) (budget_falls shape s.running (found shape here s.running) place) in
          let at : place_of there e.thread ≡ place_after (advance shape s.running (found shape here s.running)) =
          ap (λ (w : World). place_of w e.thread) s.there_is
          ∙ own_place shape here e.thread s.running (made_within shape here e there outcome is) in
          let e1 : left_of shape.k (place_of there e.thread)
          ≡ left_of shape.k (place_after (advance shape s.running (found shape here s.running))) =
          ap (left_of shape.k) at in
          let e2 : budget shape.k s.running ≡ budget shape.k running = ap (budget shape.k) same in
          omega arith
      | inr t ↦ absurd (let h : None ≡ Some running = sym t.begins_none ∙ goes in cc)
    ]

-- an event that begins nothing goes on from its thread's place
pub goes_on_from : (shape : Shape) (here : World) (e : Event) (there : World) (outcome : Outcome)
    → step shape here e ≡ Ok (there, outcome)
    → e.begin ≡ None
    → (running : Running) × (place_of here e.thread ≡ Some running)
goes_on_from shape here e there outcome is none =
    elim (stepped shape here e there outcome is) [
      | inl s ↦ (
        s.running,
        from_place (place_of here e.thread) s.running
            (ap (going shape (place_of here e.thread)) (sym none) ∙ s.goes),
      )
      | inr o ↦ absurd (elim o.by [
        | inl t ↦ let h : None ≡ Some B.Tick = sym none ∙ t.begins in cc
        | inr z ↦ let h : None ≡ Some B.Seal = sym none ∙ z.begins in cc
      ])
    ]
  where
    from_place : (place : Option Running) (running : Running) → going shape place None ≡ Some running
        → place ≡ Some running
    from_place None running at = absurd (cc)
    from_place (Some r) running at = at

-- the own events of a schedule are those of its first event and of the others
pub own_first : (thread : ℕ) (e : Event) (es : List Event)
    → ((e.thread ≡ thread) × (own thread (e ∷ es) ≡ e ∷ own thread es))
    ⊎ ((thread ≢ e.thread) × (own thread (e ∷ es) ≡ own thread es))
own_first thread e es = by_test (e.thread == thread) refl
  where
    by_test : (b : Bool) → (e.thread == thread) ≡ b
        → ((e.thread ≡ thread) × (cond b (e ∷ own thread es) (own thread es) ≡ e ∷ own thread es))
        ⊎ ((thread ≢ e.thread) × (cond b (e ∷ own thread es) (own thread es) ≡ own thread es))
    by_test true is = inl (eqb-true e.thread thread is, refl)
    by_test false is =
        inr ((λ same. absurd (let h : (e.thread == thread) ≡ true = eq-eqb e.thread thread (sym same) in (cc))), refl)

-- a thread that begins nothing has at most the events that its place leaves it
pub few_left : (shape : Shape) (here there : World) (thread : ℕ) (events : List Event) → IsSound shape here
    → AllGoOn (own thread events)
    → run shape (Some here) events ≡ Some there
    → length (own thread events) ≤ left_of shape.k (place_of here thread)
few_left shape here there thread [] sound on is = omega arith
few_left shape here there thread (e ∷ es) sound on is =
    let m = first_made shape here e there es is in
    let later : IsSound shape m.0 = step_sound shape here e m.0 m.1.0 sound m.1.1.0 in
    elim (own_first thread e es) [
      | inl mine ↦
          let both : (e.begin ≡ None) × AllGoOn (own thread es) = subst AllGoOn mine.1 on in
          let at = goes_on_from shape here e m.0 m.1.0 m.1.1.0 both.0 in
          let goes : going shape (place_of here e.thread) e.begin ≡ Some at.0 =
          ap (going shape (place_of here e.thread)) both.0 ∙ ap (λ (p : Option Running). going shape p None) at.1 in
          let falls : left_of shape.k (place_of m.0 e.thread) < budget shape.k at.0 =
          left_falls shape here e m.0 m.1.0 at.0 sound m.1.1.0 goes in
          let others : length (own thread es) ≤ left_of shape.k (place_of m.0 thread) =
          few_left shape m.0 there thread es later both.1 m.1.1.1 in
          let e1 : left_of shape.k (place_of m.0 e.thread) ≡ left_of shape.k (place_of m.0 thread) =
          ap (λ t. left_of shape.k (place_of m.0 t)) mine.0 in
          let e2 : left_of shape.k (place_of here thread) ≡ budget shape.k at.0 =
          ap (λ t. left_of shape.k (place_of here t)) (sym mine.0) ∙ ap (left_of shape.k) at.1 in
          let e3 : length (own thread (e ∷ es)) ≡ length (e ∷ own thread es) = ap length mine.1 in
          omega arith
      | inr other ↦
          let others : length (own thread es) ≤ left_of shape.k (place_of m.0 thread) =
          few_left shape m.0 there thread es later (subst AllGoOn other.1 on) m.1.1.1 in
          let e1 : left_of shape.k (place_of m.0 thread) ≡ left_of shape.k (place_of here thread) =
          ap (left_of shape.k) (other_place shape here e m.0 m.1.0 thread other.0 m.1.1.0) in
          let e3 : length (own thread (e ∷ es)) ≡ length (own thread es) = ap length other.1 in
          omega arith
    ]

-- the place at which a call begins leaves it all its events
begun_left : (shape : Shape) (place : Option Running) (call : Begin) (running : Running) → going shape place (Some call)
    ≡ Some running
    → budget shape.k running ≡ most_events shape call
begun_left shape (Some r) call running is = absurd (cc)
begun_left shape None B.Tick running is = absurd (cc)
begun_left shape None B.Seal running is = absurd (cc)
begun_left shape None (B.Enqueue item start turns) running is = begins (may_begin shape (B.Enqueue item start turns))
    refl is
  where
    begins : (m : Bool) → may_begin shape (B.Enqueue item start turns) ≡ m
        → cond m (Some (R.Enqueue item start turns E.LoadEnds)) None ≡ Some running
        → budget shape.k running ≡ turns * (2 * shape.k + 9)
    begins true may at = ap (budget shape.k) (sym (Some-injective _ running at))
        ∙ budget-begin shape.k item start turns (some_turns may)
      where
        some_turns : may_begin shape (B.Enqueue item start turns) ≡ true → 0 < turns
        some_turns may = grind (arith, nat_tests)
    begins false may at = absurd (cc)
begun_left shape None (B.Dequeue start turns) running is = begins (may_begin shape (B.Dequeue start turns)) refl is
  where
    begins : (m : Bool) → may_begin shape (B.Dequeue start turns) ≡ m
        → cond m (Some (R.Dequeue start turns D.LoadEnds)) None ≡ Some running
        → budget shape.k running ≡ turns * (2 * shape.k + 9)
    begins true may at = ap (budget shape.k) (sym (Some-injective _ running at)) ∙ dequeue_begin (some_turns may)
      where
        some_turns : may_begin shape (B.Dequeue start turns) ≡ true → 0 < turns
        some_turns may = grind (arith, nat_tests)

        dequeue_begin : 0 < turns → budget shape.k (R.Dequeue start turns D.LoadEnds) ≡ turns * (2 * shape.k + 9)
        dequeue_begin h = budget-begin shape.k 0 start turns h
    begins false may at = absurd (cc)

-- the first event of a call, and what it leaves
pub begin_left : (shape : Shape) (here : World) (e : Event) (there : World) (outcome : Outcome) (call : Begin)
    → IsSound shape here
    → step shape here e ≡ Ok (there, outcome) → e.begin ≡ Some call
    → left_of shape.k (place_of there e.thread) < most_events shape call
begin_left shape here e there outcome call sound is begins =
    elim (stepped shape here e there outcome is) [
      | inl s ↦
          let falls : left_of shape.k (place_of there e.thread) < budget shape.k s.running =
          left_falls shape here e there outcome s.running sound is s.goes in
          let all : budget shape.k s.running ≡ most_events shape call =
          begun_left shape (place_of here e.thread) call s.running
          (ap (going shape (place_of here e.thread)) (sym begins) ∙ s.goes) in
          omega arith
      | inr t ↦
          let gone : left_of shape.k (place_of there e.thread) ≡ 0 =
          ap (left_of shape.k) (t.leaves e.thread ∙ t.idle) in
          let one : most_events shape call ≡ 1 = elim t.by [
            | inl tick ↦ ap (most_events shape) (Some-injective call B.Tick (sym begins ∙ tick.begins))
            | inr seal ↦ ap (most_events shape) (Some-injective call B.Seal (sym begins ∙ seal.begins))
          ] in
          omega arith
    ]

few_run : (shape : Shape) (here there : World) (thread : ℕ) (call : Begin) (events others : List Event)
    → IsSound shape here
    → run shape (Some here) events ≡ Some there
    → own thread events ≡ event thread (Some call) ∷ others → AllGoOn others
    → length (own thread events) ≤ most_events shape call
few_run shape here there thread call [] others sound is first on = absurd (cc)
few_run shape here there thread call (e ∷ es) others sound is first on =
    let m = first_made shape here e there es is in
    let later : IsSound shape m.0 = step_sound shape here e m.0 m.1.0 sound m.1.1.0 in
    elim (own_first thread e es) [
      | inl mine ↦
          let both : e ∷ own thread es ≡ event thread (Some call) ∷ others = sym mine.1 ∙ first in
          let rest : own thread es ≡ others = cc in
          let begins : e.begin ≡ Some call = let same : e ≡ event thread (Some call) = cc in
          ap (λ (x : Event). x.begin) same in
          let some : left_of shape.k (place_of m.0 e.thread) < most_events shape call =
          begin_left shape here e m.0 m.1.0 call sound m.1.1.0 begins in
          let few : length (own thread es) ≤ left_of shape.k (place_of m.0 thread) =
          few_left shape m.0 there thread es later (subst AllGoOn (sym rest) on) m.1.1.1 in
          let e1 : left_of shape.k (place_of m.0 e.thread) ≡ left_of shape.k (place_of m.0 thread) =
          ap (λ t. left_of shape.k (place_of m.0 t)) mine.0 in
          let e3 : length (own thread (e ∷ es)) ≡ length (e ∷ own thread es) = ap length mine.1 in
          omega arith
      | inr other ↦
          let few : length (own thread es) ≤ most_events shape call =
          few_run shape m.0 there thread call es others later m.1.1.1 (sym other.1 ∙ first) on in
          let e3 : length (own thread (e ∷ es)) ≡ length (own thread es) = ap length other.1 in
          omega arith
    ]

-- in every schedule a call has few events
pub few_events : (shape : Shape) (threads : ℕ) → FewEvents shape threads
few_events shape threads = λ thread call before events here is once.
    let k = run_before shape (Some (opening shape threads)) here before events is in
    few_run shape k.0 here thread call events once.others
    (run_sound shape (opening shape threads) k.0 before (opening_sound shape threads) k.1) k.2 once.first once.go_on
