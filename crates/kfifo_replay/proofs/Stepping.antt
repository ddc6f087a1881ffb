-- The steps of a schedule with one event more.
use Rattle.std.proofs.Common.{◌≡◌, ℕ, suc, ◌<◌, List, [], ◌∷◌, ◌++◌, length, take, Option, Some, None, Ok, refl, sym}
use Rattle.std.proofs.Common.{◌∙◌, ap, subst, inl, inr, arith, length-append}
use Rattle.std.proofs.lemmas.Bool.{cases_lt}
use Rattle.std.proofs.lemmas.List.{append-nil, length-take-le, take_all, take-append-le}
use Rattle.std.specs.Prelude.{IfSome}
use Rattle.kfifo_replay.proofs.Types.{Begin, Event, Outcome, Running, Shape}
use Rattle.kfifo_machine.specs.Machine.{World, begun, place_of, run, step, word_at, world_of}
use Rattle.kfifo_machine.specs.Program.{access, accessed}
use Rattle.kfifo_machine.specs.Runs.{going}
use Rattle.kfifo_machine.proofs.Paths.{begins_from}
use Rattle.kfifo_machine.proofs.Schedules.{Some-injective}
use Rattle.kfifo_replay.specs.declared.steps.Step.{Step}
use Rattle.kfifo_replay.specs.declared.steps.Upcoming.{Upcoming}
use Rattle.kfifo_replay.specs.Player.{Trace}
use Rattle.kfifo_replay.specs.Steps.{AreSteps, IsStep}
use Rattle.kfifo_replay.specs.Traces.{IsUpcoming, KeepsStep, step_of, step_seen}

-- as many steps as events
pub length_of : (shape : Shape) (here : World) (events : List Event) (steps : List Step)
    → AreSteps shape here events steps
    → length steps ≡ length events
length_of shape here [] [] are = refl
length_of shape here [] (s ∷ steps) are = absurd are
length_of shape here (e ∷ events) [] are = absurd are
length_of shape here (e ∷ events) (s ∷ steps) are = ap (λ n. suc n) (length_of shape are.0 events steps are.2)

-- what one event more does stands behind the steps before it
pub one_more : (shape : Shape) (here there next : World) (events : List Event) (steps : List Step) (e : Event)
    (s : Step)
    → AreSteps shape here events steps
    → run shape (Some here) events ≡ Some there → IsStep shape there e next s
    → AreSteps shape here (events ++ e ∷ []) (steps ++ s ∷ [])
one_more shape here there next [] [] e s are reached is =
    (next, subst (λ (w : World). IsStep shape w e next s) (sym (Some-injective here there reached)) is, tt)
one_more shape here there next [] (y ∷ ys) e s are reached is = absurd are
one_more shape here there next (x ∷ xs) [] e s are reached is = absurd are
one_more shape here there next (x ∷ xs) (y ∷ ys) e s are reached is =
    let on : run shape (world_of (step shape here x)) xs ≡ run shape (Some are.0) xs =
    ap (λ r. run shape (world_of r) xs) are.1.made in
    (are.0, are.1, one_more shape are.0 there next xs ys e s are.2 (sym on ∙ reached) is)

-- so it is where only the first steps are kept
pub kept_more : (most : ℕ) (shape : Shape) (here there next : World) (events : List Event) (steps : List Step)
    (e : Event) (s : Step)
    → AreSteps shape here (take most events) steps
    → run shape (Some here) events ≡ Some there → IsStep shape there e next s
    → AreSteps shape here (take most (events ++ e ∷ [])) (take most (steps ++ s ∷ []))
kept_more most shape here there next events steps e s are reached is =
    let same : length steps ≡ length (take most events) = length_of shape here (take most events) steps are in
    elim (cases_lt (length events) most) [
      | inl few ↦
          let all : take most events ≡ events = take_all most events (omega (arith, few)) in
          let size : length steps ≡ length events = same ∙ ap (λ (xs : List Event). length xs) all in
          let events_all : take most (events ++ e ∷ []) ≡ events ++ e ∷ [] =
          take_all most (events ++ e ∷ []) (let n = length-append events (e ∷ []) in omega (arith, n, few)) in
          let steps_all : take most (steps ++ s ∷ []) ≡ steps ++ s ∷ [] =
          take_all most (steps ++ s ∷ []) (let n = length-append steps (s ∷ []) in omega (arith, n, few, size)) in
          subst (λ (xs : List Event). AreSteps shape here xs (take most (steps ++ s ∷ []))) (sym events_all)
          (subst (λ (ys : List Step). AreSteps shape here (events ++ e ∷ []) ys) (sym steps_all)
          (one_more shape here there next events steps e s (subst (λ (xs : List Event). AreSteps shape here xs steps)
          all are) reached is))
      | inr many ↦
          let size : length steps ≡ most = same ∙ length-take-le most events many in
          let events_same : take most (events ++ e ∷ []) ≡ take most events =
          take-append-le most events (e ∷ []) many in
          let steps_same : take most (steps ++ s ∷ []) ≡ steps =
          take-append-le most steps (s ∷ []) (omega (arith, size)) ∙ take_all most steps (omega (arith, size)) in
          subst (λ (xs : List Event). AreSteps shape here xs (take most (steps ++ s ∷ []))) (sym events_same)
          (subst (λ (ys : List Step). AreSteps shape here (take most events) ys) (sym steps_same) are)
    ]

-- a trace that is full stays as it is, and one that is not has the step behind the others
pub full_stays : (most : ℕ) (steps : List Step) (s : Step) → length steps ≡ most → steps ≡ take most (steps ++ s ∷ [])
full_stays most steps s full =
    sym (take-append-le most steps (s ∷ []) (omega (arith, full)) ∙ take_all most steps (omega (arith, full)))

pub keeps_all : (most : ℕ) (steps : List Step) (s : Step) → length steps < most
    → steps ++ s ∷ [] ≡ take most (steps ++ s ∷ [])
keeps_all most steps s few =
    sym (take_all most (steps ++ s ∷ []) (let n = length-append steps (s ∷ []) in omega (arith, n, few)))

-- a trace with this number and these steps
trace_is : (before after : Trace) (steps : List Step) → after.most ≡ before.most → after.steps ≡ steps
    → after ≡ record before { steps = steps }
trace_is before after steps most is =
    ap (λ n. record { most = n; steps = after.steps }) most ∙ ap (λ (xs : List Step). record {
      most = before.most;
      steps = xs;
    }) is

-- a step that was looked at before is kept; one that was not is told by its place, and the trace is full
pub keeps_step : (shape : Shape) (here there : World) (e : Event) (outcome : Outcome) (look : Option Upcoming)
    (before after : Trace)
    → (running : Running) × (going shape (place_of here e.thread) e.begin ≡ Some running)
    → step shape here e ≡ Ok (there, outcome)
    → (look ≡ None → length before.steps ≡ before.most) → IfSome look (λ _. length before.steps < before.most)
    → IfSome look (IsUpcoming shape here e) → after.most ≡ before.most
    → after.steps ≡ before.steps ++ step_seen there e.thread look outcome → KeepsStep shape here e there before after
keeps_step shape here there e outcome None before after goes made full room look most steps =
    let s : Step = record {
      thread = e.thread;
      place = goes.0;
      access = access shape goes.0;
      before = word_at here (accessed (access shape goes.0));
      after = word_at there (accessed (access shape goes.0));
      outcome = outcome;
    } in (
      s,
      record { thread = refl; place = goes.1; does = refl; before = refl; after = refl; made = made },
      trace_is before after (take before.most (before.steps ++ s ∷ [])) most
          (steps ∙ append-nil before.steps ∙ full_stays before.most before.steps s (full refl)),
    )
keeps_step shape here there e outcome (Some l) before after goes made full room look most steps =
    let s : Step = step_of there e.thread l outcome in (
      s,
      record { thread = refl; place = look.place; does = look.does; before = look.before; after = refl; made = made },
      trace_is before after (take before.most (before.steps ++ s ∷ [])) most
          (steps ∙ keeps_all before.most before.steps s room),
    )

-- the place of a thread in its call is the one from which it makes its step, and else the first place of the call that
-- it begins
pub stays_at : (shape : Shape) (place : Option Running) (begin : Option Begin) (running : Running)
    → going shape place begin ≡ Some running
    → (r : Running) → place ≡ Some r → place ≡ going shape place begin
stays_at shape (Some p) None running goes r is = refl
stays_at shape (Some p) (Some call) running goes r is = absurd (cc)
stays_at shape None begin running goes r is = absurd (cc)

pub begins_at : (shape : Shape) (place : Option Running) (begin : Option Begin) (call : Begin) (running : Running)
    → going shape place begin ≡ Some running → begin ≡ Some call → begun call ≡ going shape place begin
begins_at shape place begin call running goes is =
    begins_from shape place call running (ap (going shape place) (sym is) ∙ goes) ∙ sym goes
