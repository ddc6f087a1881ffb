-- What one event and a schedule leave of the machine.
use Rattle.std.proofs.Common.{◌≡◌, ◌≢◌, ◌⊎◌, ℕ, zero, suc, ◌+◌, ◌<◌, List, [], ◌∷◌, ◌++◌, length, get_or, Option, Some}
use Rattle.std.proofs.Common.{None, Result, Ok, Err, Bool, true, false, refl, sym, ap, ◌∙◌, subst, inl, inr, arith}
use Rattle.std.proofs.Common.{cond, eq-eqb, nat_lt, take, add-one}
use Rattle.std.specs.Prelude.{◌==◌, slice_get}
use Rattle.std.proofs.lemmas.List.{get_or-set_other, length-set}
use Rattle.std.proofs.lemmas.List.Elements.{filter-append}
use Rattle.std.proofs.lemmas.Bool.{ltb-true, lt-ltb}
use Rattle.std.proofs.Math.Seq.{take-suc}
use Rattle.kfifo_machine.proofs.Types.{Begin, Event, NotEnabled, Outcome, Running, Shape}
use Rattle.kfifo_machine.specs.declared.event.Begin.TheVariants as B
use Rattle.kfifo_machine.specs.declared.event.Outcome.TheVariants.{Went}
use Rattle.kfifo_machine.specs.declared.event.NotEnabled.TheVariants.{NoSuchThread, BadCall, ClockSpent, NotSealable}
use Rattle.kfifo_machine.specs.declared.place.Running.TheVariants as R
use Rattle.kfifo_machine.specs.declared.place.EnqueuePhase.TheVariants as E
use Rattle.kfifo_machine.specs.declared.place.DequeuePhase.TheVariants as D
use Rattle.kfifo_words.specs.Ring.{clock_at}
use Rattle.kfifo_machine.specs.Program.{advance}
use Rattle.kfifo_machine.specs.Machine.{World, word_at, opening, moved, ticked, sealed, found, place_of, place_after}
use Rattle.kfifo_machine.specs.Machine.{outcome_of, begun, may_begin, may_seal, step_from, step, world_of, run, after}
use Rattle.kfifo_machine.specs.Machine.{IsFirstRefused}
use Rattle.kfifo_machine.specs.Runs.{own, going}

pub Some-injective : {A : Type 0} (x y : A) → Some x ≡ Some y → x ≡ y
Some-injective x y e = cc

pub run_none : (shape : Shape) (events : List Event) → run shape None events ≡ None
run_none shape [] = refl
run_none shape (e ∷ es) = refl

pub run-append : (shape : Shape) (world : Option World) (xs ys : List Event)
    → run shape world (xs ++ ys) ≡ run shape (run shape world xs) ys
run-append shape world [] ys = refl
run-append shape None (e ∷ xs) ys = sym (run_none shape ys)
run-append shape (Some world) (e ∷ xs) ys = run-append shape (world_of (step shape world e)) xs ys

pub run_on : (shape : Shape) (world : Option World) (here : World) (xs ys : List Event) → run shape world xs ≡ Some here
    → run shape world (xs ++ ys) ≡ run shape (Some here) ys
run_on shape world here xs ys is = run-append shape world xs ys ∙ ap (λ (o : Option World). run shape o ys) is

-- a schedule with one event more
pub after-snoc : (shape : Shape) (threads : ℕ) (events : List Event) (here : World) (e : Event)
    → after shape threads events ≡ Some here
    → after shape threads (events ++ e ∷ []) ≡ world_of (step shape here e)
after-snoc shape threads events here e is = run_on shape (Some (opening shape threads)) here events (e ∷ []) is

is_some_world : (o : Option World) (shape : Shape) (there : World) (ys : List Event) → run shape o ys ≡ Some there
    → (here : World)
    × (o ≡ Some here)
is_some_world None shape there ys is = absurd (let e : None ≡ Some there = sym (run_none shape ys) ∙ is in cc)
is_some_world (Some here) shape there ys is = (here, refl)

-- a beginning of a schedule is one
pub run_before : (shape : Shape) (world : Option World) (there : World) (xs ys : List Event)
    → run shape world (xs ++ ys) ≡ Some there
    → (here : World) × (run shape world xs ≡ Some here) × (run shape (Some here) ys ≡ Some there)
run_before shape world there xs ys is =
    let split : run shape (run shape world xs) ys ≡ Some there = sym (run-append shape world xs ys) ∙ is in
    let h = is_some_world (run shape world xs) shape there ys split in
    (h.0, h.1, ap (λ (o : Option World). run shape o ys) (sym h.1) ∙ split)

pub own-append : (thread : ℕ) (xs ys : List Event) → own thread (xs ++ ys) ≡ own thread xs ++ own thread ys
own-append thread xs ys = filter-append (λ (e : Event). e.thread == thread) xs ys

pub take-next : (events : List Event) (place : ℕ) (d : Event) → place < length events
    → take (place + 1) events ≡ take place events ++ get_or events place d ∷ []
take-next events place d within = rw add-one (take-suc events place d within)

-- where the events up to a place are a schedule, and the next one is made, those up to the next place are one
pub goes_on : (shape : Shape) (threads : ℕ) (events : List Event) (place : ℕ) (d : Event) (s : Shape)
    (here there : World) (outcome : Outcome)
    → place < length events → s ≡ shape → after shape threads (take place events) ≡ Some here
    → step s here (get_or events place d) ≡ Ok (there, outcome) → after shape threads (take (place + 1) events)
    ≡ Some there
goes_on shape threads events place d s here there outcome within same is made =
    ap (after shape threads) (take-next events place d within)
    ∙ after-snoc shape threads (take place events) here (get_or events place d) is
    ∙ ap world_of (ap (λ (x : Shape). step x here (get_or events place d)) (sym same) ∙ made)

slice_get-is : (events : List Event) (place : ℕ) (d : Event) → place < length events
    → slice_get events place ≡ Some (get_or events place d)
slice_get-is [] place d within = absurd (omega arith)
slice_get-is (e ∷ es) zero d within = refl
slice_get-is (e ∷ es) (suc place) d within = slice_get-is es place d (omega arith)

-- and where it is refused, it is the first that is not enabled
pub stops : (shape : Shape) (threads : ℕ) (events : List Event) (place : ℕ) (d : Event) (s : Shape) (here : World)
    (fault : NotEnabled)
    → place < length events → s ≡ shape → after shape threads (take place events) ≡ Some here
    → step s here (get_or events place d) ≡ Err fault → IsFirstRefused shape threads events place
stops shape threads events place d s here fault within same is refused = record {
  event = get_or events place d;
  world = here;
  fault = fault;
  is_there = slice_get-is events place d within;
  before = is;
  refused = ap (λ (x : Shape). step x here (get_or events place d)) (sym same) ∙ refused;
}

-- how an event was made: a thread's step from a place; or, outside of calls, a tick or a seal
pub record StepsFrom (shape : Shape) (here : World) (thread : ℕ) (place : Option Running) (begin : Option Begin)
    (there : World) (outcome : Outcome) : Type 0 where
  pub running : Running
  pub goes : going shape place begin ≡ Some running
  pub there_is : there ≡ moved shape here thread running
  pub outcome_is : outcome ≡ outcome_of (advance shape running (found shape here running))

pub record Ticks (shape : Shape) (here : World) (begin : Option Begin) (there : World) : Type 0 where
  pub begins : begin ≡ Some B.Tick
  pub there_is : there ≡ ticked shape here

pub record Seals (shape : Shape) (here : World) (begin : Option Begin) (there : World) : Type 0 where
  pub begins : begin ≡ Some B.Seal
  pub may : may_seal shape (word_at here 0) ≡ true
  pub there_is : there ≡ sealed shape here

pub record Outside (shape : Shape) (here : World) (place : Option Running) (begin : Option Begin) (there : World)
    (outcome : Outcome) : Type 0 where
  pub idle : place ≡ None
  pub begins_none : going shape place begin ≡ None
  pub outcome_is : outcome ≡ Went
  pub stays : there.places ≡ here.places
  pub leaves : (thread : ℕ) → place_of there thread ≡ place_of here thread
  pub by : Ticks shape here begin there ⊎ Seals shape here begin there

ticks_outside : (shape : Shape) (here there : World) (outcome : Outcome) → there ≡ ticked shape here → outcome ≡ Went
    → Outside shape here None (Some B.Tick) there outcome
unfolding ticked place_of
ticks_outside shape here there outcome is came = record {
  idle = refl;
  begins_none = refl;
  outcome_is = came;
  stays = ap (λ (w : World). w.places) is;
  leaves = λ t. ap (λ (w : World). place_of w t) is;
  by = inl record { begins = refl; there_is = is };
}

seals_outside : (shape : Shape) (here there : World) (outcome : Outcome) → may_seal shape (word_at here 0) ≡ true
    → there ≡ sealed shape here → outcome ≡ Went
    → Outside shape here None (Some B.Seal) there outcome
unfolding sealed place_of
seals_outside shape here there outcome may is came = record {
  idle = refl;
  begins_none = refl;
  outcome_is = came;
  stays = ap (λ (w : World). w.places) is;
  leaves = λ t. ap (λ (w : World). place_of w t) is;
  by = inr record { begins = refl; may = may; there_is = is };
}

abbrev Made : Type 0
Made = Result (World × Outcome) NotEnabled

abbrev made : World → Outcome → Made
made world outcome = Ok (world, outcome)

parts_of : (x y : World) (o p : Outcome) → ◌≡◌ {A = Made} (Ok (x, o)) (Ok (y, p)) → (y ≡ x) × (p ≡ o)
parts_of x y o p e = let pair : ◌≡◌ {A = World × Outcome} (x, o) (y, p) = cc in
    (ap (λ (z : World × Outcome). z.0) (sym pair), ap (λ (z : World × Outcome). z.1) (sym pair))

may_have_begun : (m : Bool) (x y : World) (o p : Outcome)
    → ◌≡◌ {A = Made} (cond m (Ok (x, o)) (Err BadCall)) (Ok (y, p)) → (m ≡ true)
    × (y ≡ x) × (p ≡ o)
may_have_begun true x y o p e = let k = parts_of x y o p e in (refl, k.0, k.1)
may_have_begun false x y o p e = absurd (cc)

may_have_ticked : (m : Bool) (x y : World) (o p : Outcome)
    → ◌≡◌ {A = Made} (cond m (Err ClockSpent) (Ok (x, o))) (Ok (y, p)) → (y ≡ x)
    × (p ≡ o)
may_have_ticked false x y o p e = parts_of x y o p e
may_have_ticked true x y o p e = absurd (cc)

may_have_sealed : (m : Bool) (x y : World) (o p : Outcome)
    → ◌≡◌ {A = Made} (cond m (Ok (x, o)) (Err NotSealable)) (Ok (y, p)) → (m ≡ true)
    × (y ≡ x) × (p ≡ o)
may_have_sealed true x y o p e = let k = parts_of x y o p e in (refl, k.0, k.1)
may_have_sealed false x y o p e = absurd (cc)

by_place : (shape : Shape) (here : World) (thread : ℕ) (place : Option Running) (begin : Option Begin) (there : World)
    (outcome : Outcome)
    → step_from shape here thread place begin ≡ Ok (there, outcome)
    → StepsFrom shape here thread place begin there outcome
    ⊎ Outside shape here place begin there outcome
by_place shape here thread None None there outcome is = absurd (cc)
by_place shape here thread None (Some (B.Enqueue item start turns)) there outcome is =
    let k = may_have_begun (may_begin shape (B.Enqueue item start turns)) _ there _ outcome is in
    inl record {
      running = R.Enqueue item start turns E.LoadEnds;
      goes = ap (λ m. cond m (begun (B.Enqueue item start turns)) None) k.0;
      there_is = k.1;
      outcome_is = k.2;
    }
by_place shape here thread None (Some (B.Dequeue start turns)) there outcome is =
    let k = may_have_begun (may_begin shape (B.Dequeue start turns)) _ there _ outcome is in
    inl record {
      running = R.Dequeue start turns D.LoadEnds;
      goes = ap (λ m. cond m (begun (B.Dequeue start turns)) None) k.0;
      there_is = k.1;
      outcome_is = k.2;
    }
by_place shape here thread None (Some B.Tick) there outcome is =
    let k = may_have_ticked (word_at here (clock_at shape.k shape.n) == 18446744073709551615) _ there _ outcome is in
    inr (ticks_outside shape here there outcome k.0 k.1)
by_place shape here thread None (Some B.Seal) there outcome is =
    let k = may_have_sealed (may_seal shape (word_at here 0)) _ there _ outcome is in
    inr (seals_outside shape here there outcome k.0 k.1 k.2)
by_place shape here thread (Some running) None there outcome is =
    let k = parts_of _ there _ outcome is in
    inl record { running = running; goes = refl; there_is = k.0; outcome_is = k.1 }
by_place shape here thread (Some running) (Some begin) there outcome is = absurd (cc)

in_range : (shape : Shape) (here : World) (e : Event) (there : World) (outcome : Outcome) (b : Bool)
    → nat_lt e.thread (length here.places) ≡ b
    → cond b (step_from shape here e.thread (place_of here e.thread) e.begin) (Err NoSuchThread) ≡ Ok (there, outcome)
    → (e.thread < length here.places)
    × (step_from shape here e.thread (place_of here e.thread) e.begin ≡ Ok (there, outcome))
in_range shape here e there outcome true t is = (ltb-true e.thread (length here.places) t, is)
in_range shape here e there outcome false t is = absurd (cc)

-- an event that was made is of a thread that is there
pub made_within : (shape : Shape) (here : World) (e : Event) (there : World) (outcome : Outcome)
    → step shape here e ≡ Ok (there, outcome)
    → e.thread < length here.places
unfolding step
made_within shape here e there outcome is =
    (in_range shape here e there outcome (nat_lt e.thread (length here.places)) refl is).0

-- and is a step from a place, or outside of calls
pub stepped : (shape : Shape) (here : World) (e : Event) (there : World) (outcome : Outcome)
    → step shape here e ≡ Ok (there, outcome)
    → StepsFrom shape here e.thread (place_of here e.thread) e.begin there outcome
    ⊎ Outside shape here (place_of here e.thread) e.begin there outcome
unfolding step
stepped shape here e there outcome is =
    by_place shape here e.thread (place_of here e.thread) e.begin there outcome
    (in_range shape here e there outcome (nat_lt e.thread (length here.places)) refl is).1

first_steps : (shape : Shape) (here : World) (thread : ℕ) (place : Option Running) (begin : Option Begin)
    (running : Running)
    → going shape place begin ≡ Some running
    → step_from shape here thread place begin
    ≡ made (moved shape here thread running) (outcome_of (advance shape running (found shape here running)))
first_steps shape here thread None None running is = absurd (cc)
first_steps shape here thread None (Some B.Tick) running is = absurd (cc)
first_steps shape here thread None (Some B.Seal) running is = absurd (cc)
first_steps shape here thread None (Some (B.Enqueue item start turns)) running is =
    begins (may_begin shape (B.Enqueue item start turns)) is
  where
    begins : (m : Bool) → cond m (Some (R.Enqueue item start turns E.LoadEnds)) None ≡ Some running
        → cond m (made (moved shape here thread (R.Enqueue item start turns E.LoadEnds)) Went) (Err BadCall)
        ≡ made (moved shape here thread running) (outcome_of (advance shape running (found shape here running)))
    begins true e =
        subst (λ (r : Running). ◌≡◌ {A = Made}
        (Ok (moved shape here thread (R.Enqueue item start turns E.LoadEnds), Went))
        (Ok (moved shape here thread r, outcome_of (advance shape r (found shape here r))))) (Some-injective _ _ e) refl
    begins false e = absurd (cc)
first_steps shape here thread None (Some (B.Dequeue start turns)) running is =
    begins (may_begin shape (B.Dequeue start turns)) is
  where
    begins : (m : Bool) → cond m (Some (R.Dequeue start turns D.LoadEnds)) None ≡ Some running
        → cond m (made (moved shape here thread (R.Dequeue start turns D.LoadEnds)) Went) (Err BadCall)
        ≡ made (moved shape here thread running) (outcome_of (advance shape running (found shape here running)))
    begins true e =
        subst (λ (r : Running). ◌≡◌ {A = Made} (Ok (moved shape here thread (R.Dequeue start turns D.LoadEnds), Went))
        (Ok (moved shape here thread r, outcome_of (advance shape r (found shape here r))))) (Some-injective _ _ e) refl
    begins false e = absurd (cc)
first_steps shape here thread (Some old) None running is =
    ap (λ (r : Running). Ok (moved shape here thread r, outcome_of (advance shape r (found shape here r))))
    (Some-injective _ _ is)
first_steps shape here thread (Some old) (Some begin) running is = absurd (cc)

-- an event of a thread that goes on from a place is made
pub steps_on : (shape : Shape) (here : World) (e : Event) (running : Running) → e.thread < length here.places
    → going shape (place_of here e.thread) e.begin ≡ Some running
    → step shape here e
    ≡ Ok (moved shape here e.thread running, outcome_of (advance shape running (found shape here running)))
unfolding step
steps_on shape here e running within goes =
    ap (λ b. cond b (step_from shape here e.thread (place_of here e.thread) e.begin) (Err NoSuchThread))
    (lt-ltb e.thread (length here.places) within)
    ∙ first_steps shape here e.thread (place_of here e.thread) e.begin running goes

-- Locality: an event leaves each other thread where it was
pub other_place : (shape : Shape) (here : World) (e : Event) (there : World) (outcome : Outcome) (thread : ℕ)
    → thread ≢ e.thread
    → step shape here e ≡ Ok (there, outcome)
    → place_of there thread ≡ place_of here thread
unfolding moved place_of
other_place shape here e there outcome thread apart is =
    elim (stepped shape here e there outcome is) [
      | inl s ↦ ap (λ (w : World). place_of w thread) s.there_is
          ∙ get_or-set_other here.places e.thread thread
          (place_after (advance shape s.running (found shape here s.running))) None apart
      | inr t ↦ t.leaves thread
    ]

-- the number of threads stays
pub same_threads : (shape : Shape) (here : World) (e : Event) (there : World) (outcome : Outcome)
    → step shape here e ≡ Ok (there, outcome)
    → length there.places ≡ length here.places
unfolding moved
same_threads shape here e there outcome is =
    elim (stepped shape here e there outcome is) [
      | inl s ↦ ap (λ (w : World). length w.places) s.there_is
          ∙ length-set here.places e.thread (place_after (advance shape s.running (found shape here s.running)))
      | inr t ↦ ap length t.stays
    ]

-- the event that a longer schedule begins with was made
pub first_made : (shape : Shape) (here : World) (e : Event) (there : World) (es : List Event)
    → run shape (Some here) (e ∷ es) ≡ Some there
    → (next : World)
    × ((outcome : Outcome) × ((step shape here e ≡ Ok (next, outcome)) × (run shape (Some next) es ≡ Some there)))
first_made shape here e there es is = by_result (step shape here e) refl is
  where
    by_result : (r : Result (World × Outcome) NotEnabled) → step shape here e ≡ r
        → run shape (world_of r) es ≡ Some there
        → (next : World)
        × ((outcome : Outcome) × ((step shape here e ≡ Ok (next, outcome)) × (run shape (Some next) es ≡ Some there)))
    by_result (Ok pair) made h = (pair.0, (pair.1, (made, h)))
    by_result (Err fault) made h = absurd (let gone : None ≡ Some there = sym (run_none shape es) ∙ h in cc)

-- the first event is no own one where there is none, and the others have none
pub own_none : (thread : ℕ) (e : Event) (es : List Event) → own thread (e ∷ es) ≡ [] → (thread ≢ e.thread)
    × (own thread es ≡ [])
own_none thread e es empty = cases (e.thread == thread) refl empty
  where
    cases : (b : Bool) → (e.thread == thread) ≡ b → cond b (e ∷ own thread es) (own thread es) ≡ []
        → (thread ≢ e.thread)
        × (own thread es ≡ [])
    cases true is gone = absurd (cc)
    cases false is gone =
        ((λ same. absurd (let h : (e.thread == thread) ≡ true = eq-eqb e.thread thread (sym same) in (cc))), gone)

-- Locality: a schedule with no event of a thread leaves it where it was
pub same_place : (shape : Shape) (here there : World) (events : List Event) (thread : ℕ) → own thread events ≡ []
    → run shape (Some here) events ≡ Some there
    → place_of there thread ≡ place_of here thread
same_place shape here there [] thread empty is = ap (λ (w : World). place_of w thread) (sym (Some-injective _ _ is))
same_place shape here there (e ∷ es) thread empty is =
    let n = own_none thread e es empty in
    let m = first_made shape here e there es is in
    same_place shape m.0 there es thread n.1 m.1.1.1 ∙ other_place shape here e m.0 m.1.0 thread n.0 m.1.1.0

pub still_threads : (shape : Shape) (here there : World) (events : List Event)
    → run shape (Some here) events ≡ Some there
    → length there.places ≡ length here.places
still_threads shape here there [] is = ap (λ (w : World). length w.places) (sym (Some-injective _ _ is))
still_threads shape here there (e ∷ es) is =
    let m = first_made shape here e there es is in
    still_threads shape m.0 there es m.1.1.1 ∙ same_threads shape here e m.0 m.1.0 m.1.1.0
