-- The events that picks make, pick by pick.
use Rattle.std.proofs.Common.{◌≡◌, ◌≢◌, ◌⊎◌, ℕ, ◌+◌, List, [], ◌∷◌, ◌++◌, length, Option, Some, None, Bool, true, false}
use Rattle.std.proofs.Common.{cond, refl, sym, ◌∙◌, ap, inl, inr, zero-add, eq-eqb, arith}
use Rattle.std.specs.Prelude.{◌==◌, ◌&&◌, is_some}
use Rattle.std.proofs.lemmas.Bool.{ne_eqb}
use Rattle.std.proofs.lemmas.List.Sums.{sum_by-append}
use Rattle.kfifo_replay.proofs.Types.{Begin, Event, Running, Shape}
use Rattle.kfifo_machine.specs.Machine.{World, place_of, after}
use Rattle.kfifo_machine.specs.Runs.{event}
use Rattle.kfifo_machine.proofs.Schedules.{Some-injective}
use Rattle.kfifo_replay.specs.Picks.{begun_by, next_call, event_at, event_in, picked, and_then, events_from, events_of}

pub events_from-none : (shape : Shape) (scripts : List (List Begin)) (picks : List ℕ)
    → events_from shape scripts None picks ≡ None
events_from-none shape scripts [] = refl
events_from-none shape scripts (pick ∷ picks) = refl

pub events_from-append : (shape : Shape) (scripts : List (List Begin)) (made : Option (List Event)) (xs ys : List ℕ)
    → events_from shape scripts made (xs ++ ys) ≡ events_from shape scripts (events_from shape scripts made xs) ys
events_from-append shape scripts made [] ys = refl
events_from-append shape scripts None (x ∷ xs) ys = sym (events_from-none shape scripts ys)
events_from-append shape scripts (Some events) (x ∷ xs) ys =
    events_from-append shape scripts (and_then events (picked shape scripts events x)) xs ys

-- one pick more
pub events_of-snoc : (shape : Shape) (scripts : List (List Begin)) (picks : List ℕ) (thread : ℕ) (events : List Event)
    → events_of shape scripts picks ≡ Some events
    → events_of shape scripts (picks ++ thread ∷ []) ≡ and_then events (picked shape scripts events thread)
events_of-snoc shape scripts picks thread events made =
    events_from-append shape scripts (Some []) picks (thread ∷ [])
    ∙ ap (λ (m : Option (List Event)). events_from shape scripts m (thread ∷ [])) made

-- the pick of a thread in a world that was reached
pub picked_in : (shape : Shape) (scripts : List (List Begin)) (events : List Event) (thread : ℕ) (world : World)
    → after shape (length scripts) events ≡ Some world
    → picked shape scripts events thread ≡ event_at thread (place_of world thread) (next_call scripts thread events)
picked_in shape scripts events thread world reached = ap (event_in scripts thread events) reached

-- how a pick is made: its thread goes on with its call
pub record GoesOn (place : Option Running) (thread : ℕ) (e : Event) : Type 0 where
  pub running : Running
  pub there : place ≡ Some running
  pub is : e ≡ event thread None

-- or it begins the next call of its script
pub record BeginsNext (place : Option Running) (next : Option Begin) (thread : ℕ) (e : Event) : Type 0 where
  pub call : Begin
  pub idle : place ≡ None
  pub next_is : next ≡ Some call
  pub is : e ≡ event thread (Some call)

pub how_made : (thread : ℕ) (place : Option Running) (next : Option Begin) (e : Event)
    → event_at thread place next ≡ Some e
    → GoesOn place thread e ⊎ BeginsNext place next thread e
how_made thread (Some running) next e is = inl (record {
  running = running;
  there = refl;
  is = sym (Some-injective _ e is);
})
how_made thread None (Some call) e is = inr (record {
  call = call;
  idle = refl;
  next_is = refl;
  is = sym (Some-injective _ e is);
})
how_made thread None None e is = absurd (cc)

-- how many calls a thread began, with one event more
begun_by-snoc : (thread : ℕ) (events : List Event) (e : Event)
    → begun_by thread (events ++ e ∷ []) ≡ begun_by thread events + cond ((e.thread == thread) && is_some e.begin) 1 0
begun_by-snoc thread events e =
    sum_by-append (λ (x : Event). cond ((x.thread == thread) && is_some x.begin) 1 0) events (e ∷ [])
    ∙ ap (λ n. begun_by thread events + n) (zero-add (cond ((e.thread == thread) && is_some e.begin) 1 0))

pub begun_by-goes_on : (thread own : ℕ) (events : List Event) → begun_by thread (events ++ event own None ∷ [])
    ≡ begun_by thread events
begun_by-goes_on thread own events =
    let z : begun_by thread events + 0 ≡ begun_by thread events = omega arith in
    begun_by-snoc thread events (event own None) ∙ ap (λ n. begun_by thread events + n) (none (own == thread)) ∙ z
  where
    none : (b : Bool) → cond {A = ℕ} (b && false) 1 0 ≡ 0
    none true = refl
    none false = refl

pub begun_by-own : (thread : ℕ) (events : List Event) (call : Begin)
    → begun_by thread (events ++ event thread (Some call) ∷ []) ≡ begun_by thread events + 1
begun_by-own thread events call =
    begun_by-snoc thread events (event thread (Some call))
    ∙ ap (λ b. begun_by thread events + cond (b && true) 1 0) (eq-eqb thread thread refl)

pub begun_by-other : (thread own : ℕ) (events : List Event) (call : Begin) → thread ≢ own
    → begun_by thread (events ++ event own (Some call) ∷ []) ≡ begun_by thread events
begun_by-other thread own events call apart =
    let z : begun_by thread events + 0 ≡ begun_by thread events = omega arith in
    begun_by-snoc thread events (event own (Some call))
    ∙ ap (λ b. begun_by thread events + cond (b && true) 1 0) (ne_eqb own thread (λ same. apart (sym same))) ∙ z
