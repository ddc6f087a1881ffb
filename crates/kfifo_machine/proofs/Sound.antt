-- Every schedule leads to a sound state: its words and each thread's place are such that the next step can be computed.
use Rattle.std.proofs.Common.{◌≡◌, ℕ, ◌+◌, ◌*◌, ◌<◌, List, [], ◌∷◌, length, Option, Some, None, Bool, true, false, refl}
use Rattle.std.proofs.Common.{Ok, sym, ◌∙◌, subst, inl, inr, arith, cond}
use Rattle.std.proofs.lemmas.Bool.{and_parts}
use Rattle.std.proofs.lemmas.Bool.Decides.{nat_tests}
use Rattle.std.proofs.lemmas.List.{length-replicate}
use Rattle.kfifo_machine.proofs.Types.{Begin, Event, Outcome, Running, Shape}
use Rattle.kfifo_words.specs.Ring.{clock_at}
use Rattle.kfifo_machine.specs.Machine.{World, opening, word_at, place_of, moved, ticked, sealed, found, begun}
use Rattle.kfifo_machine.specs.Machine.{may_begin, step, run, after}
use Rattle.kfifo_machine.specs.Runs.{going}
use Rattle.kfifo_machine.specs.Places.{IsEnds, IsPlace, IsState}
use Rattle.kfifo_machine.proofs.Places.{state_stays, tick_stays, seal_stays, opens}
use Rattle.kfifo_machine.proofs.Schedules.{Some-injective, first_made, made_within, still_threads, stepped}

-- a world whose steps can be computed
abbrev pub IsSound : Shape → World → Type 0
IsSound shape world = IsState shape world.words world.places

-- a call that may begin stands at a place
pub begun_place : (shape : Shape) (begin : Begin) (running : Running) → may_begin shape begin ≡ true
    → begun begin ≡ Some running
    → IsPlace shape running
begun_place shape begin running may is = grind (arith, nat_tests, and_parts)

may_begun_place : (shape : Shape) (begin : Begin) (running : Running) (may : Bool) → may_begin shape begin ≡ may
    → cond may (begun begin) None ≡ Some running → IsPlace shape running
may_begun_place shape begin running true may is = begun_place shape begin running may is
may_begun_place shape begin running false may is = absurd (cc)

-- the place from which a thread makes its step is one
pub going_place : (shape : Shape) (place : Option Running) (begin : Option Begin) (running : Running)
    → ((r : Running) → place ≡ Some r → IsPlace shape r) → going shape place begin ≡ Some running
    → IsPlace shape running
going_place shape None None running old is = absurd (cc)
going_place shape None (Some begin) running old is = may_begun_place shape begin running (may_begin shape begin) refl is
going_place shape (Some r) None running old is = old running is
going_place shape (Some r) (Some begin) running old is = absurd (cc)

-- a place of a sound world is one
pub place_is : (shape : Shape) (world : World) (thread : ℕ) (running : Running) → IsSound shape world
    → place_of world thread ≡ Some running
    → IsPlace shape running
unfolding place_of
place_is shape world thread running sound is = sound.each_place thread running is

-- a step from a place keeps a world sound
pub moved_sound : (shape : Shape) (here : World) (thread : ℕ) (running : Running) → IsSound shape here
    → IsPlace shape running
    → thread < length here.places
    → IsSound shape (moved shape here thread running)
unfolding moved found word_at
moved_sound shape here thread running sound place within = state_stays shape here.words here.places thread running sound
    place within

-- and so does a tick
pub ticked_sound : (shape : Shape) (here : World) → IsSound shape here → IsSound shape (ticked shape here)
unfolding ticked
ticked_sound shape here sound = tick_stays shape here.words here.places (word_at here (clock_at shape.k shape.n) + 1)
    sound

-- and so does a seal
pub sealed_sound : (shape : Shape) (here : World) → IsSound shape here → IsSound shape (sealed shape here)
unfolding sealed word_at
sealed_sound shape here sound = seal_stays shape here.words here.places sound

-- an event that was made keeps a world sound
pub step_sound : (shape : Shape) (here : World) (e : Event) (there : World) (outcome : Outcome) → IsSound shape here
    → step shape here e ≡ Ok (there, outcome) → IsSound shape there
step_sound shape here e there outcome sound is =
    elim (stepped shape here e there outcome is) [
      | inl s ↦ subst (IsSound shape) (sym s.there_is)
          (moved_sound shape here e.thread s.running sound
          (going_place shape (place_of here e.thread) e.begin s.running
          (λ r at. place_is shape here e.thread r sound at) s.goes)
          (made_within shape here e there outcome is))
      | inr o ↦ elim o.by [
        | inl t ↦ subst (IsSound shape) (sym t.there_is) (ticked_sound shape here sound)
        | inr z ↦ subst (IsSound shape) (sym z.there_is) (sealed_sound shape here sound)
      ]
    ]

-- so does a schedule
pub run_sound : (shape : Shape) (here there : World) (events : List Event) → IsSound shape here
    → run shape (Some here) events ≡ Some there
    → IsSound shape there
run_sound shape here there [] sound is = subst (IsSound shape) (Some-injective here there is) sound
run_sound shape here there (e ∷ es) sound is =
    let m = first_made shape here e there es is in
    run_sound shape m.0 there es (step_sound shape here e m.0 m.1.0 sound m.1.1.0) m.1.1.1

pub opening_sound : (shape : Shape) (threads : ℕ) → IsSound shape (opening shape threads)
unfolding opening
opening_sound shape threads = opens shape (2 + shape.n * shape.k) threads refl

-- the world after every schedule is sound
pub sound : (shape : Shape) (threads : ℕ) (events : List Event) (here : World) → after shape threads events ≡ Some here
    → IsState shape here.words here.places
sound shape threads events here is =
    run_sound shape (opening shape threads) here events (opening_sound shape threads) is

-- word 0 names segments, with a version within bounds
pub sound_ends : (shape : Shape) (threads : ℕ) (events : List Event) (here : World)
    → after shape threads events ≡ Some here
    → IsEnds shape (word_at here 0)
unfolding word_at
sound_ends shape threads events here is = (sound shape threads events here is).ends

-- the number of threads
pub sound_threads : (shape : Shape) (threads : ℕ) (events : List Event) (here : World)
    → after shape threads events ≡ Some here
    → length here.places ≡ threads
unfolding opening
sound_threads shape threads events here is = still_threads shape (opening shape threads) here events is
    ∙ length-replicate threads None
