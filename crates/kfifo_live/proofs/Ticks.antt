-- The ticks of the clock: the clock has the number of them, and there are few.
use Rattle.std.proofs.Common.{◌≡◌, ◌≢◌, ℕ, zero, suc, ◌+◌, ◌*◌, ◌<◌, ◌≤◌, ◌⊎◌, List, [], ◌∷◌, ◌++◌, length, filter}
use Rattle.std.proofs.Common.{get_or, set, replicate, Bool, true, false, Option, Some, None, Ok, refl, ap, ◌∙◌, subst}
use Rattle.std.proofs.Common.{inl, inr, arith, le_trans, cond, length-append}
use Rattle.std.proofs.lemmas.List.Elements.{filter-append}
use Rattle.std.specs.Prelude.{◌==◌, nat_lt}
use Rattle.std.proofs.Math.Nat.{mul-le-mul_left, mul-le-mul_right}
use Rattle.std.proofs.lemmas.Bool.{cases_eq}
use Rattle.std.proofs.lemmas.Bool.Decides.{nat_tests}
use Rattle.std.proofs.lemmas.Grind.{get_or-set_at}
use Rattle.std.proofs.lemmas.List.{get_or-set_other}
use Rattle.kfifo_live.proofs.Types.{Begin, Event, Opening, Running, Shape}
use Rattle.kfifo_words.specs.Ring.{clock_at}
use Rattle.kfifo_machine.specs.declared.event.Begin.TheVariants as B
use Rattle.kfifo_machine.specs.declared.event.Outcome.{Outcome}
use Rattle.kfifo_machine.specs.declared.place.Access.{Access}
use Rattle.kfifo_machine.specs.declared.place.Access.TheVariants.{Load, Exchange}
use Rattle.kfifo_machine.specs.Program.{access, accessed}
use Rattle.kfifo_machine.specs.Machine.{World, opening, moved, ticked, word_at, place_of, words_after, step, run}
use Rattle.kfifo_machine.specs.Runs.{own, going}
use Rattle.kfifo_machine.proofs.Places.{in_table}
use Rattle.kfifo_machine.proofs.Versions.{sealed-other}
use Rattle.kfifo_machine.proofs.Schedules.{Some-injective, first_made, made_within, own-append, same_threads, stepped}
use Rattle.kfifo_machine.specs.Places.{IsPlace}
use Rattle.kfifo_machine.proofs.Sound.{IsSound, going_place, place_is, sound, sound_threads, step_sound}
use Rattle.kfifo_live.specs.Schedule.{world_after, begins_tick, ticks, FewTicks}

pub ticks-append : (xs ys : List Event) → ticks (xs ++ ys) ≡ ticks xs + ticks ys
ticks-append xs ys = ap length (filter-append (λ (e : Event). begins_tick e.begin) xs ys)
    ∙ length-append (filter (λ (e : Event). begins_tick e.begin) xs) (filter (λ (e : Event). begins_tick e.begin) ys)

-- one event is a tick or is none
pub ticks_of_one : (e : Event) → ticks (e ∷ []) ≡ cond (begins_tick e.begin) 1 0
ticks_of_one e = by_test (begins_tick e.begin)
  where
    by_test : (b : Bool) → length (cond b (e ∷ []) []) ≡ cond b 1 0
    by_test true = refl
    by_test false = refl

-- a step of a call is no tick
pub no_tick : (shape : Shape) (place : Option Running) (begin : Option Begin) (running : Running)
    → going shape place begin ≡ Some running
    → begins_tick begin ≡ false
no_tick shape place None running is = refl
no_tick shape place (Some (B.Enqueue item start turns)) running is = refl
no_tick shape place (Some (B.Dequeue start turns)) running is = refl
no_tick shape place (Some B.Seal) running is = refl
no_tick shape None (Some B.Tick) running is = absurd (cc)
no_tick shape (Some r) (Some B.Tick) running is = absurd (cc)

own_one : (thread : ℕ) (e : Event) → (own thread (e ∷ []) ≡ e ∷ []) ⊎ (own thread (e ∷ []) ≡ [])
own_one thread e = by_test (e.thread == thread)
  where
    by_test : (b : Bool) → (cond b (e ∷ []) [] ≡ e ∷ []) ⊎ (cond b (e ∷ []) [] ≡ [])
    by_test true = inl refl
    by_test false = inr refl

-- the ticks of a thread in a schedule with one event more
own_more : (thread : ℕ) (all : List Event) (e : Event)
    → ticks (own thread (all ++ e ∷ [])) ≡ ticks (own thread all) + ticks (own thread (e ∷ []))
own_more thread all e = ap ticks (own-append thread all (e ∷ [])) ∙ ticks-append (own thread all) (own thread (e ∷ []))

-- another event leaves them few
pub few_more : (o : Opening) (all : List Event) (e : Event) → begins_tick e.begin ≡ false → FewTicks o all
    → FewTicks o (all ++ e ∷ [])
few_more o all e none few thread =
    let old = few thread in
    let more = own_more thread all e in
    let zero_of : ticks (e ∷ []) ≡ 0 = ticks_of_one e ∙ ap (λ b. cond b 1 0) none in
    let nothing : ticks (own thread (e ∷ [])) ≡ 0 =
    elim (own_one thread e) [ inl mine ↦ ap ticks mine ∙ zero_of | inr none ↦ ap ticks none ] in
    omega arith

-- so does a tick of a thread that may tick once more
pub few_tick : (o : Opening) (all : List Event) (e : Event) → ticks (own e.thread all) < 2 * o.calls → FewTicks o all
    → FewTicks o (all ++ e ∷ [])
few_tick o all e room few thread =
    let old = few thread in
    let more = own_more thread all e in
    let one : ticks (e ∷ []) ≤ 1 = at_most (begins_tick e.begin) (ticks_of_one e) in
    elim (cases_eq e.thread thread) [
      | inl mine ↦
          let here : ticks (own thread all) < 2 * o.calls = subst (λ (t : ℕ). ticks (own t all) < 2 * o.calls) mine
          room in
          let few_of : ticks (own thread (e ∷ [])) ≤ 1 =
          elim (own_one thread e) [ inl same ↦ rw same one | inr none ↦ rw none (omega arith) ] in
          omega arith
      | inr ne ↦
          let none : own thread (e ∷ []) ≡ [] = ap (λ b. cond b (e ∷ []) []) (not_mine (e.thread == thread) refl ne) in
          let nothing : ticks (own thread (e ∷ [])) ≡ 0 = ap ticks none in
          omega arith
    ]
  where
    at_most : {n : ℕ} (b : Bool) → n ≡ cond b 1 0 → n ≤ 1
    at_most true is = omega arith
    at_most false is = omega arith

    not_mine : (b : Bool) → (e.thread == thread) ≡ b → e.thread ≢ thread → b ≡ false
    not_mine b is ne = grind (arith, nat_tests)

-- An event leaves the clock, unless it is a tick, which adds one
clock_after : (shape : Shape) (a : Access) (words : List ℕ) → accessed a < clock_at shape.k shape.n
    → get_or (words_after a words) (clock_at shape.k shape.n) 0 ≡ get_or words (clock_at shape.k shape.n) 0
clock_after shape (Load index) words below = refl
clock_after shape (Exchange index from to) words below = by_test (get_or words index 0 == from)
  where
    by_test : (b : Bool) → get_or (cond b (set words index to) words) (clock_at shape.k shape.n) 0
        ≡ get_or words (clock_at shape.k shape.n) 0
    by_test true = get_or-set_other words index (clock_at shape.k shape.n) to 0 (λ same. absurd (omega arith))
    by_test false = refl

clock-moved : (shape : Shape) (here : World) (thread : ℕ) (running : Running) → IsPlace shape running
    → word_at (moved shape here thread running) (clock_at shape.k shape.n) ≡ word_at here (clock_at shape.k shape.n)
unfolding moved word_at
clock-moved shape here thread running place =
    clock_after shape (access shape running) here.words (in_table shape running place)

clock-ticked : (shape : Shape) (here : World) → length here.words ≡ 2 + shape.n * shape.k
    → word_at (ticked shape here) (clock_at shape.k shape.n) ≡ word_at here (clock_at shape.k shape.n) + 1
unfolding ticked word_at
clock-ticked shape here size = get_or-set_at here.words (clock_at shape.k shape.n) (clock_at shape.k shape.n)
    (get_or here.words (clock_at shape.k shape.n) 0 + 1) 0 refl (omega (arith, size))

clock_on : (shape : Shape) (here there : World) (e : Event) (outcome : Outcome) → IsSound shape here
    → step shape here e ≡ Ok (there, outcome)
    → word_at there (clock_at shape.k shape.n) ≡ word_at here (clock_at shape.k shape.n) + ticks (e ∷ [])
clock_on shape here there e outcome sound made =
    elim (stepped shape here e there outcome made) [
      | inl s ↦
          let place = going_place shape (place_of here e.thread) e.begin s.running
          (λ r at. place_is shape here e.thread r sound at)
          s.goes in
          let same = ap (λ (w : World). word_at w (clock_at shape.k shape.n)) s.there_is
          ∙ clock-moved shape here e.thread s.running place in
          let none : ticks (e ∷ []) ≡ 0 = ticks_of_one e
          ∙ ap (λ b. cond b 1 0) (no_tick shape (place_of here e.thread) e.begin s.running s.goes) in
          omega arith
      | inr o ↦ elim o.by [
        | inl t ↦
            let more = ap (λ (w : World). word_at w (clock_at shape.k shape.n)) t.there_is
            ∙ clock-ticked shape here sound.size in
            let one : ticks (e ∷ []) ≡ 1 = ticks_of_one e ∙ ap (λ b. cond (begins_tick b) 1 0) t.begins in
            omega arith
        | inr z ↦
            let same = ap (λ (w : World). word_at w (clock_at shape.k shape.n)) z.there_is
            ∙ sealed-other shape here (clock_at shape.k shape.n) (λ zero. absurd (omega arith)) in
            let none : ticks (e ∷ []) ≡ 0 = ticks_of_one e ∙ ap (λ b. cond (begins_tick b) 1 0) z.begins in
            omega arith
      ]
    ]

clock_along : (shape : Shape) (here there : World) (events : List Event) → IsSound shape here
    → run shape (Some here) events ≡ Some there
    → word_at there (clock_at shape.k shape.n) ≡ word_at here (clock_at shape.k shape.n) + ticks events
clock_along shape here there [] sound is =
    let same = ap (λ (w : World). word_at w (clock_at shape.k shape.n)) (Some-injective here there is) in
    omega arith
clock_along shape here there (e ∷ es) sound is =
    let m = first_made shape here e there es is in
    let one = clock_on shape here m.0 e m.1.0 sound m.1.1.0 in
    let rest = clock_along shape m.0 there es (step_sound shape here e m.0 m.1.0 sound m.1.1.0) m.1.1.1 in
    let all = ticks-append (e ∷ []) es in
    omega arith

-- The clock has the number of ticks
pub clock_is : (o : Opening) (events : List Event) (here : World) → world_after o events ≡ Some here
    → word_at here (clock_at o.shape.k o.shape.n) ≡ ticks events
unfolding opening word_at
clock_is o events here is =
    let along = clock_along o.shape (opening o.shape o.threads) here events
    (sound o.shape o.threads [] (opening o.shape o.threads) refl)
    is in
    let zero_first : word_at (opening o.shape o.threads) (clock_at o.shape.k o.shape.n) ≡ 0 =
    all_zero (2 + o.shape.n * o.shape.k) (clock_at o.shape.k o.shape.n) in
    omega arith
  where
    all_zero : (n i : ℕ) → get_or {A = ℕ} (replicate n 0) i 0 ≡ 0
    all_zero zero i = refl
    all_zero (suc n) zero = refl
    all_zero (suc n) (suc i) = all_zero n i

-- the events of the threads below a number
abbrev below : ℕ → List Event → List Event
below n events = filter (λ (e : Event). nat_lt e.thread n) events

ticks_kept : (b : Bool) (e : Event) (es : List Event)
    → ticks (cond b (e ∷ es) es) ≡ cond b (ticks (e ∷ [])) 0 + ticks es
ticks_kept true e es = ticks-append (e ∷ []) es
ticks_kept false e es = omega arith

one_of : (t n x : ℕ) → cond (nat_lt t (suc n)) x 0 ≡ cond (nat_lt t n) x 0 + cond (t == n) x 0
one_of t n x = grind (arith, nat_tests)

-- the ticks of the threads below the next number
below_next : (n : ℕ) (events : List Event)
    → ticks (below (suc n) events) ≡ ticks (below n events) + ticks (own n events)
below_next n [] = refl
below_next n (e ∷ es) =
    let a = ticks_kept (nat_lt e.thread (suc n)) e (below (suc n) es) in
    let b = ticks_kept (nat_lt e.thread n) e (below n es) in
    let c = ticks_kept (e.thread == n) e (own n es) in
    let d = below_next n es in
    let one = one_of e.thread n (ticks (e ∷ [])) in
    omega arith

below_none : (events : List Event) → ticks (below 0 events) ≡ 0
below_none [] = refl
below_none (e ∷ es) =
    let kept = ticks_kept (nat_lt e.thread 0) e (below 0 es) in
    let none : cond (nat_lt e.thread 0) (ticks (e ∷ [])) 0 ≡ 0 = grind (arith, nat_tests) in
    let rest = below_none es in
    omega arith

few_below : (o : Opening) (all : List Event) → FewTicks o all → (n : ℕ) → ticks (below n all) ≤ n * (2 * o.calls)
few_below o all few zero = let none = below_none all in omega arith
few_below o all few (suc n) =
    let next = below_next n all in
    let old = few_below o all few n in
    let mine = few n in
    let more : suc n * (2 * o.calls) ≡ n * (2 * o.calls) + 2 * o.calls = grind (arith) in
    omega arith

-- each event of a schedule is of a thread of the opening
all_below : (shape : Shape) (here there : World) (events : List Event) → run shape (Some here) events ≡ Some there
    → ticks (below (length here.places) events) ≡ ticks events
all_below shape here there [] is = refl
all_below shape here there (e ∷ es) is =
    let m = first_made shape here e there es is in
    let n = length here.places in
    let kept = ticks_kept (nat_lt e.thread n) e (below n es) in
    let within = made_within shape here e m.0 m.1.0 m.1.1.0 in
    let inside : cond (nat_lt e.thread n) (ticks (e ∷ [])) 0 ≡ ticks (e ∷ []) = grind (arith, nat_tests) in
    let still : length m.0.places ≡ n = same_threads shape here e m.0 m.1.0 m.1.1.0 in
    let rest : ticks (below n es) ≡ ticks es =
    subst (λ (k : ℕ). ticks (below k es) ≡ ticks es) still (all_below shape m.0 there es m.1.1.1) in
    let all = ticks-append (e ∷ []) es in
    omega arith

-- The clock is never spent
pub clock_below : (o : Opening) (events : List Event) (here : World) → o.threads ≤ 64 → o.calls ≤ 1024
    → FewTicks o events
    → world_after o events ≡ Some here
    → word_at here (clock_at o.shape.k o.shape.n) ≤ 131072
clock_below o events here few few_calls ticks_few is =
    let clock = clock_is o events here is in
    let threads : length (opening o.shape o.threads).places ≡ o.threads =
    sound_threads o.shape o.threads [] (opening o.shape o.threads) refl in
    let whole = all_below o.shape (opening o.shape o.threads) here events is in
    let under = few_below o events ticks_few (length (opening o.shape o.threads).places) in
    let most : o.threads * (2 * o.calls) ≤ 64 * (2 * 1024) =
    le_trans (mul-le-mul_left o.threads (twice few_calls)) (mul-le-mul_right (2 * 1024) few) in
    let same : length (opening o.shape o.threads).places * (2 * o.calls) ≡ o.threads * (2 * o.calls) =
    ap (λ (n : ℕ). n * (2 * o.calls)) threads in
    omega arith
  where
    twice : {n : ℕ} → n ≤ 1024 → 2 * n ≤ 2 * 1024
    twice few = omega arith
