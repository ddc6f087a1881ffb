-- What an event changes: one word at most, which rises.
use Rattle.std.proofs.Common.{◌≡◌, ◌≢◌, ◌⊎◌, ℕ, ◌+◌, ◌<◌, ◌≤◌, List, [], ◌∷◌, length, get_or, Option, Some, None, Ok}
use Rattle.std.proofs.Common.{refl, sym, ap, ◌∙◌, subst, inl, inr, arith, true, eq-eqb}
use Rattle.std.proofs.lemmas.Bool.{cases_eq, and_parts}
use Rattle.std.proofs.lemmas.Bool.Decides.{nat_tests}
use Rattle.std.proofs.lemmas.Grind.{get_or-set_at}
use Rattle.std.proofs.lemmas.List.{get_or-set_other}
use Rattle.kfifo_machine.proofs.Types.{Access, Begin, Event, Outcome, Running, Shape}
use Rattle.kfifo_words.specs.Words.{slot_word, version_of, ends_word, head_of, tail_of}
use Rattle.kfifo_words.specs.Ring.{next_segment, clock_at}
use Rattle.kfifo_machine.specs.declared.event.Begin.TheVariants as B
use Rattle.kfifo_machine.specs.declared.place.Access.TheVariants.{Exchange}
use Rattle.kfifo_machine.specs.Program.{access, accessed, sealed_word}
use Rattle.kfifo_machine.specs.Machine.{World, word_at, place_of, words_after, moved, ticked, sealed, may_seal, step}
use Rattle.kfifo_machine.specs.Machine.{run}
use Rattle.kfifo_machine.specs.Runs.{going}
use Rattle.kfifo_machine.specs.Places.{IsPlace}
use Rattle.kfifo_machine.specs.Laws.{NoneFalls, OneWord}
use Rattle.kfifo_machine.proofs.Places.{in_table, get_or-after}
use Rattle.kfifo_machine.proofs.Schedules.{Some-injective, first_made, stepped}
use Rattle.kfifo_machine.proofs.Sound.{IsSound, going_place, place_is, step_sound}

-- a word of the next version is above
slot_word-above : (word value : ℕ) → value < 16777216 → word < slot_word value (version_of word + 1)
unfolding version_of slot_word
slot_word-above word value h = omega arith

ends_word-above : (word head tail : ℕ) → head < 4096 → tail < 4096 → word < ends_word head tail (version_of word + 1)
unfolding version_of ends_word
ends_word-above word head tail h t = omega arith

version-slot_word : (value version : ℕ) → value < 16777216 → version_of (slot_word value version) ≡ version
unfolding version_of slot_word
version-slot_word value version h = omega arith

version-ends_word : (head tail version : ℕ) → head < 4096 → tail < 4096 → version_of (ends_word head tail version)
    ≡ version
unfolding version_of ends_word
version-ends_word head tail version h t = omega arith

pub next_segment-below : (n s : ℕ) → s < n → next_segment n s < n
unfolding next_segment
next_segment-below n s h = grind (arith, nat_tests)

pub version-rises : (a b : ℕ) → a ≤ b → version_of a ≤ version_of b
unfolding version_of
version-rises a b h = omega arith

-- an exchange asks for a word above the one that it finds, of the next version
pub rises : (shape : Shape) (running : Running) (index from to : ℕ) → IsPlace shape running
    → access shape running ≡ Exchange index from to
    → from < to
rises shape running index from to s e = grind (arith, nat_tests, slot_word-above, ends_word-above, next_segment-below)

raises : (shape : Shape) (running : Running) (index from to : ℕ) → IsPlace shape running
    → access shape running ≡ Exchange index from to
    → version_of to ≡ version_of from + 1
raises shape running index from to s e =
    grind (arith, nat_tests, version-slot_word, version-ends_word, next_segment-below)

-- a word that a step changes is one that it exchanged
changed : (shape : Shape) (here : World) (thread : ℕ) (running : Running) (i : ℕ) → IsSound shape here
    → IsPlace shape running
    → (word_at (moved shape here thread running) i ≡ word_at here i)
    ⊎ (access shape running ≡ Exchange i (word_at here i) (word_at (moved shape here thread running) i))
unfolding moved word_at
changed shape here thread running i sound place =
    let within : accessed (access shape running) < length here.words =
    omega (arith, in_table shape running place, sound.size) in
    elim (get_or-after (access shape running) here.words i within) [
      | inl e ↦ inl e
      | inr k ↦ inr (k.1.1.1.0 ∙ ap (λ (a : ℕ). Exchange a k.1.0 k.1.1.0) (sym k.0)
          ∙ ap (λ (a : ℕ). Exchange i a k.1.1.0) (sym k.1.1.1.1)
          ∙ ap (λ (a : ℕ). Exchange i (get_or here.words i 0) a) (sym k.1.1.1.2))
    ]

exchanged : (words : List ℕ) (index to : ℕ) → index < length words
    → get_or (words_after (Exchange index (get_or words index 0) to) words) index 0 ≡ to
exchanged words index to h = rw (eq-eqb (get_or words index 0) (get_or words index 0) refl)
    (get_or-set_at words index index to 0 refl h)

pub won_word : (shape : Shape) (here : World) (thread : ℕ) (running : Running) (i to : ℕ) → IsSound shape here
    → IsPlace shape running
    → access shape running ≡ Exchange i (word_at here i) to → word_at (moved shape here thread running) i ≡ to
unfolding moved word_at
won_word shape here thread running i to sound place is =
    let within : accessed (access shape running) < length here.words =
    omega (arith, in_table shape running place, sound.size) in
    let at : accessed (access shape running) ≡ i = ap accessed is in
    ap (λ (a : Access). get_or (words_after a here.words) i 0) is ∙ exchanged here.words i to (omega arith)

exchange-index : (i j a b c d : ℕ) → Exchange i a b ≡ Exchange j c d → i ≡ j
exchange-index i j a b c d e = cc

pub no_going_tick : (shape : Shape) (place : Option Running) (begin : Option Begin) (running : Running)
    → begin ≡ Some B.Tick
    → going shape place begin ≡ Some running → ⊥
no_going_tick shape None begin running b is = let e : going shape None (Some B.Tick) ≡ Some running =
    ap (going shape None) (sym b) ∙ is in
    cc
no_going_tick shape (Some r) begin running b is = let e : going shape (Some r) (Some B.Tick) ≡ Some running =
    ap (going shape (Some r)) (sym b) ∙ is in cc

pub no_going_seal : (shape : Shape) (place : Option Running) (begin : Option Begin) (running : Running)
    → begin ≡ Some B.Seal
    → going shape place begin ≡ Some running → ⊥
no_going_seal shape None begin running b is = let e : going shape None (Some B.Seal) ≡ Some running =
    ap (going shape None) (sym b) ∙ is in
    cc
no_going_seal shape (Some r) begin running b is = let e : going shape (Some r) (Some B.Seal) ≡ Some running =
    ap (going shape (Some r)) (sym b) ∙ is in cc

-- the sealed ends
pub sealed-ends : (shape : Shape) (here : World) → IsSound shape here → word_at (sealed shape here) 0
    ≡ sealed_word shape (word_at here 0)
unfolding sealed word_at
sealed-ends shape here sound =
    let within : 0 < length here.words = omega (arith, sound.size) in
    get_or-set_at here.words 0 0 (sealed_word shape (get_or here.words 0 0)) 0 refl within

pub sealed-other : (shape : Shape) (here : World) (i : ℕ) → i ≢ 0 → word_at (sealed shape here) i ≡ word_at here i
unfolding sealed word_at
sealed-other shape here i ne = get_or-set_other here.words 0 i (sealed_word shape (get_or here.words 0 0)) 0 ne

sealed-only : (shape : Shape) (here : World) (i : ℕ) → word_at (sealed shape here) i ≢ word_at here i → i ≡ 0
sealed-only shape here i ne = elim (cases_eq i 0) [
  | inl e ↦ e
  | inr apart ↦ absurd (ne (sealed-other shape here i apart))
]

-- where the ends may be sealed, head and tail are in one segment, and a seal raises the word
pub sealable : (shape : Shape) (ends : ℕ) → may_seal shape ends ≡ true → (head_of ends ≡ tail_of ends)
    × (version_of ends < shape.last)
sealable shape ends may = grind (arith, nat_tests, and_parts)

ends_word-later : (word head tail version : ℕ) → head < 4096 → tail < 4096 → version_of word < version
    → word < ends_word head tail version
unfolding version_of ends_word
ends_word-later word head tail version h t up = omega arith

seal-rises : (shape : Shape) (ends : ℕ) → version_of ends < shape.last → ends < sealed_word shape ends
unfolding head_of tail_of
seal-rises shape ends up = ends_word-later ends _ _ shape.last (omega arith) (omega arith) up

pub seal-above : (shape : Shape) (ends : ℕ) → may_seal shape ends ≡ true → ends < sealed_word shape ends
seal-above shape ends may = seal-rises shape ends (sealable shape ends may).1

-- the sealed ends name the same segments, with the last version
pub sealed-same : (shape : Shape) (ends : ℕ) → (head_of (sealed_word shape ends) ≡ head_of ends)
    × (tail_of (sealed_word shape ends) ≡ tail_of ends) × (version_of (sealed_word shape ends) ≡ shape.last)
unfolding head_of tail_of version_of ends_word
sealed-same shape ends = (omega arith, omega arith, omega arith)

-- the clock
ticked-clock : (shape : Shape) (here : World) → IsSound shape here
    → word_at (ticked shape here) (clock_at shape.k shape.n) ≡ word_at here (clock_at shape.k shape.n) + 1
unfolding ticked word_at
ticked-clock shape here sound =
    let within : clock_at shape.k shape.n < length here.words = omega (arith, sound.size) in
    get_or-set_at here.words (clock_at shape.k shape.n) (clock_at shape.k shape.n)
    (get_or here.words (clock_at shape.k shape.n) 0 + 1) 0
    refl within

pub ticked-other : (shape : Shape) (here : World) (i : ℕ) → i ≢ clock_at shape.k shape.n → word_at (ticked shape here) i
    ≡ word_at here i
unfolding ticked word_at
ticked-other shape here i ne = get_or-set_other here.words (clock_at shape.k shape.n) i
    (get_or here.words (clock_at shape.k shape.n) 0 + 1) 0 ne

ticked-only : (shape : Shape) (here : World) (i : ℕ) → word_at (ticked shape here) i ≢ word_at here i
    → i ≡ clock_at shape.k shape.n
ticked-only shape here i ne = elim (cases_eq i (clock_at shape.k shape.n))
    [ inl e ↦ e | inr apart ↦ absurd (ne (ticked-other shape here i apart)) ]

one_word_moved : (shape : Shape) (here : World) (e : Event) (running : Running) → IsSound shape here
    → IsPlace shape running
    → going shape (place_of here e.thread) e.begin ≡ Some running
    → OneWord shape here (moved shape here e.thread running) e
one_word_moved shape here e running sound place goes =
    let told : (i : ℕ) → word_at (moved shape here e.thread running) i ≢ word_at here i
    → access shape running ≡ Exchange i (word_at here i) (word_at (moved shape here e.thread running) i) =
    λ i ne. elim (changed shape here e.thread running i sound place) [ inl same ↦ absurd (ne same) | inr x ↦ x ] in
    record {
      at_most_one = λ i j ni nj. exchange-index i j _ _ _ _ (sym (told i ni) ∙ told j nj);
      only_so = λ i ne. inl record { running = running; stands = goes; exchange = told i ne };
      won = λ i to w.
          let same : w.running ≡ running = Some-injective w.running running (sym w.stands ∙ goes) in
          let is : access shape running ≡ Exchange i (word_at here i) to = ap (access shape) (sym same)
          ∙ w.exchange in (
            won_word shape here e.thread running i to sound place is,
            raises shape running i (word_at here i) to
                place is,
          );
      ticked = λ i t. absurd (no_going_tick shape (place_of here e.thread) e.begin running t.begins goes);
      sealed = λ i z. absurd (no_going_seal shape (place_of here e.thread) e.begin running z.begins goes);
    }

one_word_ticked : (shape : Shape) (here : World) (e : Event) → IsSound shape here → e.begin ≡ Some B.Tick
    → OneWord shape here (ticked shape here) e
one_word_ticked shape here e sound begins = record {
  at_most_one = λ i j ni nj. ticked-only shape here i ni ∙ sym (ticked-only shape here j nj);
  only_so = λ i ne. inr (inl record { begins = begins; clock = ticked-only shape here i ne });
  won = λ i to w. absurd (no_going_tick shape (place_of here e.thread) e.begin w.running begins w.stands);
  ticked = λ i t. ap (word_at (ticked shape here)) t.clock ∙ ticked-clock shape here sound
      ∙ ap (λ j. word_at here j + 1) (sym t.clock);
  sealed = λ i z. absurd (let e : Some B.Tick ≡ Some B.Seal = sym begins ∙ z.begins in cc);
}

one_word_sealed : (shape : Shape) (here : World) (e : Event) → IsSound shape here → may_seal shape (word_at here 0)
    ≡ true
    → e.begin ≡ Some B.Seal → OneWord shape here (sealed shape here) e
one_word_sealed shape here e sound may begins = record {
  at_most_one = λ i j ni nj. sealed-only shape here i ni ∙ sym (sealed-only shape here j nj);
  only_so = λ i ne. inr (inr record { begins = begins; ends = sealed-only shape here i ne });
  won = λ i to w. absurd (no_going_seal shape (place_of here e.thread) e.begin w.running begins w.stands);
  ticked = λ i t. absurd (let e : Some B.Seal ≡ Some B.Tick = sym begins ∙ t.begins in cc);
  sealed = λ i z.
      let k = sealable shape (word_at here 0) may in
      rw z.ends (k.0, k.1, sealed-ends shape here sound);
}

-- An event changes one word at most, by a won exchange, a tick or a seal
pub one_word : (shape : Shape) (here : World) (e : Event) (there : World) (outcome : Outcome) → IsSound shape here
    → step shape here e ≡ Ok (there, outcome) → OneWord shape here there e
one_word shape here e there outcome sound is =
    elim (stepped shape here e there outcome is) [
      | inl s ↦ subst (λ (w : World). OneWord shape here w e) (sym s.there_is)
          (one_word_moved shape here e s.running sound
          (going_place shape (place_of here e.thread) e.begin s.running
          (λ r at. place_is shape here e.thread r sound at) s.goes) s.goes)
      | inr o ↦ elim o.by [
        | inl t ↦ subst (λ (w : World). OneWord shape here w e) (sym t.there_is)
            (one_word_ticked shape here e sound t.begins)
        | inr z ↦ subst (λ (w : World). OneWord shape here w e) (sym z.there_is)
            (one_word_sealed shape here e sound z.may z.begins)
      ]
    ]

-- No word falls
pub word_rises : (shape : Shape) (here : World) (e : Event) (there : World) (outcome : Outcome) (i : ℕ)
    → IsSound shape here
    → step shape here e ≡ Ok (there, outcome) → word_at here i ≤ word_at there i
word_rises shape here e there outcome i sound is =
    let one = one_word shape here e there outcome sound is in
    elim (cases_eq (word_at there i) (word_at here i)) [
      | inl same ↦ omega arith
      | inr ne ↦ elim (one.only_so i ne) [
        | inl w ↦
            let place : IsPlace shape w.running = going_place shape (place_of here e.thread) e.begin w.running
            (λ r at. place_is shape here e.thread r sound at) w.stands in
            omega (arith, rises shape w.running i (word_at here i) (word_at there i) place w.exchange)
        | inr (inl t) ↦ omega (arith, one.ticked i t)
        | inr (inr z) ↦
            let k = one.sealed i z in
            omega (arith, k.2, seal-rises shape (word_at here i) k.1)
      ]
    ]

pub step_rises : (shape : Shape) (here : World) (e : Event) (there : World) (outcome : Outcome) → IsSound shape here
    → step shape here e ≡ Ok (there, outcome) → NoneFalls here there
step_rises shape here e there outcome sound is =
    λ i. (
      word_rises shape here e there outcome i sound is,
      version-rises (word_at here i) (word_at there i) (word_rises shape here e there outcome i sound is),
    )

pub run_rises : (shape : Shape) (here there : World) (events : List Event) (i : ℕ) → IsSound shape here
    → run shape (Some here) events ≡ Some there → word_at here i ≤ word_at there i
run_rises shape here there [] i sound is = let e : word_at here i ≡ word_at there i =
    ap (λ (w : World). word_at w i) (Some-injective here there is) in omega arith
run_rises shape here there (e ∷ es) i sound is =
    let m = first_made shape here e there es is in
    let first : word_at here i ≤ word_at m.0 i = word_rises shape here e m.0 m.1.0 i sound m.1.1.0 in
    let others : word_at m.0 i ≤ word_at there i =
    run_rises shape m.0 there es i (step_sound shape here e m.0 m.1.0 sound m.1.1.0) m.1.1.1 in
    omega arith

pub none_falls : (old new : World) → new ≡ old → NoneFalls old new
none_falls old new same = λ i.
    let w : word_at old i ≡ word_at new i = ap (λ (x : World). word_at x i) (sym same) in
    let up : word_at old i ≤ word_at new i = omega arith in
    (up, version-rises (word_at old i) (word_at new i) up)
