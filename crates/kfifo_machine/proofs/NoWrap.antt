-- Head and tail are where the numbers of their won moves say, and the tail is never a whole round ahead.
use Rattle.std.proofs.Common.{◌≡◌, ◌≢◌, ◌⊎◌, ℕ, zero, suc, ◌+◌, ◌*◌, ◌%◌, ◌<◌, ◌≤◌, List, [], ◌∷◌, length, get_or, set}
use Rattle.std.proofs.Common.{replicate, Option, Some, None, Ok, Bool, true, false, refl, sym, ap, ◌∙◌, inl, inr, arith}
use Rattle.std.proofs.Common.{cond}
use Rattle.std.specs.Prelude.{◌==◌}
use Rattle.std.proofs.Math.Nat.{zero-mod, mod-lt}
use Rattle.std.proofs.lemmas.Bool.{cases_eq, cases_lt}
use Rattle.std.proofs.lemmas.Bool.Decides.{nat_tests}
use Rattle.std.proofs.lemmas.Grind.{get_or-set_at}
use Rattle.std.proofs.lemmas.List.{get_or-set_other}
use Rattle.kfifo_machine.proofs.Types.{Access, Begin, DequeuePhase, EnqueuePhase, Event, Next, Outcome, Running, Shape}
use Rattle.kfifo_words.specs.Words.{ends_word, head_of, tail_of}
use Rattle.kfifo_words.specs.Ring.{next_segment, clock_at}
use Rattle.kfifo_machine.specs.declared.place.EnqueuePhase.TheVariants as E
use Rattle.kfifo_machine.specs.declared.place.DequeuePhase.TheVariants as D
use Rattle.kfifo_machine.specs.declared.place.Running.TheVariants as R
use Rattle.kfifo_machine.specs.declared.place.Next.TheVariants.{Goes, Answers}
use Rattle.kfifo_machine.specs.declared.place.Access.TheVariants.{Load, Exchange}
use Rattle.kfifo_machine.specs.Program.{access, accessed, advance, sealed_word}
use Rattle.kfifo_machine.specs.Machine.{World, opening, word_at, place_of, place_after, words_after, moved, ticked}
use Rattle.kfifo_machine.specs.Machine.{found, begun, may_begin, step, run}
use Rattle.kfifo_machine.specs.Runs.{going}
use Rattle.kfifo_machine.specs.Places.{IsPlace}
use Rattle.kfifo_machine.specs.Laws.{moves_head, moves_tail, counted, count, NoWrap}
use Rattle.kfifo_machine.proofs.Schedules.{Some-injective, first_made, made_within, stepped, Ticks, Seals}
use Rattle.kfifo_machine.proofs.Sound.{IsSound, going_place, place_is, step_sound, opening_sound}
use Rattle.kfifo_machine.proofs.Versions.{next_segment-below, sealed-ends, sealed-same}
use Rattle.kfifo_machine.proofs.Ring.{same_place, next_place, not_next_place, next-mod}

-- why a thread moves the head or the tail: what it saw of the ends
abbrev pub EnqueueAims : Shape → EnqueuePhase → Type 0
EnqueueAims shape (E.ScanHead ends offset) = next_segment shape.n (tail_of ends) ≡ head_of ends
EnqueueAims shape (E.MoveHead ends) = next_segment shape.n (tail_of ends) ≡ head_of ends
EnqueueAims shape (E.MoveTail ends) = next_segment shape.n (tail_of ends) ≢ head_of ends
EnqueueAims shape other = Unit {0}

abbrev pub DequeueAims : Shape → DequeuePhase → Type 0
DequeueAims shape (D.MoveTail ends index filled) = tail_of ends ≡ head_of ends
DequeueAims shape (D.MoveHead ends) = tail_of ends ≢ head_of ends
DequeueAims shape other = Unit {0}

abbrev pub Aims : Shape → Running → Type 0
Aims shape (R.Enqueue item start left phase) = EnqueueAims shape phase
Aims shape (R.Dequeue start left phase) = DequeueAims shape phase

abbrev pub NextAims : Shape → Next → Type 0
NextAims shape (Goes running) = Aims shape running
NextAims shape (Answers answer) = Unit {0}

stays_aimed : (shape : Shape) (running : Running) (word : ℕ) → Aims shape running
    → NextAims shape (advance shape running word)
stays_aimed shape running word aims = grind (arith, nat_tests)

next_aims : (shape : Shape) (next : Next) (running : Running) → NextAims shape next → place_after next ≡ Some running
    → Aims shape running
next_aims shape next running aims is = grind arith

begun_aims : (shape : Shape) (begin : Begin) (running : Running) → begun begin ≡ Some running → Aims shape running
begun_aims shape begin running is = grind arith

may_begun_aims : (shape : Shape) (begin : Begin) (running : Running) (may : Bool)
    → cond may (begun begin) None ≡ Some running
    → Aims shape running
may_begun_aims shape begin running true is = begun_aims shape begin running is
may_begun_aims shape begin running false is = absurd (cc)

going_aims : (shape : Shape) (place : Option Running) (begin : Option Begin) (running : Running)
    → ((r : Running) → place ≡ Some r → Aims shape r) → going shape place begin ≡ Some running → Aims shape running
going_aims shape None None running old is = absurd (cc)
going_aims shape None (Some begin) running old is = may_begun_aims shape begin running (may_begin shape begin) is
going_aims shape (Some r) None running old is = old running is
going_aims shape (Some r) (Some begin) running old is = absurd (cc)

-- the ends word is where these numbers say, and the tail is less than a round ahead
pub record EndsOk (shape : Shape) (ends a b : ℕ) : Type 0 where
  pub head : head_of ends ≡ a % shape.n
  pub tail : tail_of ends ≡ b % shape.n
  pub ordered : a ≤ b
  pub no_wrap : b < a + shape.n

pub head-ends_word : (head tail version : ℕ) → head < 4096 → tail < 4096 → head_of (ends_word head tail version) ≡ head
unfolding head_of ends_word
head-ends_word head tail version h t = omega arith

pub tail-ends_word : (head tail version : ℕ) → head < 4096 → tail < 4096 → tail_of (ends_word head tail version) ≡ tail
unfolding tail_of ends_word
tail-ends_word head tail version h t = omega arith

module _ (shape : Shape) (ends a b : ℕ) (ok : EndsOk shape ends a b) where
  pub head_below : head_of ends < shape.n
  head_below = let n : 0 < shape.n = omega arith in omega (arith, ok.head, mod-lt a n)

  pub tail_below : tail_of ends < shape.n
  tail_below = let n : 0 < shape.n = omega arith in omega (arith, ok.tail, mod-lt b n)

  -- what the tests on the ends say of the numbers
  pub same_end : tail_of ends ≡ head_of ends → b ≡ a
  same_end e = same_place shape.n a b ok.ordered ok.no_wrap (sym ok.tail ∙ e ∙ ok.head)

  pub other_end : tail_of ends ≢ head_of ends → a < b
  other_end ne = elim (cases_lt a b) [
    | inl lt ↦ lt
    | inr ge ↦ let e : b ≡ a = omega (arith, ok.ordered) in
        absurd (ne (ok.tail ∙ ap (λ x. x % shape.n) e ∙ sym ok.head))
  ]

  pub full_ring : next_segment shape.n (tail_of ends) ≡ head_of ends → b + 1 ≡ a + shape.n
  full_ring e = next_place shape.n a b shape.some_segments ok.ordered ok.no_wrap
      (ap (next_segment shape.n) (sym ok.tail) ∙ e ∙ ok.head)

  pub room_in_ring : next_segment shape.n (tail_of ends) ≢ head_of ends → b + 1 < a + shape.n
  room_in_ring ne = not_next_place shape.n a b shape.some_segments ok.ordered ok.no_wrap
      (λ e. ne (ap (next_segment shape.n) ok.tail ∙ e ∙ sym ok.head))

-- the ends word after an access
abbrev pub ends_after : Access → ℕ → ℕ
ends_after (Load index) ends = ends
ends_after (Exchange index from to) ends = cond (index == 0) (cond (ends == from) to ends) ends

get_or-ends_after : (a : Access) (words : List ℕ) → 0 < length words → get_or (words_after a words) 0 0
    ≡ ends_after a (get_or words 0 0)
get_or-ends_after (Load index) words h = refl
get_or-ends_after (Exchange index from to) words h =
    elim (cases_eq index 0) [
      | inl zero_is ↦ rw zero_is (at_zero (get_or words 0 0 == from))
      | inr ne ↦ elsewhere (get_or words index 0 == from) ne
    ]
  where
    at_zero : (b : Bool) → get_or (cond b (set words 0 to) words) 0 0 ≡ cond b to (get_or words 0 0)
    at_zero true = get_or-set_at words 0 0 to 0 refl h
    at_zero false = refl

    apart : (b : Bool) → index ≢ 0 → (index == 0) ≡ b
        → ◌≡◌ {A = ℕ} (get_or words 0 0) (cond b (cond (get_or words 0 0 == from) to (get_or words 0 0))
        (get_or words 0 0))
    apart b ne is = grind (arith, nat_tests)

    elsewhere : (b : Bool) → index ≢ 0 → get_or (cond b (set words index to) words) 0 0
        ≡ cond (index == 0) (cond (get_or words 0 0 == from) to (get_or words 0 0)) (get_or words 0 0)
    elsewhere true ne = get_or-set_other words index 0 to 0 (λ e. ne (sym e)) ∙ apart (index == 0) ne refl
    elsewhere false ne = apart (index == 0) ne refl

-- after a step of a thread
module _ (shape : Shape) (ends a b word : ℕ) (running : Running) (ok : EndsOk shape ends a b)
    (place : IsPlace shape running)
    (aims : Aims shape running) (is : accessed (access shape running) ≡ 0 → word ≡ ends) where
  head_stays : head_of (ends_after (access shape running) ends) ≡ (a + cond (moves_head running word) 1 0) % shape.n
  head_stays =
      let head_in = head_below shape ends a b ok in
      let tail_in = tail_below shape ends a b ok in
      let at = ok.head in
      let nh : next_segment shape.n (head_of ends) ≡ (a + 1) % shape.n =
      ap (next_segment shape.n) ok.head ∙ next-mod shape.n a shape.some_segments in
      grind (arith, nat_tests, head-ends_word, next_segment-below)

  tail_stays : tail_of (ends_after (access shape running) ends) ≡ (b + cond (moves_tail running word) 1 0) % shape.n
  tail_stays =
      let head_in = head_below shape ends a b ok in
      let tail_in = tail_below shape ends a b ok in
      let at = ok.tail in
      let nt : next_segment shape.n (tail_of ends) ≡ (b + 1) % shape.n =
      ap (next_segment shape.n) ok.tail ∙ next-mod shape.n b shape.some_segments in
      grind (arith, nat_tests, tail-ends_word, next_segment-below)

  ordered_stays : a + cond (moves_head running word) 1 0 ≤ b + cond (moves_tail running word) 1 0
  ordered_stays =
      let low = ok.ordered in
      let other = other_end shape ends a b ok in
      let full = full_ring shape ends a b ok in
      let some : 2 ≤ shape.n = shape.some_segments in
      grind (arith, nat_tests)

  no_wrap_stays : b + cond (moves_tail running word) 1 0 < (a + cond (moves_head running word) 1 0) + shape.n
  no_wrap_stays =
      let high = ok.no_wrap in
      let some : 2 ≤ shape.n = shape.some_segments in
      let same = same_end shape ends a b ok in
      let room = room_in_ring shape ends a b ok in
      grind (arith, nat_tests)

  ends_stay : EndsOk shape (ends_after (access shape running) ends) (a + cond (moves_head running word) 1 0)
      (b + cond (moves_tail running word) 1 0)
  ends_stay = record { head = head_stays; tail = tail_stays; ordered = ordered_stays; no_wrap = no_wrap_stays }

-- a world whose won head-ons and tail-ons are so many
pub record Counted (shape : Shape) (world : World) (a b : ℕ) : Type 0 where
  pub ends : EndsOk shape (word_at world 0) a b
  pub aims : (thread : ℕ) (running : Running) → place_of world thread ≡ Some running → Aims shape running

same_counts : (shape : Shape) (v w : World) (a b c d : ℕ) → Counted shape v a b → v ≡ w → a ≡ c → b ≡ d
    → Counted shape w c d
same_counts shape v w a b c d at world ea eb = rw (← world, ← ea, ← eb) at

ends-moved : (shape : Shape) (here : World) (thread : ℕ) (running : Running) → IsSound shape here
    → word_at (moved shape here thread running) 0 ≡ ends_after (access shape running) (word_at here 0)
unfolding moved word_at
ends-moved shape here thread running sound = let size = sound.size in
    get_or-ends_after (access shape running) here.words (omega arith)

ends-ticked : (shape : Shape) (here : World) → word_at (ticked shape here) 0 ≡ word_at here 0
unfolding ticked word_at
ends-ticked shape here = get_or-set_other here.words (clock_at shape.k shape.n) 0
    (get_or here.words (clock_at shape.k shape.n) 0 + 1) 0 (λ e. absurd (omega arith))

moved_aims : (shape : Shape) (here : World) (thread : ℕ) (running : Running) → thread < length here.places
    → Aims shape running
    → ((t : ℕ) (r : Running) → place_of here t ≡ Some r → Aims shape r) → (t : ℕ) (r : Running)
    → place_of (moved shape here thread running) t ≡ Some r → Aims shape r
unfolding moved place_of
moved_aims shape here thread running within aims old t r at =
    let next = place_after (advance shape running (found shape here running)) in
    elim (cases_eq t thread) [
      | inl same ↦ next_aims shape (advance shape running (found shape here running)) r
          (stays_aimed shape running (found shape here running) aims)
          (sym (get_or-set_at here.places thread t next None same within) ∙ at)
      | inr ne ↦ old t r (sym (get_or-set_other here.places thread t next None ne) ∙ at)
    ]

-- outside of calls the ends keep their segments
seal_keeps : (shape : Shape) (ends a b : ℕ) → EndsOk shape ends a b → EndsOk shape (sealed_word shape ends) a b
seal_keeps shape ends a b ok =
    let k = sealed-same shape ends in
    record { head = k.0 ∙ ok.head; tail = k.1 ∙ ok.tail; ordered = ok.ordered; no_wrap = ok.no_wrap }

outside_ends : (shape : Shape) (here there : World) (begin : Option Begin) (a b : ℕ) → IsSound shape here
    → Ticks shape here begin there ⊎ Seals shape here begin there → EndsOk shape (word_at here 0) a b
    → EndsOk shape (word_at there 0) a b
outside_ends shape here there begin a b sound (inl t) ok = rw t.there_is (rw (ends-ticked shape here) ok)
outside_ends shape here there begin a b sound (inr z) ok =
    rw z.there_is (rw (sealed-ends shape here sound) (seal_keeps shape (word_at here 0) a b ok))

found-ends : (shape : Shape) (here : World) (running : Running) → accessed (access shape running) ≡ 0
    → found shape here running ≡ word_at here 0
unfolding found
found-ends shape here running is = ap (word_at here) is

moved_counted : (shape : Shape) (here : World) (thread : ℕ) (running : Running) (a b : ℕ) → IsSound shape here
    → Counted shape here a b
    → IsPlace shape running → Aims shape running → thread < length here.places
    → Counted shape (moved shape here thread running) (a + counted shape moves_head here (Some running))
    (b + counted shape moves_tail here (Some running))
moved_counted shape here thread running a b sound at place aims within =
    record {
      ends = rw (ends-moved shape here thread running sound)
          (ends_stay shape (word_at here 0) a b (found shape here running) running at.ends place aims
          (found-ends shape here running));
      aims = moved_aims shape here thread running within aims at.aims;
    }

none_counted : (shape : Shape) (moves : Running → ℕ → Bool) (world : World) (place : Option Running)
    (begin : Option Begin)
    → going shape place begin ≡ None → counted shape moves world (going shape place begin) ≡ 0
none_counted shape moves world place begin is = ap (counted shape moves world) is

-- an event
step_counted : (shape : Shape) (here : World) (e : Event) (there : World) (outcome : Outcome) (a b : ℕ)
    → IsSound shape here
    → Counted shape here a b → step shape here e ≡ Ok (there, outcome)
    → Counted shape there (a + counted shape moves_head here (going shape (place_of here e.thread) e.begin))
    (b + counted shape moves_tail here (going shape (place_of here e.thread) e.begin))
step_counted shape here e there outcome a b sound at is =
    elim (stepped shape here e there outcome is) [
      | inl s ↦
          let place : IsPlace shape s.running = going_place shape (place_of here e.thread) e.begin s.running
          (λ r t. place_is shape here e.thread r sound t) s.goes in
          let aims : Aims shape s.running = going_aims shape (place_of here e.thread) e.begin s.running
          (λ r t. at.aims e.thread r t)
          s.goes in
          let all : Counted shape (moved shape here e.thread s.running)
          (a + counted shape moves_head here (Some s.running))
          (b + counted shape moves_tail here (Some s.running)) =
          moved_counted shape here e.thread s.running a b sound at place aims
          (made_within shape here e there outcome is) in
          same_counts shape (moved shape here e.thread s.running) there _ _ _ _ all (sym s.there_is)
          (ap (λ (p : Option Running). a + counted shape moves_head here p) (sym s.goes))
          (ap (λ (p : Option Running). b + counted shape moves_tail here p) (sym s.goes))
      | inr t ↦
          let same : Counted shape there a b =
          record {
            ends = outside_ends shape here there e.begin a b sound t.by at.ends;
            aims = λ u r is_at. at.aims u r (sym (t.leaves u) ∙ is_at);
          } in
          let none_a : a ≡ a + counted shape moves_head here (going shape (place_of here e.thread) e.begin) =
          omega (arith, none_counted shape moves_head here (place_of here e.thread) e.begin t.begins_none) in
          let none_b : b ≡ b + counted shape moves_tail here (going shape (place_of here e.thread) e.begin) =
          omega (arith, none_counted shape moves_tail here (place_of here e.thread) e.begin t.begins_none) in
          same_counts shape there there a b _ _ same refl none_a none_b
    ]

-- a schedule
pub run_counted : (shape : Shape) (here there : World) (events : List Event) (a b : ℕ) → IsSound shape here
    → Counted shape here a b
    → run shape (Some here) events ≡ Some there
    → Counted shape there (a + count shape moves_head (Some here) events)
    (b + count shape moves_tail (Some here) events)
run_counted shape here there [] a b sound at is =
    same_counts shape here there a b (a + 0) (b + 0) at (Some-injective here there is) (omega arith) (omega arith)
run_counted shape here there (e ∷ es) a b sound at is =
    let m = first_made shape here e there es is in
    let next : Counted shape there ((a + counted shape moves_head here (going shape (place_of here e.thread) e.begin))
    + count shape moves_head (Some m.0) es)
    ((b + counted shape moves_tail here (going shape (place_of here e.thread) e.begin))
    + count shape moves_tail (Some m.0) es) =
    run_counted shape m.0 there es _ _ (step_sound shape here e m.0 m.1.0 sound m.1.1.0)
    (step_counted shape here e m.0 m.1.0 a b sound at m.1.1.0) m.1.1.1 in
    let ea : (a + counted shape moves_head here (going shape (place_of here e.thread) e.begin)) + count shape moves_head
    (Some m.0) es
    ≡ a + count shape moves_head (Some here) (e ∷ es) = regroup moves_head a m.0 m.1.0 m.1.1.0 in
    let eb : (b + counted shape moves_tail here (going shape (place_of here e.thread) e.begin)) + count shape moves_tail
    (Some m.0) es
    ≡ b + count shape moves_tail (Some here) (e ∷ es) = regroup moves_tail b m.0 m.1.0 m.1.1.0 in
    same_counts shape there there _ _ _ _ next refl ea eb
  where
    regroup : (moves : Running → ℕ → Bool) (c : ℕ) (next : World) (outcome : Outcome)
        → step shape here e ≡ Ok (next, outcome)
        → (c + counted shape moves here (going shape (place_of here e.thread) e.begin)) + count shape moves
        (Some next) es
        ≡ c + count shape moves (Some here) (e ∷ es)
    regroup moves c next outcome made = rw made (omega arith)

get_or-replicate : {X : Type 0} (n i : ℕ) (d : X) → get_or (replicate n d) i d ≡ d
get_or-replicate zero i d = refl
get_or-replicate (suc n) zero d = refl
get_or-replicate (suc n) (suc i) d = get_or-replicate n i d

opening_ends : (shape : Shape) (threads : ℕ) → word_at (opening shape threads) 0 ≡ 0
unfolding opening word_at
opening_ends shape threads = get_or-replicate (2 + shape.n * shape.k) 0 0

opening_idle : (shape : Shape) (threads thread : ℕ) → place_of (opening shape threads) thread ≡ None
unfolding opening place_of
opening_idle shape threads thread = get_or-replicate threads thread None

zero_ends : (shape : Shape) → EndsOk shape 0 0 0
unfolding head_of tail_of
zero_ends shape = record {
  head = sym (zero-mod shape.n);
  tail = sym (zero-mod shape.n);
  ordered = omega arith;
  no_wrap = omega arith;
}

opening_counted : (shape : Shape) (threads : ℕ) → Counted shape (opening shape threads) 0 0
opening_counted shape threads = record {
  ends = rw (opening_ends shape threads) (zero_ends shape);
  aims = λ t r at. absurd (let e : None ≡ Some r = sym (opening_idle shape threads t) ∙ at in cc);
}

-- in every schedule the tail is less than a round ahead of the head
pub no_wrap : (shape : Shape) (threads : ℕ) → NoWrap shape threads
no_wrap shape threads = λ events here is.
    let k = run_counted shape (opening shape threads) here events 0 0 (opening_sound shape threads)
    (opening_counted shape threads) is in
    let low = k.ends.ordered in
    let high = k.ends.no_wrap in
    (omega arith, omega arith)
