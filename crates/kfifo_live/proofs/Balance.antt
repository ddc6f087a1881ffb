-- The items put are those undone, those taken and those left.
use Rattle.std.proofs.Common.{◌≡◌, ◌≢◌, ℕ, zero, suc, ◌+◌, ◌*◌, ◌<◌, ◌≤◌, List, [], ◌∷◌, length, get_or, set, replicate}
use Rattle.std.proofs.Common.{Option, Some, None, ◌⊎◌, Ok, Bool, true, false, refl, sym, ap, ◌∙◌, inl, inr, arith, cond}
use Rattle.std.proofs.Common.{subst, eqb-true, eq-eqb, ne_eqb}
use Rattle.std.specs.Prelude.{◌==◌, ◌&&◌}
use Rattle.std.proofs.lemmas.Bool.{cases_eq}
use Rattle.std.proofs.lemmas.Bool.Decides.{nat_tests}
use Rattle.std.proofs.lemmas.Grind.{get_or-set_at}
use Rattle.std.proofs.lemmas.List.{get_or-set_other}
use Rattle.kfifo_live.proofs.Types.{Begin, EnqueuePhase, Event, Next, Opening, Running, Shape}
use Rattle.kfifo_words.specs.Words.{value_of}
use Rattle.kfifo_words.specs.Ring.{clock_at}
use Rattle.kfifo_machine.specs.declared.event.Outcome.{Outcome}
use Rattle.kfifo_machine.specs.declared.place.Found.TheVariants.{Slot}
use Rattle.kfifo_machine.specs.declared.place.EnqueuePhase.TheVariants as E
use Rattle.kfifo_machine.specs.declared.place.DequeuePhase.{DequeuePhase}
use Rattle.kfifo_machine.specs.declared.place.DequeuePhase.TheVariants as D
use Rattle.kfifo_machine.specs.declared.place.Running.TheVariants as R
use Rattle.kfifo_machine.specs.declared.place.Next.TheVariants.{Goes, Answers}
use Rattle.kfifo_machine.specs.declared.place.Access.TheVariants.{Exchange}
use Rattle.kfifo_machine.specs.Program.{access, accessed, advance, filled_with, emptied, head_moved, tail_moved}
use Rattle.kfifo_machine.specs.Program.{head_held, sealed_word}
use Rattle.kfifo_machine.specs.Machine.{World, opening, word_at, place_of, place_after, words_after, moved, sealed}
use Rattle.kfifo_machine.specs.Machine.{ticked, found, begun, may_begin, step, run}
use Rattle.kfifo_machine.specs.Runs.{going}
use Rattle.kfifo_machine.specs.Places.{IsPlace}
use Rattle.kfifo_machine.specs.Laws.{counted, count}
use Rattle.kfifo_machine.proofs.Tokens.{EnqueueKnows, value-emptied, value-filled_with}
use Rattle.kfifo_machine.proofs.Schedules.{Some-injective, first_made, made_within, stepped, Ticks, Seals}
use Rattle.kfifo_machine.proofs.Sound.{IsSound, going_place, place_is, step_sound, opening_sound, sound}
use Rattle.kfifo_live.specs.Schedule.{world_after}
use Rattle.kfifo_live.specs.Left.{item_in, items_left}
use Rattle.kfifo_live.specs.Balance.{times, puts_item, undoes_item, takes_item, puts, undos, takes}
use Rattle.kfifo_live.proofs.Rotation.{sum, sum-same, sum-change, times_at, times-left}

-- what a dequeue knows of the value of a slot's word that it has read
abbrev pub DequeueKnows : DequeuePhase → Type 0
DequeueKnows (D.Recheck ends (Slot index seen)) = value_of seen ≢ 0
DequeueKnows (D.MoveTail ends index filled) = value_of filled ≢ 0
DequeueKnows (D.Take ends index filled) = value_of filled ≢ 0
DequeueKnows other = Unit {0}

abbrev pub Knows : Running → Type 0
Knows (R.Enqueue item start left phase) = EnqueueKnows item phase
Knows (R.Dequeue start left phase) = DequeueKnows phase

abbrev pub NextKnows : Next → Type 0
NextKnows (Goes running) = Knows running
NextKnows (Answers answer) = Unit {0}

knows_on : (shape : Shape) (running : Running) (word : ℕ) → IsPlace shape running → Knows running
    → NextKnows (advance shape running word)
knows_on shape running word place knows = grind (arith, nat_tests, value-filled_with)

next_knows : (shape : Shape) (next : Next) (running : Running) → NextKnows next → place_after next ≡ Some running
    → Knows running
next_knows shape next running knows is = grind arith

begun_knows : (begin : Begin) (running : Running) → begun begin ≡ Some running → Knows running
begun_knows begin running is = grind arith

may_begun_knows : (begin : Begin) (running : Running) (may : Bool) → cond may (begun begin) None ≡ Some running
    → Knows running
may_begun_knows begin running true is = begun_knows begin running is
may_begun_knows begin running false is = absurd (cc)

pub going_knows : (shape : Shape) (place : Option Running) (begin : Option Begin) (running : Running)
    → ((r : Running) → place ≡ Some r → Knows r) → going shape place begin ≡ Some running → Knows running
going_knows shape None None running old is = absurd (cc)
going_knows shape None (Some begin) running old is = may_begun_knows begin running (may_begin shape begin) is
going_knows shape (Some r) None running old is = old running is
going_knows shape (Some r) (Some begin) running old is = absurd (cc)

-- how often an item stands in the slots
abbrev pub held : ℕ → Shape → List ℕ → ℕ
held x shape words = sum (times_at x words) 1 (shape.n * shape.k)

times-filled : (x word item : ℕ) → value_of word ≡ item → 0 < item → times x (item_in word) ≡ cond (item == x) 1 0
times-filled x word item is some =
    let ne : value_of word ≢ 0 = λ none. absurd (omega arith) in
    let e : times x (item_in word) ≡ cond (item == x) 1 0 + 0 =
    ap (λ b. times x (cond b [] (value_of word ∷ []))) (ne_eqb (value_of word) 0 ne)
    ∙ ap (λ v. cond (v == x) 1 0 + 0) is in
    omega arith

times-empty : (x word : ℕ) → value_of word ≡ 0 → times x (item_in word) ≡ 0
times-empty x word is = ap (λ b. times x (cond b [] (value_of word ∷ []))) (eq-eqb (value_of word) 0 is)

-- a slot's word is set
held-slot : (x : ℕ) (shape : Shape) (words : List ℕ) (index to : ℕ) → length words ≡ 2 + shape.n * shape.k → 0 < index
    → index < 1 + shape.n * shape.k
    → held x shape (set words index to) + times_at x words index ≡ held x shape words + times x (item_in to)
held-slot x shape words index to size low high =
    let new : times_at x (set words index to) index ≡ times x (item_in to) =
    ap (λ w. times x (item_in w)) (get_or-set_at words index index to 0 refl (omega (arith, size))) in
    let all = sum-change (times_at x words) (times_at x (set words index to)) index 1 (shape.n * shape.k) (omega arith)
    (omega arith)
    (λ j ne. ap (λ w. times x (item_in w)) (get_or-set_other words index j to 0 ne)) in
    omega arith

-- another word is set
held-other : (x : ℕ) (shape : Shape) (words : List ℕ) (index to : ℕ)
    → ((j : ℕ) → 1 ≤ j → j < 1 + shape.n * shape.k → j ≢ index)
    → held x shape (set words index to) ≡ held x shape words
held-other x shape words index to apart =
    sum-same (times_at x words) (times_at x (set words index to)) 1 (shape.n * shape.k)
    (λ j low high. ap (λ w. times x (item_in w)) (get_or-set_other words index j to 0 (apart j low high)))

held-ends : (x : ℕ) (shape : Shape) (words : List ℕ) (from to : ℕ)
    → held x shape (words_after (Exchange 0 from to) words) + (0 + 0) ≡ held x shape words + 0
held-ends x shape words from to = by_test (get_or words 0 0 == from)
  where
    by_test : (b : Bool) → held x shape (cond b (set words 0 to) words) + (0 + 0) ≡ held x shape words + 0
    by_test true = let e = held-other x shape words 0 to (λ j low high is. absurd (omega arith)) in omega arith
    by_test false = omega arith

stays : (n : ℕ) → n + (0 + 0) ≡ n + 0
stays n = omega arith

abbrev one : Bool → ℕ
one b = cond b 1 0

module _ (x : ℕ) (shape : Shape) (words : List ℕ) (size : length words ≡ 2 + shape.n * shape.k) where
  enqueue_held : (item start left : ℕ) (phase : EnqueuePhase) → IsPlace shape (R.Enqueue item start left phase)
      → EnqueueKnows item phase
      → held x shape (words_after (access shape (R.Enqueue item start left phase)) words)
      + (one (undoes_item x (R.Enqueue item start left phase)
      (get_or words (accessed (access shape (R.Enqueue item start left phase))) 0))
      + one (takes_item x (R.Enqueue item start left phase)
      (get_or words (accessed (access shape (R.Enqueue item start left phase))) 0)))
      ≡ held x shape words + one (puts_item x (R.Enqueue item start left phase)
      (get_or words (accessed (access shape (R.Enqueue item start left phase))) 0))
  enqueue_held item start left E.LoadEnds place knows = stays (held x shape words)
  enqueue_held item start left (E.ScanTail ends offset) place knows = stays (held x shape words)
  enqueue_held item start left (E.Recheck ends seen) place knows = stays (held x shape words)
  enqueue_held item start left (E.Put ends index empty) place knows = by_test (get_or words index 0 == empty) refl
    where
      by_test : (b : Bool) → (get_or words index 0 == empty) ≡ b
          → held x shape (cond b (set words index (filled_with item empty)) words) + (0 + 0)
          ≡ held x shape words + one (b && (item == x))
      by_test true is =
          let old : times_at x words index ≡ 0 = times-empty x (get_or words index 0)
          (ap value_of (eqb-true (get_or words index 0) empty is) ∙ knows) in
          let new : times x (item_in (filled_with item empty)) ≡ cond (item == x) 1 0 =
          times-filled x (filled_with item empty) item (value-filled_with item empty place.1) place.0 in
          let all = held-slot x shape words index (filled_with item empty) size place.4.2.above place.4.2.below in
          omega arith
      by_test false is = stays (held x shape words)
  enqueue_held item start left (E.ReloadSlot ends index filled) place knows = stays (held x shape words)
  enqueue_held item start left (E.ReloadEnds ends index filled) place knows = stays (held x shape words)
  enqueue_held item start left (E.HoldHead ends index filled held) place knows =
      held-ends x shape words held (head_held held)
  enqueue_held item start left (E.Undo index filled worn) place knows = by_test (get_or words index 0 == filled) refl
    where
      by_test : (b : Bool) → (get_or words index 0 == filled) ≡ b
          → held x shape (cond b (set words index (emptied filled)) words) + (one (b && (item == x)) + 0)
          ≡ held x shape words + 0
      by_test true is =
          let old : times_at x words index ≡ cond (item == x) 1 0 =
          times-filled x (get_or words index 0) item (ap value_of (eqb-true (get_or words index 0) filled is) ∙ knows)
          place.0 in
          let new : times x (item_in (emptied filled)) ≡ 0 = times-empty x (emptied filled) (value-emptied filled) in
          let all = held-slot x shape words index (emptied filled) size place.4.1.above place.4.1.below in
          omega arith
      by_test false is = stays (held x shape words)
  enqueue_held item start left (E.ScanHead ends offset) place knows = stays (held x shape words)
  enqueue_held item start left (E.ConfirmFull ends) place knows = stays (held x shape words)
  enqueue_held item start left (E.MoveHead ends) place knows = held-ends x shape words ends (head_moved shape ends)
  enqueue_held item start left (E.MoveTail ends) place knows = held-ends x shape words ends (tail_moved shape ends)

  dequeue_held : (start left : ℕ) (phase : DequeuePhase) → IsPlace shape (R.Dequeue start left phase)
      → DequeueKnows phase
      → held x shape (words_after (access shape (R.Dequeue start left phase)) words)
      + (one (undoes_item x (R.Dequeue start left phase)
      (get_or words (accessed (access shape (R.Dequeue start left phase))) 0))
      + one (takes_item x (R.Dequeue start left phase)
      (get_or words (accessed (access shape (R.Dequeue start left phase))) 0)))
      ≡ held x shape words + one (puts_item x (R.Dequeue start left phase)
      (get_or words (accessed (access shape (R.Dequeue start left phase))) 0))
  dequeue_held start left D.LoadEnds place knows = stays (held x shape words)
  dequeue_held start left (D.ScanHead ends offset) place knows = stays (held x shape words)
  dequeue_held start left (D.Recheck ends seen) place knows = stays (held x shape words)
  dequeue_held start left (D.MoveTail ends index filled) place knows =
      held-ends x shape words ends (tail_moved shape ends)
  dequeue_held start left (D.Take ends index filled) place knows = by_test (get_or words index 0 == filled) refl
    where
      by_test : (b : Bool) → (get_or words index 0 == filled) ≡ b
          → held x shape (cond b (set words index (emptied filled)) words) + (0 + one (b && (value_of filled == x)))
          ≡ held x shape words + 0
      by_test true is =
          let old : times_at x words index ≡ cond (value_of filled == x) 1 0 =
          times-filled x (get_or words index 0) (value_of filled)
          (ap value_of (eqb-true (get_or words index 0) filled is))
          (some (value_of filled) knows) in
          let new : times x (item_in (emptied filled)) ≡ 0 = times-empty x (emptied filled) (value-emptied filled) in
          let all = held-slot x shape words index (emptied filled) size place.2.1.above place.2.1.below in
          omega arith
        where
          some : (v : ℕ) → v ≢ 0 → 0 < v
          some zero ne = absurd (ne refl)
          some (suc v) ne = omega arith
      by_test false is = stays (held x shape words)
  dequeue_held start left (D.MoveHead ends) place knows = held-ends x shape words ends (head_moved shape ends)

-- a step of a thread
moved-held : (x : ℕ) (shape : Shape) (here : World) (thread : ℕ) (running : Running) → IsSound shape here
    → IsPlace shape running
    → Knows running
    → held x shape (moved shape here thread running).words
    + (counted shape (undoes_item x) here (Some running) + counted shape (takes_item x) here (Some running))
    ≡ held x shape here.words + counted shape (puts_item x) here (Some running)
unfolding moved found word_at
moved-held x shape here thread (R.Enqueue item start left phase) sound place knows =
    enqueue_held x shape here.words sound.size item start left phase place knows
moved-held x shape here thread (R.Dequeue start left phase) sound place knows =
    dequeue_held x shape here.words sound.size start left phase place knows

ticked-held : (x : ℕ) (shape : Shape) (here : World) → held x shape (ticked shape here).words ≡ held x shape here.words
unfolding ticked
ticked-held x shape here = held-other x shape here.words (clock_at shape.k shape.n)
    (word_at here (clock_at shape.k shape.n) + 1) (λ j low high is. absurd (omega arith))

-- each thread knows so
abbrev pub AllKnow : World → Type 0
AllKnow world = (thread : ℕ) (running : Running) → place_of world thread ≡ Some running → Knows running

moved_know : (shape : Shape) (here : World) (thread : ℕ) (running : Running) → thread < length here.places
    → IsPlace shape running
    → Knows running → AllKnow here → AllKnow (moved shape here thread running)
unfolding moved place_of
moved_know shape here thread running within place knows old t r at =
    let next = place_after (advance shape running (found shape here running)) in
    elim (cases_eq t thread) [
      | inl same ↦ next_knows shape (advance shape running (found shape here running)) r
          (knows_on shape running (found shape here running) place knows)
          (sym (get_or-set_at here.places thread t next None same within) ∙ at)
      | inr ne ↦ old t r (sym (get_or-set_other here.places thread t next None ne) ∙ at)
    ]

sealed-held : (x : ℕ) (shape : Shape) (here : World) → held x shape (sealed shape here).words ≡ held x shape here.words
unfolding sealed
sealed-held x shape here = held-other x shape here.words 0 (sealed_word shape (word_at here 0))
    (λ j low high is. absurd (omega arith))

-- a tick and a seal leave the items
outside-held : (x : ℕ) (shape : Shape) (here there : World) (begin : Option Begin)
    → Ticks shape here begin there ⊎ Seals shape here begin there → held x shape there.words ≡ held x shape here.words
outside-held x shape here there begin (inl t) = ap (λ (w : World). held x shape w.words) t.there_is
    ∙ ticked-held x shape here
outside-held x shape here there begin (inr z) = ap (λ (w : World). held x shape w.words) z.there_is
    ∙ sealed-held x shape here

-- an event
step_balance : (x : ℕ) (shape : Shape) (here : World) (e : Event) (there : World) (outcome : Outcome)
    → IsSound shape here → AllKnow here
    → step shape here e ≡ Ok (there, outcome)
    → AllKnow there × (held x shape there.words
    + (counted shape (undoes_item x) here (going shape (place_of here e.thread) e.begin)
    + counted shape (takes_item x) here (going shape (place_of here e.thread) e.begin))
    ≡ held x shape here.words + counted shape (puts_item x) here (going shape (place_of here e.thread) e.begin))
step_balance x shape here e there outcome sound know is =
    elim (stepped shape here e there outcome is) [
      | inl s ↦
          let place : IsPlace shape s.running = going_place shape (place_of here e.thread) e.begin s.running
          (λ r t. place_is shape here e.thread r sound t) s.goes in
          let knows : Knows s.running = going_knows shape (place_of here e.thread) e.begin s.running
          (λ r t. know e.thread r t) s.goes in
          let after : AllKnow there = subst AllKnow (sym s.there_is)
          (moved_know shape here e.thread s.running (made_within shape here e there outcome is) place knows know) in
          let all = moved-held x shape here e.thread s.running sound place knows in
          let words : held x shape there.words ≡ held x shape (moved shape here e.thread s.running).words =
          ap (λ (w : World). held x shape w.words) s.there_is in
          let u = ap (counted shape (undoes_item x) here) s.goes in
          let t = ap (counted shape (takes_item x) here) s.goes in
          let p = ap (counted shape (puts_item x) here) s.goes in
          (after, omega arith)
      | inr t ↦
          let after : AllKnow there = λ u r at. know u r (sym (t.leaves u) ∙ at) in
          let all = outside-held x shape here there e.begin t.by in
          let u = ap (counted shape (undoes_item x) here) t.begins_none in
          let k = ap (counted shape (takes_item x) here) t.begins_none in
          let p = ap (counted shape (puts_item x) here) t.begins_none in
          (after, omega arith)
    ]

-- a schedule
run_balance : (x : ℕ) (shape : Shape) (here there : World) (events : List Event) → IsSound shape here → AllKnow here
    → run shape (Some here) events ≡ Some there
    → held x shape there.words + (count shape (undoes_item x) (Some here) events + count shape (takes_item x)
    (Some here) events)
    ≡ held x shape here.words + count shape (puts_item x) (Some here) events
run_balance x shape here there [] sound know is = let e : held x shape here.words ≡ held x shape there.words =
    ap (λ (w : World). held x shape w.words) (Some-injective here there is) in omega arith
run_balance x shape here there (e ∷ es) sound know is =
    let m = first_made shape here e there es is in
    let first = step_balance x shape here e m.0 m.1.0 sound know m.1.1.0 in
    let now = first.1 in
    let later = run_balance x shape m.0 there es (step_sound shape here e m.0 m.1.0 sound m.1.1.0) first.0 m.1.1.1 in
    let u = split (undoes_item x) m.0 m.1.0 m.1.1.0 in
    let t = split (takes_item x) m.0 m.1.0 m.1.1.0 in
    let p = split (puts_item x) m.0 m.1.0 m.1.1.0 in
    omega arith
  where
    split : (moves : Running → ℕ → Bool) (next : World) (outcome : Outcome) → step shape here e ≡ Ok (next, outcome)
        → count shape moves (Some here) (e ∷ es)
        ≡ counted shape moves here (going shape (place_of here e.thread) e.begin) + count shape moves (Some next) es
    split moves next outcome made = rw made refl

know_along : (shape : Shape) (here there : World) (events : List Event) → IsSound shape here → AllKnow here
    → run shape (Some here) events ≡ Some there → AllKnow there
know_along shape here there [] sound know is = subst AllKnow (Some-injective here there is) know
know_along shape here there (e ∷ es) sound know is =
    let m = first_made shape here e there es is in
    know_along shape m.0 there es (step_sound shape here e m.0 m.1.0 sound m.1.1.0)
    (step_balance 0 shape here e m.0 m.1.0 sound know m.1.1.0).0 m.1.1.1

pub get_or-replicate : {X : Type 0} (n i : ℕ) (d : X) → get_or (replicate n d) i d ≡ d
get_or-replicate zero i d = refl
get_or-replicate (suc n) zero d = refl
get_or-replicate (suc n) (suc i) d = get_or-replicate n i d

opening_know : (shape : Shape) (threads : ℕ) → AllKnow (opening shape threads)
unfolding opening place_of
opening_know shape threads t r at = absurd (let e : None ≡ Some r = sym (get_or-replicate threads t None) ∙ at in cc)

-- after every schedule each thread knows so
pub know_after : (o : Opening) (all : List Event) (world : World) → world_after o all ≡ Some world → AllKnow world
know_after o all world is = know_along o.shape (opening o.shape o.threads) world all (opening_sound o.shape o.threads)
    (opening_know o.shape o.threads) is

pub value-zero : value_of 0 ≡ 0
unfolding value_of
value-zero = refl

opening_held : (x : ℕ) (shape : Shape) (threads : ℕ) → held x shape (opening shape threads).words ≡ 0
unfolding opening
opening_held x shape threads = none 1 (shape.n * shape.k)
  where
    none : (i m : ℕ) → sum (times_at x (replicate (2 + shape.n * shape.k) 0)) i m ≡ 0
    none i zero = refl
    none i (suc m) =
        let here : times_at x (replicate (2 + shape.n * shape.k) 0) i ≡ 0 =
        times-empty x _ (ap value_of (get_or-replicate (2 + shape.n * shape.k) i 0) ∙ value-zero) in
        let others = none (suc i) m in
        omega arith

-- The items put in a schedule are those undone, those taken and those left, each as often
pub balance : (o : Opening) (all : List Event) (world : World) (item : ℕ) → world_after o all ≡ Some world
    → puts item o all ≡ undos item o all + (takes item o all + times item (items_left o.shape world.words))
balance o all world item is =
    let head = (sound o.shape o.threads all world is).ends.head in
    let run = run_balance item o.shape (opening o.shape o.threads) world all (opening_sound o.shape o.threads)
    (opening_know o.shape o.threads) is in
    let none = opening_held item o.shape o.threads in
    let left = times-left item o.shape world.words head in
    omega arith
