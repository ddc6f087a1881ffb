-- A call that nobody disturbs ends within n + 2 rounds.
use Rattle.std.proofs.Common.{◌≡◌, ◌≢◌, ℕ, suc, ◌+◌, ◌*◌, ◌-◌, ◌%◌, ◌<◌, ◌≤◌, Bool, true, false, refl, sym, ap, ◌∙◌}
use Rattle.std.proofs.Common.{subst, inl, inr, arith, cond, eqb-true}
use Rattle.std.specs.Prelude.{◌==◌, not}
use Rattle.std.proofs.Math.Nat.{mod-lt, mod-eq_of_lt, mul-le-mul_right}
use Rattle.std.proofs.lemmas.Bool.{cases_eq, eqb-false}
use Rattle.std.proofs.lemmas.Bool.Decides.{nat_tests}
use Rattle.kfifo_machine.proofs.Types.{DequeuePhase, EnqueuePhase, Next, Running, Shape}
use Rattle.kfifo_words.specs.Words.{value_of, version_of, head_of, tail_of}
use Rattle.kfifo_words.specs.Ring.{next_segment, distance, slot_at, clock_at}
use Rattle.kfifo_model.specs.declared.calls.Answer.TheVariants as A
use Rattle.kfifo_machine.specs.declared.place.Found.TheVariants.{Slot, Nothing}
use Rattle.kfifo_machine.specs.declared.place.EnqueuePhase.TheVariants as E
use Rattle.kfifo_machine.specs.declared.place.DequeuePhase.TheVariants as D
use Rattle.kfifo_machine.specs.declared.place.Running.TheVariants as R
use Rattle.kfifo_machine.specs.declared.place.Access.TheVariants.{Exchange}
use Rattle.kfifo_machine.specs.declared.place.Next.TheVariants.{Goes, Answers}
use Rattle.kfifo_machine.specs.Program.{access, accessed, advance, scan_index, head_moved, tail_moved, enqueue_again}
use Rattle.kfifo_machine.specs.Program.{dequeue_again}
use Rattle.kfifo_machine.specs.Places.{IsEnds, IsPlace}
use Rattle.kfifo_machine.specs.Causes.{round_of}
use Rattle.kfifo_machine.proofs.Places.{scan_index-is_slot}
use Rattle.kfifo_machine.proofs.Versions.{next_segment-below}
use Rattle.kfifo_machine.proofs.NoWrap.{head-ends_word, tail-ends_word}
use Rattle.kfifo_machine.proofs.RoundsUndisturbed.{EnqueueQuiet, DequeueQuiet, words_by, watched, watched-below}
use Rattle.kfifo_machine.proofs.RoundsUndisturbed.{opens_round}
use Rattle.kfifo_machine.proofs.Ahead.{distance-below, distance-tail_on, distance-full, distance-head_on, next-apart}

-- how far the tail is ahead
abbrev pub ahead : Shape → ℕ → ℕ
ahead shape ends = distance shape.n (head_of ends) (tail_of ends)

-- the first slots of a segment are empty
abbrev pub EmptyBelow : Shape → (ℕ → ℕ) → ℕ → ℕ → Type 0
EmptyBelow shape w segment m = (j : ℕ) → j < m → value_of (w (slot_at shape.k segment j)) ≡ 0

-- Why an undisturbed enqueue has rounds enough: the tail has yet so far to go; or the head was moved on and the segment
-- that it left, where the tail goes next, is empty; or the tail is there
pub data Room (shape : Shape) (w : ℕ → ℕ) (left ends : ℕ) : Type 0 where
  Early : shape.n + 1 < left + ahead shape ends → Room shape w left ends
  Freed : 1 < left → next_segment shape.n (tail_of ends) ≢ head_of ends
      → EmptyBelow shape w (next_segment shape.n (tail_of ends)) shape.k
      → Room shape w left ends
  Ready : EmptyBelow shape w (tail_of ends) shape.k → Room shape w left ends

-- the same before the tail is there
pub data Moving (shape : Shape) (w : ℕ → ℕ) (left ends : ℕ) : Type 0 where
  Far : shape.n + 1 < left + ahead shape ends → Moving shape w left ends
  Near : 1 < left → next_segment shape.n (tail_of ends) ≢ head_of ends
      → EmptyBelow shape w (next_segment shape.n (tail_of ends)) shape.k
      → Moving shape w left ends

abbrev pub EnqueueAlone : Shape → (ℕ → ℕ) → ℕ → EnqueuePhase → Type 0
EnqueueAlone shape w left E.LoadEnds = Room shape w left (w 0)
EnqueueAlone shape w left (E.ScanTail ends offset) = (w 0 ≡ ends) × Room shape w left ends
EnqueueAlone shape w left (E.Recheck ends Nothing) = (w 0 ≡ ends) × Moving shape w left ends
EnqueueAlone shape w left (E.ScanHead ends offset) = (w 0 ≡ ends) × (2 < left)
    × (next_segment shape.n (tail_of ends) ≡ head_of ends)
    × EmptyBelow shape w (head_of ends) offset
EnqueueAlone shape w left (E.MoveHead ends) = (w 0 ≡ ends) × (2 < left)
    × (next_segment shape.n (tail_of ends) ≡ head_of ends)
    × EmptyBelow shape w (head_of ends) shape.k
EnqueueAlone shape w left (E.MoveTail ends) = (w 0 ≡ ends) × (next_segment shape.n (tail_of ends) ≢ head_of ends)
    × Moving shape w left ends
EnqueueAlone shape w left other = EnqueueQuiet w other

abbrev pub DequeueAlone : Shape → (ℕ → ℕ) → ℕ → DequeuePhase → Type 0
DequeueAlone shape w left D.LoadEnds = ahead shape (w 0) < left
DequeueAlone shape w left (D.ScanHead ends offset) = (w 0 ≡ ends) × (ahead shape ends < left)
DequeueAlone shape w left (D.Recheck ends Nothing) = (w 0 ≡ ends) × (ahead shape ends < left)
DequeueAlone shape w left (D.MoveHead ends) = (w 0 ≡ ends) × (ahead shape ends < left) × (tail_of ends ≢ head_of ends)
DequeueAlone shape w left other = DequeueQuiet w other

abbrev pub Alone : Shape → (ℕ → ℕ) → Running → Type 0
Alone shape w (R.Enqueue item start left phase) = EnqueueAlone shape w left phase
Alone shape w (R.Dequeue start left phase) = DequeueAlone shape w left phase

abbrev pub NextAlone : Shape → (ℕ → ℕ) → Next → Type 0
NextAlone shape w (Goes running) = Alone shape w running
NextAlone shape w (Answers A.Busy) = ⊥
NextAlone shape w (Answers other) = Unit {0}

abbrev MovesNoHead : DequeuePhase → Type 0
MovesNoHead (D.MoveHead ends) = ⊥
MovesNoHead other = Unit {0}

still_dequeue : (shape : Shape) (w : ℕ → ℕ) (start left : ℕ) (phase : DequeuePhase) (word : ℕ) → MovesNoHead phase
    → IsPlace shape (R.Dequeue start left phase) → DequeueAlone shape w left phase
    → word ≡ w (accessed (access shape (R.Dequeue start left phase)))
    → NextAlone shape (words_by (access shape (R.Dequeue start left phase)) w)
    (advance shape (R.Dequeue start left phase) word)
still_dequeue shape w start left phase word still place alone is = grind (arith, nat_tests, scan_index-is_slot)

-- the ends after the head was moved on
ahead-head_moved : (shape : Shape) (ends : ℕ) → IsEnds shape ends → tail_of ends ≢ head_of ends
    → ahead shape (head_moved shape ends) + 1 ≡ ahead shape ends
ahead-head_moved shape ends e apart =
    let head_in = e.head in
    let tail_in = e.tail in
    let on : next_segment shape.n (head_of ends) < shape.n = next_segment-below shape.n (head_of ends) e.head in
    let h : head_of (head_moved shape ends) ≡ next_segment shape.n (head_of ends) =
    head-ends_word (next_segment shape.n (head_of ends)) (tail_of ends) (version_of ends + 1) (omega arith)
    (omega arith) in
    let t : tail_of (head_moved shape ends) ≡ tail_of ends =
    tail-ends_word (next_segment shape.n (head_of ends)) (tail_of ends) (version_of ends + 1) (omega arith)
    (omega arith) in
    ap (λ (x : ℕ). distance shape.n x (tail_of (head_moved shape ends)) + 1) h
    ∙ ap (λ (x : ℕ). distance shape.n (next_segment shape.n (head_of ends)) x + 1) t
    ∙ distance-head_on shape.n (head_of ends) (tail_of ends) e.head e.tail apart

move_dequeue : (shape : Shape) (w : ℕ → ℕ) (start left ends word : ℕ) → IsEnds shape ends → w 0 ≡ ends
    → ahead shape ends < left
    → tail_of ends ≢ head_of ends → 0 < left
    → NextAlone shape (words_by (Exchange 0 ends (head_moved shape ends)) w) (dequeue_again start left)
move_dequeue shape w start left ends word e same less apart some =
    let d : ahead shape (head_moved shape ends) + 1 ≡ ahead shape ends = ahead-head_moved shape ends e apart in
    grind (arith, nat_tests)

dequeue_alone : (shape : Shape) (w : ℕ → ℕ) (start left : ℕ) (phase : DequeuePhase) (word : ℕ)
    → IsPlace shape (R.Dequeue start left phase)
    → DequeueAlone shape w left phase
    → word ≡ w (accessed (access shape (R.Dequeue start left phase)))
    → NextAlone shape (words_by (access shape (R.Dequeue start left phase)) w)
    (advance shape (R.Dequeue start left phase) word)
dequeue_alone shape w start left (D.MoveHead ends) word place alone is =
    move_dequeue shape w start left ends word place.2.0 alone.0 alone.1 alone.2 place.1
dequeue_alone shape w start left D.LoadEnds word place alone is =
    still_dequeue shape w start left D.LoadEnds word tt place alone is
dequeue_alone shape w start left (D.ScanHead ends offset) word place alone is =
    still_dequeue shape w start left (D.ScanHead ends offset) word tt place alone is
dequeue_alone shape w start left (D.Recheck ends Nothing) word place alone is =
    still_dequeue shape w start left (D.Recheck ends Nothing) word tt place alone is
dequeue_alone shape w start left (D.Recheck ends (Slot index seen)) word place alone is =
    still_dequeue shape w start left (D.Recheck ends (Slot index seen)) word tt place alone is
dequeue_alone shape w start left (D.MoveTail ends index filled) word place alone is =
    still_dequeue shape w start left (D.MoveTail ends index filled) word tt place alone is
dequeue_alone shape w start left (D.Take ends index filled) word place alone is =
    still_dequeue shape w start left (D.Take ends index filled) word tt place alone is

-- the steps of an enqueue from its second load of the ends on
abbrev IsPlain : EnqueuePhase → Type 0
IsPlain E.LoadEnds = ⊥
IsPlain (E.ScanTail ends offset) = ⊥
IsPlain (E.Recheck ends Nothing) = ⊥
IsPlain (E.ScanHead ends offset) = ⊥
IsPlain (E.MoveHead ends) = ⊥
IsPlain (E.MoveTail ends) = ⊥
IsPlain other = Unit {0}

plain_alone : (shape : Shape) (w : ℕ → ℕ) (item start left : ℕ) (phase : EnqueuePhase) (word : ℕ)
    → IsPlace shape (R.Enqueue item start left phase) → IsPlain phase → EnqueueQuiet w phase
    → word ≡ w (accessed (access shape (R.Enqueue item start left phase)))
    → NextAlone shape (words_by (access shape (R.Enqueue item start left phase)) w)
    (advance shape (R.Enqueue item start left phase) word)
plain_alone shape w item start left phase word place plain quiet is = grind (arith, nat_tests, scan_index-is_slot)

-- a slot of the segment, as a scan names it
scan-slot : (shape : Shape) (w : ℕ → ℕ) (segment start offset : ℕ) → EmptyBelow shape w segment shape.k
    → value_of (w (scan_index shape segment start offset)) ≡ 0
unfolding scan_index
scan-slot shape w segment start offset empty =
    empty ((start + offset) % shape.k) (mod-lt (start + offset) shape.some_slot)

scan-first : (shape : Shape) (segment offset : ℕ) → offset < shape.k → scan_index shape segment 0 offset
    ≡ slot_at shape.k segment offset
unfolding scan_index
scan-first shape segment offset less =
    let z : 0 + offset ≡ offset = omega arith in
    let m : offset % shape.k ≡ offset = mod-eq_of_lt less in
    ap (λ (x : ℕ). slot_at shape.k segment (x % shape.k)) z ∙ ap (slot_at shape.k segment) m

-- the ends after the tail was moved on
pub tail_moved-tail : (shape : Shape) (ends : ℕ) → IsEnds shape ends → tail_of (tail_moved shape ends)
    ≡ next_segment shape.n (tail_of ends)
tail_moved-tail shape ends e =
    let head_in = e.head in
    let tail_in = e.tail in
    let on : next_segment shape.n (tail_of ends) < shape.n = next_segment-below shape.n (tail_of ends) e.tail in
    tail-ends_word (head_of ends) (next_segment shape.n (tail_of ends)) (version_of ends + 1) (omega arith)
    (omega arith)

pub tail_moved-head : (shape : Shape) (ends : ℕ) → IsEnds shape ends → head_of (tail_moved shape ends) ≡ head_of ends
tail_moved-head shape ends e =
    let head_in = e.head in
    let tail_in = e.tail in
    let on : next_segment shape.n (tail_of ends) < shape.n = next_segment-below shape.n (tail_of ends) e.tail in
    head-ends_word (head_of ends) (next_segment shape.n (tail_of ends)) (version_of ends + 1) (omega arith)
    (omega arith)

ahead-tail_moved : (shape : Shape) (ends : ℕ) → IsEnds shape ends → next_segment shape.n (tail_of ends) ≢ head_of ends
    → (ahead shape (tail_moved shape ends) ≡ ahead shape ends + 1) × (ahead shape ends + 1 < shape.n)
ahead-tail_moved shape ends e room =
    let k = distance-tail_on shape.n (head_of ends) (tail_of ends) e.head e.tail room in (
      ap (λ (x : ℕ). distance shape.n x (tail_of (tail_moved shape ends))) (tail_moved-head shape ends e)
          ∙ ap (distance shape.n (head_of ends)) (tail_moved-tail shape ends e) ∙ k.0,
      k.1,
    )

pub head_moved-tail : (shape : Shape) (ends : ℕ) → IsEnds shape ends → tail_of (head_moved shape ends) ≡ tail_of ends
head_moved-tail shape ends e =
    let head_in = e.head in
    let tail_in = e.tail in
    let on : next_segment shape.n (head_of ends) < shape.n = next_segment-below shape.n (head_of ends) e.head in
    tail-ends_word (next_segment shape.n (head_of ends)) (tail_of ends) (version_of ends + 1) (omega arith)
    (omega arith)

pub head_moved-head : (shape : Shape) (ends : ℕ) → IsEnds shape ends → head_of (head_moved shape ends)
    ≡ next_segment shape.n (head_of ends)
head_moved-head shape ends e =
    let head_in = e.head in
    let tail_in = e.tail in
    let on : next_segment shape.n (head_of ends) < shape.n = next_segment-below shape.n (head_of ends) e.head in
    head-ends_word (next_segment shape.n (head_of ends)) (tail_of ends) (version_of ends + 1) (omega arith)
    (omega arith)

-- an exchange of the ends word leaves the slots
pub slots_stay : (w : ℕ → ℕ) (from to i : ℕ) → 0 < i → words_by (Exchange 0 from to) w i ≡ w i
slots_stay w from to i above = grind (arith, nat_tests)

pub ends_change : (w : ℕ → ℕ) (from to : ℕ) → w 0 ≡ from → words_by (Exchange 0 from to) w 0 ≡ to
ends_change w from to same = grind (arith, nat_tests)

empty_stays : (shape : Shape) (w : ℕ → ℕ) (from to segment m : ℕ) → EmptyBelow shape w segment m
    → EmptyBelow shape (words_by (Exchange 0 from to) w) segment m
empty_stays shape w from to segment m empty j less =
    ap value_of (slots_stay w from to (slot_at shape.k segment j) (omega arith)) ∙ empty j less

-- a new round, which is not the last one that was left
again_alone : (shape : Shape) (w : ℕ → ℕ) (item start left : ℕ) → 1 < left → Room shape w (left - 1) (w 0)
    → NextAlone shape w (enqueue_again item start left)
again_alone shape w item start left more room = by_test (left == 1) refl
  where
    by_test : (b : Bool) → (left == 1) ≡ b
        → NextAlone shape w (cond b (Answers A.Busy) (Goes (R.Enqueue item start (left - 1) E.LoadEnds)))
    by_test true is = absurd (let e : left ≡ 1 = eqb-true left 1 is in omega arith)
    by_test false is = room

-- the tail was moved on
tail_alone : (shape : Shape) (w : ℕ → ℕ) (item start left ends : ℕ) → IsEnds shape ends → w 0 ≡ ends
    → next_segment shape.n (tail_of ends) ≢ head_of ends → Moving shape w left ends
    → NextAlone shape (words_by (Exchange 0 ends (tail_moved shape ends)) w) (enqueue_again item start left)
tail_alone shape w item start left ends e same room (Far far) =
    let k = ahead-tail_moved shape ends e room in
    let changed : words_by (Exchange 0 ends (tail_moved shape ends)) w 0 ≡ tail_moved shape ends =
    ends_change w ends (tail_moved shape ends) same in
    let now : shape.n + 1 < (left - 1) + ahead shape (tail_moved shape ends) = let x = k.0 in let y = k.1 in
    omega arith in
    let two : 1 < left = let y = k.1 in omega arith in
    again_alone shape (words_by (Exchange 0 ends (tail_moved shape ends)) w) item start left two
    (subst (Room shape (words_by (Exchange 0 ends (tail_moved shape ends)) w) (left - 1)) (sym changed) (Early now))
tail_alone shape w item start left ends e same room (Near two apart empty) =
    let changed : words_by (Exchange 0 ends (tail_moved shape ends)) w 0 ≡ tail_moved shape ends =
    ends_change w ends (tail_moved shape ends) same in
    let empty_now : EmptyBelow shape (words_by (Exchange 0 ends (tail_moved shape ends)) w)
    (next_segment shape.n (tail_of ends)) shape.k =
    empty_stays shape w ends (tail_moved shape ends) (next_segment shape.n (tail_of ends)) shape.k empty in
    again_alone shape (words_by (Exchange 0 ends (tail_moved shape ends)) w) item start left two
    (subst (Room shape (words_by (Exchange 0 ends (tail_moved shape ends)) w) (left - 1)) (sym changed)
    (Ready (subst (λ (s : ℕ). EmptyBelow shape (words_by (Exchange 0 ends (tail_moved shape ends)) w) s shape.k)
    (sym (tail_moved-tail shape ends e)) empty_now)))

-- the head was moved on, off an empty segment
head_alone : (shape : Shape) (w : ℕ → ℕ) (item start left ends : ℕ) → IsEnds shape ends → w 0 ≡ ends → 2 < left
    → next_segment shape.n (tail_of ends) ≡ head_of ends → EmptyBelow shape w (head_of ends) shape.k
    → NextAlone shape (words_by (Exchange 0 ends (head_moved shape ends)) w) (enqueue_again item start left)
head_alone shape w item start left ends e same more full empty =
    let changed : words_by (Exchange 0 ends (head_moved shape ends)) w 0 ≡ head_moved shape ends =
    ends_change w ends (head_moved shape ends) same in
    let next_is : next_segment shape.n (tail_of (head_moved shape ends)) ≡ head_of ends =
    ap (next_segment shape.n) (head_moved-tail shape ends e) ∙ full in
    let empty_now : EmptyBelow shape (words_by (Exchange 0 ends (head_moved shape ends)) w) (head_of ends) shape.k =
    empty_stays shape w ends (head_moved shape ends) (head_of ends) shape.k empty in
    again_alone shape (words_by (Exchange 0 ends (head_moved shape ends)) w) item start left (omega arith)
    (subst (Room shape (words_by (Exchange 0 ends (head_moved shape ends)) w) (left - 1)) (sym changed)
    (Freed (omega arith)
    (λ meet. next-apart shape.n (head_of ends) shape.some_segments e.head
    (sym (sym next_is ∙ meet ∙ head_moved-head shape ends e)))
    (subst (λ (s : ℕ). EmptyBelow shape (words_by (Exchange 0 ends (head_moved shape ends)) w) s shape.k) (sym next_is)
    empty_now)))

-- an enqueue's step
enqueue_alone : (shape : Shape) (w : ℕ → ℕ) (item start left : ℕ) (phase : EnqueuePhase) (word : ℕ)
    → IsPlace shape (R.Enqueue item start left phase) → EnqueueAlone shape w left phase
    → word ≡ w (accessed (access shape (R.Enqueue item start left phase)))
    → NextAlone shape (words_by (access shape (R.Enqueue item start left phase)) w)
    (advance shape (R.Enqueue item start left phase) word)
enqueue_alone shape w item start left E.LoadEnds word place alone is =
    (sym is, subst (Room shape w left) (sym is) alone)
enqueue_alone shape w item start left (E.ScanTail ends offset) word place alone is = by_value (value_of word == 0) refl
  where
    moving : value_of word ≢ 0 → Room shape w left ends → Moving shape w left ends
    moving filled (Early far) = Far far
    moving filled (Freed two apart empty) = Near two apart empty
    moving filled (Ready empty) = absurd (filled (ap value_of is ∙ scan-slot shape w (tail_of ends) start offset empty))

    by_probes : (b : Bool) → value_of word ≢ 0
        → NextAlone shape w (cond b (Goes (R.Enqueue item start left (E.Recheck ends Nothing)))
        (Goes (R.Enqueue item start left (E.ScanTail ends (offset + 1)))))
    by_probes true filled = (alone.0, moving filled alone.1)
    by_probes false filled = alone

    by_value : (b : Bool) → (value_of word == 0) ≡ b
        → NextAlone shape w (cond b (Goes (R.Enqueue item start left
        (E.Recheck ends (Slot (scan_index shape (tail_of ends) start offset) word))))
        (cond (offset + 1 == shape.probes) (Goes (R.Enqueue item start left (E.Recheck ends Nothing)))
        (Goes (R.Enqueue item start left (E.ScanTail ends (offset + 1))))))
    by_value true empty = (alone.0, sym is)
    by_value false filled = by_probes (offset + 1 == shape.probes) (eqb-false (value_of word) 0 filled)
enqueue_alone shape w item start left (E.Recheck ends Nothing) word place alone is = by_ends (word == ends) refl
  where
    many : next_segment shape.n (tail_of ends) ≡ head_of ends → Moving shape w left ends → 2 < left
    many full (Far far) = let d : distance shape.n (head_of ends) (tail_of ends) + 1 ≡ shape.n =
        distance-full shape.n (head_of ends) (tail_of ends) place.4.head place.4.tail full in omega arith
    many full (Near two apart empty) = absurd (apart full)

    by_last : (b : Bool) → next_segment shape.n (tail_of ends) ≢ head_of ends
        → NextAlone shape w (cond b (Answers A.Worn) (Goes (R.Enqueue item start left (E.MoveTail ends))))
    by_last true room = tt
    by_last false room = (alone.0, room, alone.1)

    by_ring : (b : Bool) → (next_segment shape.n (tail_of ends) == head_of ends) ≡ b
        → NextAlone shape w (cond b (Goes (R.Enqueue item start left (E.ScanHead ends 0)))
        (cond (version_of ends == shape.last) (Answers A.Worn) (Goes (R.Enqueue item start left (E.MoveTail ends)))))
    by_ring true full = let same : next_segment shape.n (tail_of ends) ≡ head_of ends =
        eqb-true (next_segment shape.n (tail_of ends)) (head_of ends) full in
        (alone.0, many same alone.1, same, λ j less. absurd (omega arith))
    by_ring false room =
        by_last (version_of ends == shape.last) (eqb-false (next_segment shape.n (tail_of ends)) (head_of ends) room)

    by_ends : (b : Bool) → (word == ends) ≡ b
        → NextAlone shape w (cond (not b) (enqueue_again item start left)
        (cond (next_segment shape.n (tail_of ends) == head_of ends)
        (Goes (R.Enqueue item start left (E.ScanHead ends 0)))
        (cond (version_of ends == shape.last) (Answers A.Worn) (Goes (R.Enqueue item start left (E.MoveTail ends))))))
    by_ends true same = by_ring (next_segment shape.n (tail_of ends) == head_of ends) refl
    by_ends false other = absurd (eqb-false word ends other (is ∙ alone.0))
enqueue_alone shape w item start left (E.ScanHead ends offset) word place alone is = by_value (value_of word == 0) refl
  where
    empty_more : value_of word ≡ 0 → EmptyBelow shape w (head_of ends) (offset + 1)
    empty_more empty j less = elim (cases_eq j offset) [
      | inl same ↦ ap (λ (x : ℕ). value_of (w (slot_at shape.k (head_of ends) x))) same
          ∙ ap (λ (x : ℕ). value_of (w x)) (sym (scan-first shape (head_of ends) offset place.4.1))
          ∙ ap value_of (sym is) ∙ empty
      | inr ne ↦ alone.3 j (omega arith)
    ]

    by_last : (b : Bool) → EmptyBelow shape w (head_of ends) shape.k
        → NextAlone shape w (cond b (Answers A.Worn) (Goes (R.Enqueue item start left (E.MoveHead ends))))
    by_last true empty = tt
    by_last false empty = (alone.0, alone.1, alone.2, empty)

    by_end : (b : Bool) → (offset + 1 == shape.k) ≡ b → value_of word ≡ 0
        → NextAlone shape w (cond (not b) (Goes (R.Enqueue item start left (E.ScanHead ends (offset + 1))))
        (cond (version_of ends == shape.last) (Answers A.Worn) (Goes (R.Enqueue item start left (E.MoveHead ends)))))
    by_end true all empty = by_last (version_of ends == shape.last)
        (subst (EmptyBelow shape w (head_of ends)) (eqb-true (offset + 1) shape.k all) (empty_more empty))
    by_end false some empty = (alone.0, alone.1, alone.2, empty_more empty)

    by_value : (b : Bool) → (value_of word == 0) ≡ b
        → NextAlone shape w (cond (not b) (Goes (R.Enqueue item start left (E.ConfirmFull ends)))
        (cond (not (offset + 1 == shape.k)) (Goes (R.Enqueue item start left (E.ScanHead ends (offset + 1))))
        (cond (version_of ends == shape.last) (Answers A.Worn) (Goes (R.Enqueue item start left (E.MoveHead ends))))))
    by_value true empty = by_end (offset + 1 == shape.k) refl (eqb-true (value_of word) 0 empty)
    by_value false filled = alone.0
enqueue_alone shape w item start left (E.MoveHead ends) word place alone is =
    head_alone shape w item start left ends place.4.0 alone.0 alone.1 alone.2 alone.3
enqueue_alone shape w item start left (E.MoveTail ends) word place alone is =
    tail_alone shape w item start left ends place.4.0 alone.0 alone.1 alone.2
enqueue_alone shape w item start left (E.Recheck ends (Slot index seen)) word place alone is =
    plain_alone shape w item start left (E.Recheck ends (Slot index seen)) word place tt alone is
enqueue_alone shape w item start left (E.Put ends index empty) word place alone is =
    plain_alone shape w item start left (E.Put ends index empty) word place tt alone is
enqueue_alone shape w item start left (E.ReloadSlot ends index filled) word place alone is =
    plain_alone shape w item start left (E.ReloadSlot ends index filled) word place tt alone is
enqueue_alone shape w item start left (E.ReloadEnds ends index filled) word place alone is =
    plain_alone shape w item start left (E.ReloadEnds ends index filled) word place tt alone is
enqueue_alone shape w item start left (E.HoldHead ends index filled held) word place alone is =
    plain_alone shape w item start left (E.HoldHead ends index filled held) word place tt alone is
enqueue_alone shape w item start left (E.Undo index filled worn) word place alone is =
    plain_alone shape w item start left (E.Undo index filled worn) word place tt alone is
enqueue_alone shape w item start left (E.ConfirmFull ends) word place alone is =
    plain_alone shape w item start left (E.ConfirmFull ends) word place tt alone is

pub alone_on : (shape : Shape) (w : ℕ → ℕ) (running : Running) (word : ℕ) → IsPlace shape running
    → Alone shape w running
    → word ≡ w (accessed (access shape running))
    → NextAlone shape (words_by (access shape running) w) (advance shape running word)
alone_on shape w (R.Enqueue item start left phase) word place alone is =
    enqueue_alone shape w item start left phase word place alone is
alone_on shape w (R.Dequeue start left phase) word place alone is =
    dequeue_alone shape w start left phase word place alone is

-- the words of the ends and the slots stay
abbrev pub SameBelow : Shape → (ℕ → ℕ) → (ℕ → ℕ) → Type 0
SameBelow shape w v = (i : ℕ) → i < clock_at shape.k shape.n → v i ≡ w i

empty_same : (shape : Shape) (w v : ℕ → ℕ) (segment m : ℕ) → SameBelow shape w v → segment < shape.n → m ≤ shape.k
    → EmptyBelow shape w segment m → EmptyBelow shape v segment m
empty_same shape w v segment m same in_ring few empty j less =
    let mul : suc segment * shape.k ≤ shape.n * shape.k = mul-le-mul_right shape.k in_ring in
    ap value_of (same (slot_at shape.k segment j) (omega arith)) ∙ empty j less

room_same : (shape : Shape) (w v : ℕ → ℕ) (left ends : ℕ) → SameBelow shape w v → IsEnds shape ends
    → Room shape w left ends
    → Room shape v left ends
room_same shape w v left ends same e (Early far) = Early far
room_same shape w v left ends same e (Freed two apart empty) =
    Freed two apart (empty_same shape w v (next_segment shape.n (tail_of ends)) shape.k same
    (next_segment-below shape.n (tail_of ends) e.tail) (omega arith) empty)
room_same shape w v left ends same e (Ready empty) =
    Ready (empty_same shape w v (tail_of ends) shape.k same e.tail (omega arith) empty)

moving_same : (shape : Shape) (w v : ℕ → ℕ) (left ends : ℕ) → SameBelow shape w v → IsEnds shape ends
    → Moving shape w left ends
    → Moving shape v left ends
moving_same shape w v left ends same e (Far far) = Far far
moving_same shape w v left ends same e (Near two apart empty) =
    Near two apart (empty_same shape w v (next_segment shape.n (tail_of ends)) shape.k same
    (next_segment-below shape.n (tail_of ends) e.tail) (omega arith) empty)

plain_same : (shape : Shape) (w v : ℕ → ℕ) (item start left : ℕ) (phase : EnqueuePhase) → IsPlain phase
    → IsPlace shape (R.Enqueue item start left phase) → v 0 ≡ w 0
    → v (watched (R.Enqueue item start left phase)) ≡ w (watched (R.Enqueue item start left phase))
    → EnqueueAlone shape w left phase → EnqueueAlone shape v left phase
plain_same shape w v item start left phase plain place ends slot alone = grind arith

dequeue_same : (shape : Shape) (w v : ℕ → ℕ) (start left : ℕ) (phase : DequeuePhase) → v 0 ≡ w 0
    → v (watched (R.Dequeue start left phase)) ≡ w (watched (R.Dequeue start left phase))
    → DequeueAlone shape w left phase → DequeueAlone shape v left phase
dequeue_same shape w v start left phase ends slot alone = grind arith

enqueue_same : (shape : Shape) (w v : ℕ → ℕ) (item start left : ℕ) (phase : EnqueuePhase) → SameBelow shape w v
    → IsEnds shape (w 0)
    → IsPlace shape (R.Enqueue item start left phase) → v 0 ≡ w 0
    → v (watched (R.Enqueue item start left phase)) ≡ w (watched (R.Enqueue item start left phase))
    → EnqueueAlone shape w left phase
    → EnqueueAlone shape v left phase
enqueue_same shape w v item start left E.LoadEnds same e place ends slot alone =
    subst (Room shape v left) (sym ends) (room_same shape w v left (w 0) same e alone)
enqueue_same shape w v item start left (E.ScanTail x offset) same e place ends slot alone =
    (ends ∙ alone.0, room_same shape w v left x same place.4.0 alone.1)
enqueue_same shape w v item start left (E.Recheck x Nothing) same e place ends slot alone =
    (ends ∙ alone.0, moving_same shape w v left x same place.4 alone.1)
enqueue_same shape w v item start left (E.ScanHead x offset) same e place ends slot alone =
    let low : offset < shape.k = place.4.1 in (
      ends ∙ alone.0,
      alone.1,
      alone.2,
      empty_same shape w v (head_of x) offset same place.4.0.head (omega arith)
          alone.3,
    )
enqueue_same shape w v item start left (E.MoveHead x) same e place ends slot alone = (
  ends ∙ alone.0,
  alone.1,
  alone.2,
  empty_same shape w v (head_of x) shape.k same place.4.0.head (omega arith)
      alone.3,
)
enqueue_same shape w v item start left (E.MoveTail x) same e place ends slot alone =
    (ends ∙ alone.0, alone.1, moving_same shape w v left x same place.4.0 alone.2)
enqueue_same shape w v item start left (E.Recheck x (Slot index seen)) same e place ends slot alone =
    plain_same shape w v item start left (E.Recheck x (Slot index seen)) tt place ends slot alone
enqueue_same shape w v item start left (E.Put x index empty) same e place ends slot alone =
    plain_same shape w v item start left (E.Put x index empty) tt place ends slot alone
enqueue_same shape w v item start left (E.ReloadSlot x index filled) same e place ends slot alone =
    plain_same shape w v item start left (E.ReloadSlot x index filled) tt place ends slot alone
enqueue_same shape w v item start left (E.ReloadEnds x index filled) same e place ends slot alone =
    plain_same shape w v item start left (E.ReloadEnds x index filled) tt place ends slot alone
enqueue_same shape w v item start left (E.HoldHead x index filled held) same e place ends slot alone =
    plain_same shape w v item start left (E.HoldHead x index filled held) tt place ends slot alone
enqueue_same shape w v item start left (E.Undo index filled worn) same e place ends slot alone =
    plain_same shape w v item start left (E.Undo index filled worn) tt place ends slot alone
enqueue_same shape w v item start left (E.ConfirmFull x) same e place ends slot alone =
    plain_same shape w v item start left (E.ConfirmFull x) tt place ends slot alone

pub alone_same : (shape : Shape) (w v : ℕ → ℕ) (running : Running) → SameBelow shape w v → IsEnds shape (w 0)
    → IsPlace shape running
    → Alone shape w running → Alone shape v running
alone_same shape w v (R.Enqueue item start left phase) same e place alone =
    enqueue_same shape w v item start left phase same e place (same 0 (omega arith))
    (same (watched (R.Enqueue item start left phase)) (watched-below shape (R.Enqueue item start left phase) place))
    alone
alone_same shape w v (R.Dequeue start left phase) same e place alone =
    dequeue_same shape w v start left phase (same 0 (omega arith))
    (same (watched (R.Dequeue start left phase)) (watched-below shape (R.Dequeue start left phase) place)) alone

-- a call that begins with n + 2 rounds has room
pub begun_alone : (shape : Shape) (w : ℕ → ℕ) (running : Running) → IsEnds shape (w 0) → opens_round running ≡ true
    → shape.n + 2 ≤ round_of running → Alone shape w running
begun_alone shape w (R.Enqueue item start left E.LoadEnds) e opens many = Early (omega arith)
begun_alone shape w (R.Dequeue start left D.LoadEnds) e opens many =
    let d : distance shape.n (head_of (w 0)) (tail_of (w 0)) < shape.n =
    distance-below shape.n (head_of (w 0)) (tail_of (w 0)) e.head e.tail in omega arith
begun_alone shape w (R.Enqueue item start left other) e opens many = absurd (cc)
begun_alone shape w (R.Dequeue start left other) e opens many = absurd (cc)
