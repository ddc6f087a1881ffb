-- A step leads from a place to a place, and brings the call nearer to its end.
use Rattle.std.proofs.Common.{zero, suc, replicate, map, ◌≡◌, ◌≢◌, ℕ, ◌+◌, ◌-◌, ◌*◌, ◌%◌, ◌<◌, ◌≤◌, ◌⊎◌, inl, inr, refl}
use Rattle.std.proofs.Common.{sym, ap, ◌∙◌, arith, Option, Some, None, List, length, get_or, set, eqb}
use Rattle.std.proofs.Math.Nat.{mod-lt, mul-le-mul_right}
use Rattle.std.proofs.lemmas.Bool.{cases_Bool, cases_eq, cond_both, eqb-true}
use Rattle.std.proofs.lemmas.List.{length-set, length-replicate, get_or-set_other}
use Rattle.std.proofs.lemmas.Grind.{get_or-set_at}
use Rattle.std.specs.List.{range_with_len}
use Rattle.std.proofs.lemmas.Simd.{splat_is_map}
use Rattle.std.proofs.lemmas.List.FromFn.{length-range_with_len}
use Rattle.kfifo_machine.proofs.Types.{Access, DequeuePhase, EnqueuePhase, Next, Running, Shape}
use Rattle.kfifo_machine.specs.declared.place.Access.TheVariants.{Load, Exchange}
use Rattle.std.proofs.lemmas.Bool.Decides.{nat_tests}
use Rattle.kfifo_words.specs.Words.{slot_word, value_of, version_of, ends_word, head_of, tail_of}
use Rattle.kfifo_words.specs.Ring.{next_segment, clock_at}
use Rattle.kfifo_machine.specs.Program.{access, accessed, advance, scan_index, filled_with, emptied, sealed_word}
use Rattle.kfifo_machine.specs.Machine.{World, opening, moved, found, word_at, words_after, place_after, outcome_of}
use Rattle.kfifo_machine.specs.Places.{IsSlotIndex, IsEnds, IsPlace, IsSlotWord, IsFoundBy, IsState}
use Rattle.kfifo_machine.specs.declared.place.EnqueuePhase.TheVariants as E
use Rattle.kfifo_machine.specs.declared.place.DequeuePhase.TheVariants as D
use Rattle.kfifo_machine.specs.declared.place.Running.TheVariants as R
use Rattle.kfifo_machine.specs.declared.place.Next.TheVariants.{Goes, Answers}

abbrev pub NextIsPlace : Shape → Next → Type 0
NextIsPlace shape (Goes running) = IsPlace shape running
NextIsPlace shape (Answers answer) = Unit {0}

version-filled_with : (item empty : ℕ) → item < 16777216 → version_of (filled_with item empty) ≡ version_of empty + 1
unfolding version_of slot_word
version-filled_with item empty h = omega arith

pub scan_index-is_slot : (shape : Shape) (segment start offset : ℕ) → 0 < shape.k → segment < shape.n
    → (scan_index shape segment start offset ≡ scan_index shape segment start offset)
    × IsSlotIndex shape (scan_index shape segment start offset)
unfolding scan_index
scan_index-is_slot shape segment start offset k h =
    let j : (start + offset) % shape.k < shape.k = mod-lt (start + offset) k in
    let m : suc segment * shape.k ≤ shape.n * shape.k = mul-le-mul_right shape.k h in
    (refl, record { above = omega arith; below = omega arith })

pub in_table : (shape : Shape) → (running : Running) → IsPlace shape running
    → accessed (access shape running) < 1 + shape.n * shape.k
in_table shape running s = grind (arith, nat_tests, scan_index-is_slot)

pub stays_place : (shape : Shape) → (running : Running) (word : ℕ) → IsPlace shape running
    → (accessed (access shape running) ≡ 0 → IsEnds shape word)
    → (0 < accessed (access shape running) → IsSlotWord shape word)
    → NextIsPlace shape (advance shape running word)
stays_place shape running word s ends slot = grind (arith, nat_tests, version-filled_with, scan_index-is_slot)

-- how many steps a place may still have in its round, and in its call
abbrev pub enqueue_budget : ℕ → EnqueuePhase → ℕ
enqueue_budget k E.LoadEnds = 2 * k + 9
enqueue_budget k (E.ScanTail ends offset) = (k - offset) + (k + 7)
enqueue_budget k (E.Recheck ends found) = k + 6
enqueue_budget k (E.Put ends index empty) = 5
enqueue_budget k (E.ReloadSlot ends index filled) = 4
enqueue_budget k (E.ReloadEnds ends index filled) = 3
enqueue_budget k (E.HoldHead ends index filled held) = 2
enqueue_budget k (E.Undo index filled worn) = 1
enqueue_budget k (E.ScanHead ends offset) = (k - offset) + 1
enqueue_budget k (E.ConfirmFull ends) = 1
enqueue_budget k (E.MoveHead ends) = 1
enqueue_budget k (E.MoveTail ends) = 1

abbrev pub dequeue_budget : ℕ → DequeuePhase → ℕ
dequeue_budget k D.LoadEnds = 2 * k + 9
dequeue_budget k (D.ScanHead ends offset) = (k - offset) + 5
dequeue_budget k (D.Recheck ends found) = 4
dequeue_budget k (D.MoveTail ends index filled) = 3
dequeue_budget k (D.Take ends index filled) = 2
dequeue_budget k (D.MoveHead ends) = 1

abbrev pub budget : ℕ → Running → ℕ
budget k (R.Enqueue item start left phase) = (left - 1) * (2 * k + 9) + enqueue_budget k phase
budget k (R.Dequeue start left phase) = (left - 1) * (2 * k + 9) + dequeue_budget k phase

abbrev pub NextBelow : ℕ → ℕ → Next → Type 0
NextBelow k bound (Goes running) = budget k running < bound
NextBelow k bound (Answers answer) = Unit {0}

round-less : (left c : ℕ) → 0 < left → left ≢ 1 → (left - 1 - 1) * c + c ≡ (left - 1) * c
round-less left c h n = let e : left - 1 ≡ (left - 1 - 1) + 1 = omega arith in omega (arith, ap (λ x. x * c) e)

-- each step brings a call nearer to its end; it begins with at most turns * (2k + 9) steps before it
pub budget_falls : (shape : Shape) → (running : Running) (word : ℕ) → IsPlace shape running
    → NextBelow shape.k (budget shape.k running) (advance shape running word)
budget_falls shape running word s = grind (arith, nat_tests, round-less)

pub budget-begin : (k item start turns : ℕ) → 0 < turns → budget k (R.Enqueue item start turns E.LoadEnds)
    ≡ turns * (2 * k + 9)
budget-begin k item start turns h = let e : turns ≡ (turns - 1) + 1 = omega arith in
    omega (arith, ap (λ x. x * (2 * k + 9)) e)

-- what a step finds in a sound state
pub found_by : (shape : Shape) (words : List ℕ) (places : List (Option Running)) (running : Running)
    → IsState shape words places
    → IsFoundBy shape running (get_or words (accessed (access shape running)) 0)
found_by shape words places running h = let e = h.ends in grind arith

length-after : (a : Access) (words : List ℕ) → length (words_after a words) ≡ length words
length-after (Load index) words = refl
length-after (Exchange index from to) words =
    cond_both (eqb (get_or words index 0) from) (set words index to) words (λ ws. length ws ≡ length words)
    (λ _. length-set words index to)
    (λ _. refl)

-- a word after an access
pub get_or-after : (a : Access) (words : List ℕ) (i : ℕ) → accessed a < length words
    → (get_or (words_after a words) i 0 ≡ get_or words i 0)
    ⊎ ((i ≡ accessed a) × ((from : ℕ) × ((to : ℕ)
    × ((a ≡ Exchange (accessed a) from to) × (get_or words i 0 ≡ from) × (get_or (words_after a words) i 0 ≡ to)))))
get_or-after (Load index) words i h = inl refl
get_or-after (Exchange index from to) words i h =
    elim (cases_Bool (eqb (get_or words index 0) from)) [
      | inl e ↦ elim (cases_eq i index) [
        | inl same ↦ inr (
          same,
          (
            from,
            (
              to,
              (
                refl,
                ap (λ j. get_or words j 0) same ∙ eqb-true (get_or words index 0) from e,
                rw e (get_or-set_at words index i to 0 same h),
              ),
            ),
          ),
        )
        | inr ne ↦ inl (rw e (get_or-set_other words index i to 0 ne))
      ]
      | inr e ↦ inl (rw e refl)
    ]

head-ends_word : (head tail version : ℕ) → head < 4096 → tail < 4096 → head_of (ends_word head tail version) ≡ head
unfolding head_of ends_word
head-ends_word head tail version h t = omega arith

tail-ends_word : (head tail version : ℕ) → head < 4096 → tail < 4096 → tail_of (ends_word head tail version) ≡ tail
unfolding tail_of ends_word
tail-ends_word head tail version h t = omega arith

version-ends_word : (head tail version : ℕ) → head < 4096 → tail < 4096 → version_of (ends_word head tail version)
    ≡ version
unfolding version_of ends_word
version-ends_word head tail version h t = omega arith

next_segment-below : (n s : ℕ) → s < n → next_segment n s < n
unfolding next_segment
next_segment-below n s h = grind (arith, nat_tests)

value-emptied : (filled : ℕ) → value_of (emptied filled) ≡ 0
unfolding value_of slot_word
value-emptied filled = omega arith

-- the words that an exchange writes are sound
writes_ends : (shape : Shape) → (running : Running) (from to : ℕ) → IsPlace shape running
    → access shape running ≡ Exchange 0 from to
    → IsEnds shape to
writes_ends shape running from to s e = grind
    (arith, nat_tests, head-ends_word, tail-ends_word, version-ends_word, next_segment-below, scan_index-is_slot)

writes_slot : (shape : Shape) → (running : Running) (index from to : ℕ) → IsPlace shape running → 0 < index
    → access shape running ≡ Exchange index from to → IsSlotWord shape to
writes_slot shape running index from to s pos e =
    grind (arith, nat_tests, version-filled_with, value-emptied, scan_index-is_slot)

next_place : (shape : Shape) (next : Next) (r : Running) → NextIsPlace shape next → place_after next ≡ Some r
    → IsPlace shape r
next_place shape next r h e = grind arith

-- a sound state stays sound
pub state_stays : (shape : Shape) → (words : List ℕ) (places : List (Option Running)) (thread : ℕ) (running : Running)
    → IsState shape words places → IsPlace shape running → thread < length places
    → IsState shape (words_after (access shape running) words)
    (set places thread (place_after (advance shape running (get_or words (accessed (access shape running)) 0))))
state_stays shape words places thread running h s t =
    let within : accessed (access shape running) < length words = omega (arith, in_table shape running s, h.size) in
    let next : NextIsPlace shape (advance shape running (get_or words (accessed (access shape running)) 0)) =
    stays_place shape running (get_or words (accessed (access shape running)) 0) s
    (λ z. rw z h.ends)
    (λ pos. h.each_slot (accessed (access shape running)) pos (in_table shape running s)) in
    record {
      size = length-after (access shape running) words ∙ h.size;
      ends = elim (get_or-after (access shape running) words 0 within) [
        | inl e ↦ rw e h.ends
        | inr k ↦ rw k.1.1.1.2 (writes_ends shape running k.1.0 k.1.1.0 s (rw (← k.0) at k.1.1.1.0))
      ];
      each_slot = λ i pos below. elim (get_or-after (access shape running) words i within) [
        | inl e ↦ rw e (h.each_slot i pos below)
        | inr k ↦ rw k.1.1.1.2 (writes_slot shape running (accessed (access shape running)) k.1.0 k.1.1.0 s
            (omega (arith, pos, k.0)) k.1.1.1.0)
      ];
      each_place = λ u r f. elim (cases_eq u thread) [
        | inl same ↦ next_place shape (advance shape running (get_or words (accessed (access shape running)) 0)) r next
            (sym (get_or-set_at places thread u
            (place_after (advance shape running (get_or words (accessed (access shape running)) 0)))
            None same t) ∙ f)
        | inr ne ↦ h.each_place u r (sym (get_or-set_other places thread u
            (place_after (advance shape running (get_or words (accessed (access shape running)) 0))) None ne) ∙ f)
      ];
    }

-- the state after a step, as the machine says
pub moved_is : (shape : Shape) (words : List ℕ) (places : List (Option Running)) (thread : ℕ) (running : Running)
    (a : Access) (word : ℕ) (next : Next) (new_words : List ℕ) (new_places : List (Option Running))
    → a ≡ access shape running → word ≡ get_or words (accessed a) 0 → next ≡ advance shape running word
    → new_words ≡ words_after a words
    → new_places ≡ set places thread (place_after next)
    → ◌≡◌ {A = World} (record { words = new_words; places = new_places })
    (moved shape (record { words = words; places = places }) thread running)
unfolding moved found word_at
moved_is shape words places thread running a word next new_words new_places ea ew en e1 e2 =
    rw (e2, e1, en, ew, ea) refl

pub sound_is : (shape : Shape) → (words : List ℕ) (places : List (Option Running)) (thread : ℕ) (running : Running)
    (a : Access) (word : ℕ) (next : Next) (new_words : List ℕ) (new_places : List (Option Running))
    → IsState shape words places → IsPlace shape running → thread < length places
    → a ≡ access shape running → word ≡ get_or words (accessed a) 0 → next ≡ advance shape running word
    → new_words ≡ words_after a words
    → new_places ≡ set places thread (place_after next)
    → IsState shape new_words new_places
sound_is shape words places thread running a word next new_words new_places h s t ea ew en e1 e2 =
    rw (e2, e1, en, ew, ea) (state_stays shape words places thread running h s t)

-- what the step comes to, as the machine says
pub outcome_is : (shape : Shape) (world : World) (running : Running) (a : Access) (word : ℕ) (next : Next)
    → a ≡ access shape running → word ≡ get_or world.words (accessed a) 0 → next ≡ advance shape running word
    → outcome_of next ≡ outcome_of (advance shape running (found shape world running))
unfolding found word_at
outcome_is shape world running a word next ea ew en = rw (en, ew, ea) refl

-- the state at the opening is sound
zero-ends : (shape : Shape) → IsEnds shape 0
unfolding head_of tail_of version_of
zero-ends shape = record { head = grind arith; tail = grind arith; version = grind arith }

value-zero : value_of 0 ≡ 0
unfolding value_of
value-zero = refl

none_running : (n t : ℕ) (r : Running) → get_or (replicate n None) t None ≡ Some r → ⊥
none_running zero t r e = cc
none_running (suc n) zero r e = cc
none_running (suc n) (suc t) r e = none_running n t r e

zero_word : (n i : ℕ) → ◌≡◌ {A = ℕ} (get_or (replicate n 0) i 0) 0
zero_word zero i = refl
zero_word (suc n) zero = refl
zero_word (suc n) (suc i) = zero_word n i

pub opens : (shape : Shape) (size threads : ℕ) → size ≡ 2 + shape.n * shape.k
    → IsState shape (replicate size 0) (replicate threads None)
opens shape size threads is = record {
  size = length-replicate size 0 ∙ is;
  ends = rw (zero_word size 0) (zero-ends shape);
  each_slot = λ i above below filled. absurd (filled (ap value_of (zero_word size i) ∙ value-zero));
  each_place = λ t r e. absurd (none_running threads t r e);
}

-- a tick leaves the state sound
pub tick_stays : (shape : Shape) (words : List ℕ) (places : List (Option Running)) (time : ℕ)
    → IsState shape words places
    → IsState shape (set words (clock_at shape.k shape.n) time) places
tick_stays shape words places time h =
    record {
      size = length-set words (clock_at shape.k shape.n) time ∙ h.size;
      ends = rw (get_or-set_other words (clock_at shape.k shape.n) 0 time 0 (λ e. absurd (omega arith))) h.ends;
      each_slot = λ i above below. rw (get_or-set_other words (clock_at shape.k shape.n) i time 0
          (λ e. absurd (omega arith))) (h.each_slot i above below);
      each_place = h.each_place;
    }

-- the sealed ends name the same segments
seal_ends : (shape : Shape) (ends : ℕ) → IsEnds shape ends → IsEnds shape (sealed_word shape ends)
unfolding head_of tail_of version_of ends_word
seal_ends shape ends h = record {
  head = omega (arith, h.head, h.tail);
  tail = omega (arith, h.head, h.tail);
  version = omega (arith, h.head, h.tail);
}

-- a seal leaves the state sound
pub seal_stays : (shape : Shape) (words : List ℕ) (places : List (Option Running)) → IsState shape words places
    → IsState shape (set words 0 (sealed_word shape (get_or words 0 0))) places
seal_stays shape words places h =
    let word = sealed_word shape (get_or words 0 0) in
    record {
      size = length-set words 0 word ∙ h.size;
      ends = rw (get_or-set_at words 0 0 word 0 refl (omega (arith, h.size)))
          (seal_ends shape (get_or words 0 0) h.ends);
      each_slot = λ i above below. rw (get_or-set_other words 0 i word 0 (λ e. absurd (omega arith)))
          (h.each_slot i above below);
      each_place = h.each_place;
    }

abbrev no_place : Option Running
no_place = None

pub all_none : (threads : ℕ) → map (λ (_ : ℕ). no_place) (range_with_len 0 threads) ≡ replicate threads no_place
all_none threads = sym (splat_is_map (range_with_len 0 threads) threads no_place (length-range_with_len 0 threads))

pub opening_is : (shape : Shape) (threads : ℕ) (words : List ℕ) (places : List (Option Running))
    → words ≡ replicate (2 + shape.n * shape.k) 0 → places ≡ replicate threads None
    → ◌≡◌ {A = World} (record { words = words; places = places }) (opening shape threads)
unfolding opening
opening_is shape threads words places w p = rw (w, p) refl
