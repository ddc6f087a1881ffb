-- Head and tail are where their numbers say, and the tail is never a whole round ahead.
use Rattle.std.proofs.Common.{suc, ◌≡◌, ◌≢◌, ℕ, ◌+◌, ◌*◌, ◌%◌, ◌<◌, ◌≤◌, inl, inr, true, refl, sym, ◌∙◌, ap, subst}
use Rattle.std.proofs.Common.{arith, Option, Some, None, List, replicate, length, get_or, zero}
use Rattle.std.proofs.Math.Nat.{zero-mod, mod-lt, mul-le-mul_right}
use Rattle.std.proofs.lemmas.Bool.{and_parts, cases_eq}
use Rattle.std.proofs.lemmas.Bool.Decides.{nat_tests}
use Rattle.kfifo_machine.specs.declared.place.EnqueuePhase.TheVariants as E
use Rattle.kfifo_machine.specs.declared.place.DequeuePhase.TheVariants as D
use Rattle.kfifo_machine.specs.declared.place.Running.TheVariants as R
use Rattle.std.proofs.lemmas.List.{length-replicate}
use Rattle.std.proofs.lemmas.Option.{none-some, same_Some}
use Rattle.kfifo_linear.proofs.Abstract.{OutsideCalls, after_all, noted-other, noted-same, table_size, words_by}
use Rattle.kfifo_linear.proofs.Ring.{head-ends_word, tail-ends_word, value-slot_word}
use Rattle.kfifo_linear.specs.Ledger.{Ledger, blank, called, found_in, ledger_of, noted, stepped}
use Rattle.kfifo_machine.proofs.Ring.{next-mod}
use Rattle.kfifo_machine.specs.Machine.{World, begun, may_begin, opening, place_after, place_of, run, word_at}
use Rattle.kfifo_machine.specs.Program.{access, accessed, advance, filled_with, scan_index}
use Rattle.kfifo_linear.proofs.Types.{Begin, Event, Next, Running, Shape}
use Rattle.kfifo_machine.specs.declared.place.DequeuePhase.{DequeuePhase}
use Rattle.kfifo_machine.specs.declared.place.EnqueuePhase.{EnqueuePhase}
use Rattle.kfifo_machine.specs.declared.place.Found.TheVariants.{Nothing, Slot}
use Rattle.kfifo_machine.specs.declared.place.Next.TheVariants.{Answers, Goes}
use Rattle.kfifo_words.specs.Ring.{next_segment}
use Rattle.kfifo_words.specs.Words.{head_of, tail_of, value_of, version_of}
use Rattle.kfifo_machine.specs.Places.{IsSlotIndex}
use Rattle.kfifo_machine.proofs.NoWrap.{EndsOk, head_below, tail_below, same_end, other_end, full_ring, room_in_ring}
use Rattle.kfifo_machine.proofs.Versions.{next_segment-below}

-- a word of the ends names segments
pub record InRing (shape : Shape) (ends : ℕ) : Type 0 where
  pub head : head_of ends < shape.n
  pub tail : tail_of ends < shape.n

-- what a place in a call says without looking at the table
abbrev pub EnqueueSane : Shape → EnqueuePhase → Type 0
EnqueueSane shape E.LoadEnds = Unit {0}
EnqueueSane shape (E.ScanTail ends offset) = InRing shape ends
EnqueueSane shape (E.Recheck ends Nothing) = InRing shape ends
EnqueueSane shape (E.Recheck ends (Slot index seen)) = InRing shape ends × IsSlotIndex shape index × (value_of seen ≡ 0)
EnqueueSane shape (E.Put ends index empty) = InRing shape ends × IsSlotIndex shape index × (value_of empty ≡ 0)
EnqueueSane shape (E.ReloadSlot ends index filled) = InRing shape ends × IsSlotIndex shape index × (value_of filled ≢ 0)
EnqueueSane shape (E.ReloadEnds ends index filled) = InRing shape ends × IsSlotIndex shape index × (value_of filled ≢ 0)
EnqueueSane shape (E.HoldHead ends index filled held) = InRing shape ends × IsSlotIndex shape index
    × (value_of filled ≢ 0)
EnqueueSane shape (E.Undo index filled worn) = IsSlotIndex shape index × (value_of filled ≢ 0)
EnqueueSane shape (E.ScanHead ends offset) = InRing shape ends × (next_segment shape.n (tail_of ends) ≡ head_of ends)
    × (offset < shape.k)
EnqueueSane shape (E.ConfirmFull ends) = Unit {0}
EnqueueSane shape (E.MoveHead ends) = next_segment shape.n (tail_of ends) ≡ head_of ends
EnqueueSane shape (E.MoveTail ends) = next_segment shape.n (tail_of ends) ≢ head_of ends

abbrev pub DequeueSane : Shape → DequeuePhase → Type 0
DequeueSane shape D.LoadEnds = Unit {0}
DequeueSane shape (D.ScanHead ends offset) = InRing shape ends × (offset < shape.k)
DequeueSane shape (D.Recheck ends Nothing) = InRing shape ends
DequeueSane shape (D.Recheck ends (Slot index seen)) = InRing shape ends × IsSlotIndex shape index × (value_of seen ≢ 0)
DequeueSane shape (D.MoveTail ends index filled) = (tail_of ends ≡ head_of ends) × IsSlotIndex shape index
    × (value_of filled ≢ 0)
DequeueSane shape (D.Take ends index filled) = IsSlotIndex shape index × (value_of filled ≢ 0)
DequeueSane shape (D.MoveHead ends) = tail_of ends ≢ head_of ends

abbrev pub Sane : Shape → Running → Type 0
Sane shape (R.Enqueue item start left phase) = (0 < item) × (item < 16777216) × (start < shape.k)
    × EnqueueSane shape phase
Sane shape (R.Dequeue start left phase) = (start < shape.k) × DequeueSane shape phase

abbrev pub NextSane : Shape → Next → Type 0
NextSane shape (Goes running) = Sane shape running
NextSane shape (Answers answer) = Unit {0}

pub scan_index-is_slot : (shape : Shape) (segment start offset : ℕ) → segment < shape.n
    → IsSlotIndex shape (scan_index shape segment start offset)
unfolding scan_index
scan_index-is_slot shape segment start offset h =
    let k : 0 < shape.k = shape.some_slot in
    let j : (start + offset) % shape.k < shape.k = mod-lt (start + offset) k in
    let m : suc segment * shape.k ≤ shape.n * shape.k = mul-le-mul_right shape.k h in
    record { above = omega arith; below = omega arith }

pub filled_with-value : (item empty : ℕ) → 0 < item → item < 16777216 → value_of (filled_with item empty) ≢ 0
filled_with-value item empty h f e = let v : value_of (filled_with item empty) ≡ item =
    value-slot_word item (version_of empty + 1) f in
    omega arith

-- a thread's place stays sane. A load of the ends' word finds ends in the ring
pub stays_sane : (shape : Shape) (running : Running) (word : ℕ) → Sane shape running
    → (accessed (access shape running) ≡ 0 → InRing shape word) → NextSane shape (advance shape running word)
stays_sane shape running word s h = let k : 0 < shape.k = shape.some_slot in
    grind (arith, nat_tests, scan_index-is_slot, filled_with-value)

module _ (shape : Shape) (ends a b : ℕ) (ok : EndsOk shape ends a b) where
  pub ends_in_ring : InRing shape ends
  ends_in_ring =
      record { head = head_below shape ends a b ok; tail = tail_below shape ends a b ok }

-- after a step
pub ends_stay : (shape : Shape) → (words : ℕ → ℕ) (thread : ℕ) (running : Running) (l : Ledger)
    → EndsOk shape (words 0) l.head l.tail
    → Sane shape running
    → EndsOk shape (words_by (access shape running) words 0) (stepped shape words thread running l).head
    (stepped shape words thread running l).tail
unfolding stepped
ends_stay shape words thread running l ok s =
    let r : InRing shape (words 0) = ends_in_ring shape (words 0) l.head l.tail ok in
    let nh : next_segment shape.n (head_of (words 0)) ≡ (l.head + 1) % shape.n =
    ap (next_segment shape.n) ok.head ∙ next-mod shape.n l.head shape.some_segments in
    let nt : next_segment shape.n (tail_of (words 0)) ≡ (l.tail + 1) % shape.n =
    ap (next_segment shape.n) ok.tail ∙ next-mod shape.n l.tail shape.some_segments in
    let same = same_end shape (words 0) l.head l.tail ok in
    let other = other_end shape (words 0) l.head l.tail ok in
    let full = full_ring shape (words 0) l.head l.tail ok in
    let room = room_in_ring shape (words 0) l.head l.tail ok in
    grind (arith, nat_tests, noted-same, noted-other, head-ends_word, tail-ends_word, next_segment-below)

-- a word that a step finds is one of the table
pub sane_in_table : (shape : Shape) (running : Running) → Sane shape running
    → accessed (access shape running) < table_size shape
sane_in_table shape running s = grind (arith, nat_tests, scan_index-is_slot)

pub begun_sane : (shape : Shape) (b : Begin) (r : Running) → may_begin shape b ≡ true → begun b ≡ Some r → Sane shape r
begun_sane shape b r m e = grind (arith, nat_tests, and_parts)

-- Head and tail are where their numbers say, and each thread's place is sane
pub record Base (shape : Shape) (w : ℕ → ℕ) (p : ℕ → Option Running) (l : Ledger) : Type 0 where
  pub ends : EndsOk shape (w 0) l.head l.tail
  pub sane : (t : ℕ) (r : Running) → p t ≡ Some r → Sane shape r

-- the place that a step leads to is sane
pub place_sane : (shape : Shape) (next : Next) (r : Running) → NextSane shape next → place_after next ≡ Some r
    → Sane shape r
place_sane shape next r s e = grind arith

pub get_or_replicate : {X : Type 0} (n i : ℕ) (d : X) → get_or (replicate n d) i d ≡ d
get_or_replicate zero i d = refl
get_or_replicate (suc n) zero d = refl
get_or_replicate (suc n) (suc i) d = get_or_replicate n i d

pub opening_size : (shape : Shape) (threads : ℕ) → length (opening shape threads).words ≡ table_size shape
unfolding opening
opening_size shape threads = length-replicate (table_size shape) 0

module _ (shape : Shape) where
  pub base_step : (w : ℕ → ℕ) (p : ℕ → Option Running) (l : Ledger) (t : ℕ) (r : Running) → Base shape w p l
      → p t ≡ Some r
      → Base shape (words_by (access shape r) w) (noted p t (place_after (advance shape r (found_in shape w r))))
      (stepped shape w t r l)
  base_step w p l t r h e =
      let s : Sane shape r = h.sane t r e in
      let look : accessed (access shape r) ≡ 0 → InRing shape (found_in shape w r) =
      λ z. rw z (ends_in_ring shape (w 0) l.head l.tail h.ends) in
      let n : NextSane shape (advance shape r (found_in shape w r)) = stays_sane shape r (found_in shape w r) s look in
      record {
        ends = ends_stay shape w t r l h.ends s;
        sane = λ u q f. elim (cases_eq u t) [
          | inl same ↦ place_sane shape (advance shape r (found_in shape w r)) q n
              (sym (noted-same p t u (place_after (advance shape r (found_in shape w r))) same) ∙ f)
          | inr ne ↦ h.sane u q (sym (noted-other p t u (place_after (advance shape r (found_in shape w r))) ne) ∙ f)
        ];
      }

  pub base_begin : (w : ℕ → ℕ) (p : ℕ → Option Running) (l : Ledger) (t : ℕ) (b : Begin) (r : Running)
      → Base shape w p l → p t ≡ None
      → may_begin shape b ≡ true → begun b ≡ Some r → Base shape w (noted p t (Some r)) (called t b l)
  unfolding called
  base_begin w p l t b r h e m g =
      record {
        ends = h.ends;
        sane = λ u q f. elim (cases_eq u t) [
          | inl same ↦ subst (Sane shape) (same_Some r q (sym (noted-same p t u (Some r) same) ∙ f))
              (begun_sane shape b r m g)
          | inr ne ↦ h.sane u q (sym (noted-other p t u (Some r) ne) ∙ f)
        ];
      }

  pub base_outside : (w v : ℕ → ℕ) (p : ℕ → Option Running) (l : Ledger) → OutsideCalls shape w v → Base shape w p l
      → Base shape v p (record l { now = l.now + 1 })
  base_outside w v p l o h =
      record {
        ends = record {
          head = o.head ∙ h.ends.head;
          tail = o.tail ∙ h.ends.tail;
          ordered = h.ends.ordered;
          no_wrap = h.ends.no_wrap;
        };
        sane = h.sane;
      }

  pub base_table : (w : ℕ → ℕ) (p : ℕ → Option Running) (l : Ledger) (t : ℕ) (r : Running) → Base shape w p l
      → p t ≡ Some r
      → accessed (access shape r) < table_size shape
  base_table w p l t r h e = sane_in_table shape r (h.sane t r e)

  pub base_opening : (threads : ℕ)
      → Base shape (word_at (opening shape threads)) (place_of (opening shape threads)) blank
  unfolding opening word_at place_of blank head_of tail_of
  base_opening threads =
      let z = get_or_replicate {X = ℕ} (table_size shape) 0 0 in
      record {
        ends = record {
          head = rw z (sym (zero-mod shape.n));
          tail = rw z (sym (zero-mod shape.n));
          ordered = omega arith;
          no_wrap = omega (arith, shape.some_segments);
        };
        sane = λ t r f. absurd (none-some r (sym (get_or_replicate threads t None) ∙ f));
      }

  -- after every schedule the tail is less than a round ahead of the head, and both are where their numbers say
  pub no_wrap : (threads : ℕ) (events : List Event) (final : World) → run shape (Some (opening shape threads)) events
      ≡ Some final
      → EndsOk shape (word_at final 0) (ledger_of shape (Some (opening shape threads)) events blank).head
      (ledger_of shape (Some (opening shape threads)) events blank).tail
  no_wrap threads events final e =
      (after_all shape (Base shape) base_table base_begin base_step base_outside events (opening shape threads) final
      blank
      (record { size = opening_size shape threads; holds = base_opening threads })
      e).holds.ends
