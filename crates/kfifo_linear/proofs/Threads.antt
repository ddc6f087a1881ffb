-- A step keeps what each thread knows.
use Rattle.std.proofs.Common.{◌≡◌, ◌≢◌, ℕ, ◌+◌, ◌*◌, ◌%◌, ◌<◌, ◌≤◌, inl, inr, true, false, refl, sym, ◌∙◌, ap, subst}
use Rattle.std.proofs.Common.{arith, Some, None}
use Rattle.std.proofs.lemmas.Bool.{cases_eq, cases_Bool}
use Rattle.std.proofs.lemmas.Bool.Decides.{nat_tests}
use Rattle.kfifo_machine.specs.declared.place.EnqueuePhase.TheVariants as E
use Rattle.kfifo_machine.specs.declared.place.DequeuePhase.TheVariants as D
use Rattle.kfifo_machine.specs.declared.place.Running.TheVariants as R
use Rattle.std.proofs.lemmas.Option.{none-some, same_Some}
use Rattle.kfifo_linear.proofs.Abstract.{noted-other, noted-same, noted_tells, words_by}
use Rattle.kfifo_linear.proofs.Base.{InRing, Sane, ends_in_ring, scan_index-is_slot}
use Rattle.kfifo_linear.proofs.Claims.{EndsChange, HasLoaded, HasLoaded-others, HasLoaded-own, IfGoes, Loaded, Round}
use Rattle.kfifo_linear.proofs.Claims.{at_load, ends_change, loaded_stays, round_stays, segment_of}
use Rattle.kfifo_linear.proofs.Claims.{segment_of-scan_index, words_rise}
use Rattle.kfifo_linear.proofs.Invariant.{Clear, HasClear, HasOwn, HasTarget, Makes, Own, SlotOk, ThreadOk, ToFill}
use Rattle.kfifo_linear.proofs.Invariant.{ToTake, is_gone, is_putting}
use Rattle.kfifo_linear.proofs.Ring.{ends_word-above, place_below, slot_word-above}
use Rattle.kfifo_linear.specs.Ledger.{Inside, Ledger, Outside, found_in, stepped}
use Rattle.kfifo_machine.proofs.NoWrap.{EndsOk, other_end, same_end}
use Rattle.kfifo_machine.specs.Machine.{place_after}
use Rattle.kfifo_machine.specs.Places.{IsSlotIndex}
use Rattle.kfifo_machine.specs.Program.{access, advance, scan_index}
use Rattle.kfifo_linear.proofs.Types.{Begin, Next, Running, Shape}
use Rattle.kfifo_machine.specs.declared.place.Found.TheVariants.{Slot}
use Rattle.kfifo_machine.specs.declared.place.Next.TheVariants.{Answers, Goes}
use Rattle.kfifo_words.specs.Words.{head_of, value_of}

-- what holds of every slot, one fact at a time
pub record Slots (shape : Shape) (w : ℕ → ℕ) (l : Ledger) : Type 0 where
  pub untaken_to_tail : (i : ℕ) → 0 < i → i < 1 + shape.n * shape.k → l.untaken_from i ≤ l.tail
  pub empty : (i : ℕ) → 0 < i → i < 1 + shape.n * shape.k → value_of (w i) ≡ 0 → l.settled i ≡ false
  pub inside : (i : ℕ) → 0 < i → i < 1 + shape.n * shape.k → value_of (w i) ≢ 0 → l.standing (l.owner i) ≡ Inside i
  pub load_to_tail : (i : ℕ) → 0 < i → i < 1 + shape.n * shape.k → value_of (w i) ≢ 0 → l.tail_at_load i ≤ l.tail
  pub place : (i : ℕ) → 0 < i → i < 1 + shape.n * shape.k → value_of (w i) ≢ 0
      → l.tail_at_load i % shape.n ≡ segment_of shape i

pub slots_facts : (shape : Shape) (w : ℕ → ℕ) (l : Ledger) → ((i : ℕ) → IsSlotIndex shape i → SlotOk shape w l i)
    → Slots shape w l
slots_facts shape w l h =
    record {
      untaken_to_tail = λ i a b. (h i (record { above = a; below = b })).untaken_to_tail;
      empty = λ i a b. (h i (record { above = a; below = b })).empty;
      inside = λ i a b v. ((h i (record { above = a; below = b })).full v).inside;
      load_to_tail = λ i a b v. ((h i (record { above = a; below = b })).full v).load_to_tail;
      place = λ i a b v. ((h i (record { above = a; below = b })).full v).place;
    }

pub goes_at : (P : Running → Type 0) (next : Next) (q : Running) → place_after next ≡ Some q → IfGoes P next → P q
goes_at P (Goes r) q e h = subst P (same_Some r q e) h
goes_at P (Answers answer) q e h = absurd (none-some q e)

makes_on : (shape : Shape) (b : Begin) (r : Running) (word : ℕ) → Makes b r → IfGoes (Makes b) (advance shape r word)
makes_on shape b r word h = grind (arith, nat_tests)

-- what a scan has seen empty holds no settled item
keeps_clear : (shape : Shape) (w : ℕ → ℕ) (l : Ledger) (t : ℕ) (r : Running) → Sane shape r → HasClear shape w l r
    → ((i : ℕ) → 0 < i → i < 1 + shape.n * shape.k → value_of (w i) ≡ 0 → l.settled i ≡ false)
    → IfGoes (HasClear shape (words_by (access shape r) w) (stepped shape w t r l))
    (advance shape r (found_in shape w r))
unfolding stepped
keeps_clear shape w l t r s c empty =
    let k : 0 < shape.k = shape.some_slot in
    grind (arith, nat_tests, scan_index-is_slot)

-- one's own step
module _ (shape : Shape) (w : ℕ → ℕ) (l : Ledger) (t : ℕ) (r : Running) (s : Sane shape r)
    (ok : EndsOk shape (w 0) l.head l.tail) (me : ThreadOk shape w l t r) (all : Slots shape w l) where
  own_unended : IfGoes (λ q. (stepped shape w t r l).last (l.caller t) ≡ None) (advance shape r (found_in shape w r))
  unfolding stepped
  own_unended = let u = me.unended in grind (arith, nat_tests)

  own_unanswered : IfGoes (λ q. (stepped shape w t r l).answer (l.caller t) ≡ None)
      (advance shape r (found_in shape w r))
  unfolding stepped
  own_unanswered = let u = me.unanswered in grind (arith, nat_tests)

  own_makes : IfGoes (Makes (l.begin (l.caller t))) (advance shape r (found_in shape w r))
  own_makes = makes_on shape (l.begin (l.caller t)) r (found_in shape w r) me.makes

  own_fresh : IfGoes (λ q. is_putting q ≡ false → (stepped shape w t r l).standing (l.caller t) ≡ Outside)
      (advance shape r (found_in shape w r))
  unfolding stepped
  own_fresh = let f = me.fresh in let o = me.own in grind (arith, nat_tests, noted_tells)

  own_own : IfGoes (HasOwn shape (words_by (access shape r) w) (stepped shape w t r l) t)
      (advance shape r (found_in shape w r))
  unfolding stepped
  own_own = let f = me.fresh in let o = me.own in let g = me.target in let ld = me.loaded in
      grind (arith, nat_tests, noted_tells)

  own_target : IfGoes (HasTarget shape (words_by (access shape r) w) (stepped shape w t r l) t)
      (advance shape r (found_in shape w r))
  unfolding stepped
  own_target =
      let g = me.target in
      let ld = me.loaded in
      let k = shape.some_slot in
      let same = same_end shape (w 0) l.head l.tail ok in
      let other = other_end shape (w 0) l.head l.tail ok in
      grind (arith, nat_tests, noted_tells, segment_of-scan_index, place_below)

  own_clear : IfGoes (HasClear shape (words_by (access shape r) w) (stepped shape w t r l))
      (advance shape r (found_in shape w r))
  unfolding stepped
  own_clear = keeps_clear shape w l t r s me.clear all.empty

  own_change : EndsChange w (words_by (access shape r) w) l (stepped shape w t r l)
  own_change = ends_change shape w l t r s ok

  own_seen : at_load r ≡ false → ((stepped shape w t r l).head_seen t ≡ l.head_seen t)
      × ((stepped shape w t r l).tail_seen t ≡ l.tail_seen t)
  unfolding stepped
  own_seen = grind (arith, nat_tests)

  own_opened : at_load r ≡ true
      → Loaded shape (words_by (access shape r) w) (stepped shape w t r l) t (found_in shape w r)
  unfolding stepped
  own_opened = grind (arith, nat_tests, noted-same)

  own_loaded : IfGoes (HasLoaded shape (words_by (access shape r) w) (stepped shape w t r l) t)
      (advance shape r (found_in shape w r))
  own_loaded =
      HasLoaded-own shape w (words_by (access shape r) w) l (stepped shape w t r l) t r (found_in shape w r)
      (λ x a ld. loaded_stays shape w (words_by (access shape r) w) l (stepped shape w t r l) t x own_change
      (own_seen a).0 (own_seen a).1
      ld)
      own_opened me.loaded

  own_round_opened : at_load r ≡ true → Round (stepped shape w t r l) t
  unfolding stepped
  own_round_opened = grind (arith, nat_tests, noted-same)

  own_kept : ((stepped shape w t r l).caller t ≡ l.caller t)
      × ((stepped shape w t r l).first (l.caller t) ≡ l.first (l.caller t))
      × ((stepped shape w t r l).calls ≡ l.calls) × ((stepped shape w t r l).now ≡ l.now + 1)
  unfolding stepped
  own_kept = (refl, refl, refl, refl)

  own_round : Round (stepped shape w t r l) t
  own_round =
      elim (cases_Bool (at_load r)) [
        | inl a ↦ own_round_opened a
        | inr a ↦ round_stays w (words_by (access shape r) w) l (stepped shape w t r l) t own_change (own_seen a).0
            (own_seen a).1 own_kept.0 own_kept.1 me.started (me.round a)
      ]

  pub own_thread : (q : Running) → place_after (advance shape r (found_in shape w r)) ≡ Some q
      → ThreadOk shape (words_by (access shape r) w) (stepped shape w t r l) t q
  unfolding stepped
  own_thread q e =
      record {
        known = omega (arith, me.known, own_kept.0, own_kept.2);
        started = omega (arith, me.started, own_kept.1, own_kept.3);
        unended = goes_at (λ x. (stepped shape w t r l).last (l.caller t) ≡ None) (advance shape r (found_in shape w r))
            q e own_unended;
        unanswered = goes_at (λ x. (stepped shape w t r l).answer (l.caller t) ≡ None)
            (advance shape r (found_in shape w r)) q e own_unanswered;
        makes = goes_at (Makes (l.begin (l.caller t))) (advance shape r (found_in shape w r)) q e own_makes;
        round = λ _. own_round;
        loaded = goes_at (HasLoaded shape (words_by (access shape r) w) (stepped shape w t r l) t)
            (advance shape r (found_in shape w r)) q e own_loaded;
        fresh = goes_at (λ x. is_putting x ≡ false → (stepped shape w t r l).standing (l.caller t) ≡ Outside)
            (advance shape r (found_in shape w r)) q e own_fresh;
        own = goes_at (HasOwn shape (words_by (access shape r) w) (stepped shape w t r l) t)
            (advance shape r (found_in shape w r)) q e own_own;
        target = goes_at (HasTarget shape (words_by (access shape r) w) (stepped shape w t r l) t)
            (advance shape r (found_in shape w r)) q e own_target;
        clear = goes_at (HasClear shape (words_by (access shape r) w) (stepped shape w t r l))
            (advance shape r (found_in shape w r)) q e own_clear;
      }

pub HasOwn-others : (shape : Shape) (w w' : ℕ → ℕ) (l l' : Ledger) (u : ℕ) (q : Running) → Sane shape q
    → l'.tail_seen u ≡ l.tail_seen u
    → ((index filled : ℕ) → IsSlotIndex shape index → value_of filled ≢ 0 → Own shape w l u index filled
    → Own shape w' l' u index filled)
    → HasOwn shape w l u q → HasOwn shape w' l' u q
HasOwn-others shape w w' l l' u q s e keep h = grind arith

pub HasTarget-others : (shape : Shape) (w w' : ℕ → ℕ) (l l' : Ledger) (u : ℕ) (q : Running) → Sane shape q
    → ((index empty : ℕ) → IsSlotIndex shape index → ToFill shape w l u index empty → ToFill shape w' l' u index empty)
    → ((index empty : ℕ) → IsSlotIndex shape index → ToFill shape w l u index empty
    → (w index ≡ empty → l.untaken_from index ≤ l.tail_seen u) → w' index ≡ empty
    → l'.untaken_from index ≤ l'.tail_seen u)
    → ((index filled : ℕ) → IsSlotIndex shape index → ToTake shape w l u index filled → ToTake shape w' l' u index
    filled)
    → ((index filled : ℕ) → IsSlotIndex shape index → ToTake shape w l u index filled
    → (w index ≡ filled → l.tail_at_load index ≤ l.head_seen u) → w' index ≡ filled
    → l'.tail_at_load index ≤ l'.head_seen u)
    → (l.head_seen u < l.tail → l'.head_seen u < l'.tail)
    → HasTarget shape w l u q → HasTarget shape w' l' u q
HasTarget-others shape w w' l l' u (R.Enqueue item start left (E.Recheck ends (Slot index seen))) s fill untaken take
    old past h =
    fill index seen s.3.1 h
HasTarget-others shape w w' l l' u (R.Enqueue item start left (E.Put ends index empty)) s fill untaken take old past h =
    (fill index empty s.3.1 h.0, untaken index empty s.3.1 h.0 h.1)
HasTarget-others shape w w' l l' u (R.Dequeue start left (D.Recheck ends (Slot index seen))) s fill untaken take old
    past h =
    take index seen s.1.1 h
HasTarget-others shape w w' l l' u (R.Dequeue start left (D.MoveTail ends index filled)) s fill untaken take old
    past h =
    (take index filled s.1.1 h.0, old index filled s.1.1 h.0 h.1)
HasTarget-others shape w w' l l' u (R.Dequeue start left (D.Take ends index filled)) s fill untaken take old past h =
    (take index filled s.1.0 h.0, old index filled s.1.0 h.0 h.1, past h.2)
HasTarget-others shape w w' l l' u other s fill untaken take old past h = tt

pub HasClear-others : (shape : Shape) (w w' : ℕ → ℕ) (l l' : Ledger) (u : ℕ) (q : Running)
    → ((ends start offset : ℕ) → Loaded shape w l u ends → Clear shape w l ends start offset → Clear shape w' l' ends
    start offset)
    → HasLoaded shape w l u q → HasClear shape w l q → HasClear shape w' l' q
HasClear-others shape w w' l l' u q keep ld h = grind arith

-- another thread's step
module _ (shape : Shape) (w : ℕ → ℕ) (l : Ledger) (t : ℕ) (r : Running) (s : Sane shape r)
    (ok : EndsOk shape (w 0) l.head l.tail) (me : ThreadOk shape w l t r) (all : Slots shape w l)
    (u : ℕ) (q : Running) (ne : u ≡ t → ⊥) (sq : Sane shape q) (them : ThreadOk shape w l u q)
    (apart : l.caller u ≡ l.caller t → ⊥) where
  other_kept : ((stepped shape w t r l).caller u ≡ l.caller u) × ((stepped shape w t r l).head_seen u ≡ l.head_seen u)
      × ((stepped shape w t r l).tail_seen u ≡ l.tail_seen u)
      × ((stepped shape w t r l).last (l.caller u) ≡ l.last (l.caller u))
      × ((stepped shape w t r l).answer (l.caller u) ≡ l.answer (l.caller u))
  unfolding stepped
  other_kept = grind (arith, nat_tests, noted-other)

  other_fresh : l.standing (l.caller u) ≡ Outside → (stepped shape w t r l).standing (l.caller u) ≡ Outside
  unfolding stepped
  other_fresh f = let o = me.own in let g = me.target in grind (arith, nat_tests, noted_tells)

  -- a slot whose word stands: what is noted of it stands, but that its item may be settled by its owner
  slot_owner : (i : ℕ) → 0 < i → words_by (access shape r) w i ≡ w i → (stepped shape w t r l).owner i ≡ l.owner i
  unfolding stepped
  slot_owner i pos e = grind (arith, nat_tests, noted_tells, slot_word-above)

  slot_load : (i : ℕ) → 0 < i → words_by (access shape r) w i ≡ w i → (stepped shape w t r l).tail_at_load i
      ≡ l.tail_at_load i
  unfolding stepped
  slot_load i pos e = grind (arith, nat_tests, noted_tells, slot_word-above)

  slot_untaken : (i : ℕ) → 0 < i → words_by (access shape r) w i ≡ w i → (stepped shape w t r l).untaken_from i
      ≡ l.untaken_from i
  unfolding stepped
  slot_untaken i pos e = grind (arith, nat_tests, noted_tells, slot_word-above)

  slot_unsettled : (i : ℕ) → 0 < i → words_by (access shape r) w i ≡ w i → l.standing (l.caller u) ≡ Inside i
      → l.settled i ≡ false
      → l.owner i ≡ l.caller u → (stepped shape w t r l).settled i ≡ false
  unfolding stepped
  slot_unsettled i pos e st f o = let own = me.own in grind (arith, nat_tests, noted_tells, slot_word-above)

  slot_inside : (i : ℕ) → 0 < i → words_by (access shape r) w i ≡ w i → l.standing (l.caller u) ≡ Inside i
      → l.owner i ≡ l.caller u
      → (stepped shape w t r l).standing (l.caller u) ≡ Inside i
  unfolding stepped
  slot_inside i pos e st o = let own = me.own in grind (arith, nat_tests, noted_tells, slot_word-above)

  slot_taken : (i : ℕ) → 0 < i → (words_by (access shape r) w i ≡ w i → ⊥) → value_of (w i) ≢ 0
      → l.standing (l.caller u) ≡ Inside i
      → l.owner i ≡ l.caller u → is_gone ((stepped shape w t r l).standing (l.caller u)) ≡ true
  unfolding stepped
  slot_taken i pos e v st o = let own = me.own in grind (arith, nat_tests, noted_tells)

  other_gone : is_gone (l.standing (l.caller u)) ≡ true → is_gone ((stepped shape w t r l).standing (l.caller u)) ≡ true
  unfolding stepped
  other_gone g = let own = me.own in grind (arith, nat_tests, noted_tells)

  rises : (i : ℕ) → w i ≤ words_by (access shape r) w i
  rises i = words_rise shape w r s (ends_in_ring shape (w 0) l.head l.tail ok) i

  other_own : (index filled : ℕ) → IsSlotIndex shape index → value_of filled ≢ 0 → Own shape w l u index filled
      → Own shape (words_by (access shape r) w) (stepped shape w t r l) u index filled
  other_own index filled i v own =
      let up : w index ≤ words_by (access shape r) w index = rises index in
      record {
        below = omega (arith, own.below);
        place = rw other_kept.2 own.place;
        owner = λ e.
            let z : words_by (access shape r) w index ≡ w index = omega (arith, own.below) in
            slot_owner index i.above z ∙ own.owner (sym z ∙ e) ∙ sym other_kept.0;
        inside = λ e.
            let z : words_by (access shape r) w index ≡ w index = omega (arith, own.below) in
            rw other_kept.0 (slot_inside index i.above z (own.inside (sym z ∙ e)) (own.owner (sym z ∙ e)));
        unsettled = λ e.
            let z : words_by (access shape r) w index ≡ w index = omega (arith, own.below) in
            slot_unsettled index i.above z (own.inside (sym z ∙ e)) (own.unsettled (sym z ∙ e)) (own.owner (sym z ∙ e));
        gone = λ n. rw other_kept.0 (elim (cases_eq (w index) filled) [
          | inl e ↦ slot_taken index i.above (λ z. n (z ∙ e)) (λ x. v (ap value_of (sym e) ∙ x)) (own.inside e)
              (own.owner e)
          | inr m ↦ other_gone (own.gone m)
        ]);
      }

  other_to_fill : (index empty : ℕ) → IsSlotIndex shape index → ToFill shape w l u index empty
      → ToFill shape (words_by (access shape r) w) (stepped shape w t r l) u index empty
  other_to_fill index empty i f = record {
    place = rw other_kept.2 f.place;
    below = omega (arith, f.below, rises index);
  }

  other_fill_untaken : (index empty : ℕ) → IsSlotIndex shape index → ToFill shape w l u index empty
      → (w index ≡ empty → l.untaken_from index ≤ l.tail_seen u) → words_by (access shape r) w index ≡ empty
      → (stepped shape w t r l).untaken_from index ≤ (stepped shape w t r l).tail_seen u
  other_fill_untaken index empty i f untaken e =
      let z : words_by (access shape r) w index ≡ w index = omega (arith, f.below, rises index) in
      omega (arith, slot_untaken index i.above z, other_kept.2, untaken (sym z ∙ e))

  other_to_take : (index filled : ℕ) → IsSlotIndex shape index → ToTake shape w l u index filled
      → ToTake shape (words_by (access shape r) w) (stepped shape w t r l) u index filled
  other_to_take index filled i f = record {
    place = rw other_kept.1 f.place;
    below = omega (arith, f.below, rises index);
  }

  other_take_old : (index filled : ℕ) → IsSlotIndex shape index → ToTake shape w l u index filled
      → (w index ≡ filled → l.tail_at_load index ≤ l.head_seen u) → words_by (access shape r) w index ≡ filled
      → (stepped shape w t r l).tail_at_load index ≤ (stepped shape w t r l).head_seen u
  other_take_old index filled i f old e =
      let z : words_by (access shape r) w index ≡ w index = omega (arith, f.below, rises index) in
      omega (arith, slot_load index i.above z, other_kept.1, old (sym z ∙ e))

  other_change : EndsChange w (words_by (access shape r) w) l (stepped shape w t r l)
  other_change = ends_change shape w l t r s ok

  -- a step that leaves the ends as they are settles nothing in the head's segment
  head_unsettled : (i : ℕ) → words_by (access shape r) w 0 ≡ w 0 → segment_of shape i ≡ head_of (w 0)
      → l.settled i ≡ false
      → (stepped shape w t r l).settled i ≡ false
  unfolding stepped
  head_unsettled i e g f =
      let own = me.own in
      let ld = me.loaded in
      let ring : InRing shape (w 0) = ends_in_ring shape (w 0) l.head l.tail ok in
      let few = shape.few_segments in
      grind (arith, nat_tests, noted_tells, ends_word-above)

  other_clear : (ends start offset : ℕ) → Loaded shape w l u ends → Clear shape w l ends start offset
      → Clear shape (words_by (access shape r) w) (stepped shape w t r l) ends start offset
  other_clear ends start offset ld c e o below =
      let z : words_by (access shape r) w 0 ≡ w 0 = omega (arith, ld.below, rises 0) in
      let x : w 0 ≡ ends = sym z ∙ e in
      head_unsettled (scan_index shape (head_of ends) start o) z (segment_of-scan_index shape (head_of ends) start o
      ∙ ap head_of (sym x))
      (c x o below)

  other_loaded : (x : ℕ) → Loaded shape w l u x → Loaded shape (words_by (access shape r) w) (stepped shape w t r l) u x
  other_loaded x ld = loaded_stays shape w (words_by (access shape r) w) l (stepped shape w t r l) u x other_change
      other_kept.1 other_kept.2 ld

  other_has_own : HasOwn shape (words_by (access shape r) w) (stepped shape w t r l) u q
  other_has_own = HasOwn-others shape w (words_by (access shape r) w) l (stepped shape w t r l) u q sq other_kept.2
      other_own them.own

  other_has_target : HasTarget shape (words_by (access shape r) w) (stepped shape w t r l) u q
  other_has_target = HasTarget-others shape w (words_by (access shape r) w) l (stepped shape w t r l) u q sq
      other_to_fill
      other_fill_untaken other_to_take other_take_old (λ z. omega (arith, z, other_kept.1, other_change.tail_rise))
      them.target

  other_has_clear : HasClear shape (words_by (access shape r) w) (stepped shape w t r l) q
  other_has_clear = HasClear-others shape w (words_by (access shape r) w) l (stepped shape w t r l) u q other_clear
      them.loaded them.clear

  pub other_thread : ThreadOk shape (words_by (access shape r) w) (stepped shape w t r l) u q
  unfolding stepped
  other_thread =
      record {
        known = them.known;
        started = omega (arith, them.started);
        unended = other_kept.3 ∙ them.unended;
        unanswered = other_kept.4 ∙ them.unanswered;
        makes = them.makes;
        round = λ a. round_stays w (words_by (access shape r) w) l (stepped shape w t r l) u other_change other_kept.1
            other_kept.2 other_kept.0 refl them.started (them.round a);
        loaded = HasLoaded-others shape w (words_by (access shape r) w) l (stepped shape w t r l) u q other_loaded
            them.loaded;
        fresh = λ a. other_fresh (them.fresh a);
        own = other_has_own;
        target = other_has_target;
        clear = other_has_clear;
      }
