-- How late a dequeue can take: the head has gone at most once round since it chose its item.
use Rattle.std.proofs.Common.{◌≡◌, ◌≢◌, ℕ, ◌+◌, ◌%◌, ◌<◌, ◌≤◌, ◌⊎◌, inl, inr, true, sym, ◌∙◌, ap, arith, Option, Some}
use Rattle.std.proofs.Common.{None}
use Rattle.std.proofs.Math.Nat.{add-mod_right}
use Rattle.std.proofs.lemmas.Bool.{cases_eq}
use Rattle.std.proofs.lemmas.Bool.Decides.{nat_tests}
use Rattle.kfifo_machine.specs.declared.place.EnqueuePhase.TheVariants as E
use Rattle.kfifo_machine.specs.declared.place.DequeuePhase.TheVariants as D
use Rattle.kfifo_machine.specs.declared.place.Running.TheVariants as R
use Rattle.std.proofs.lemmas.Option.{none-some, same_Some}
use Rattle.std.proofs.Common.{List}
use Rattle.kfifo_linear.proofs.Abstract.{OutsideCalls, after_all, noted-other, noted-same, noted_tells, words_by}
use Rattle.kfifo_linear.proofs.Base.{InRing, Sane, ends_in_ring, get_or_replicate, opening_size, scan_index-is_slot}
use Rattle.kfifo_linear.proofs.Claims.{HasLoaded, IfGoes, Loaded, segment_of, words_rise}
use Rattle.kfifo_linear.proofs.Invariant.{HasTarget, Inv, ThreadOk, ToTake}
use Rattle.kfifo_linear.proofs.Ring.{ends_word-above, slot_word-above}
use Rattle.kfifo_linear.proofs.Slots.{MovesHead, back, back-below, emptied-value, moves_head, scan_index-back}
use Rattle.kfifo_linear.proofs.Threads.{goes_at}
use Rattle.kfifo_linear.proofs.Invariance.{inv_begin, inv_opening, inv_step, inv_table, inv_outside}
use Rattle.kfifo_linear.specs.Headline.{TakesInTime}
use Rattle.kfifo_linear.specs.Ledger.{Ledger, blank, called, found_in, ledger_of, noted, stepped}
use Rattle.kfifo_machine.proofs.NoWrap.{EndsOk}
use Rattle.kfifo_machine.proofs.Versions.{next_segment-below}
use Rattle.kfifo_machine.specs.Machine.{World, begun, may_begin, opening, place_after, place_of, run, word_at}
use Rattle.kfifo_machine.specs.Places.{IsSlotIndex}
use Rattle.kfifo_machine.specs.Program.{access, advance, scan_index}
use Rattle.kfifo_linear.proofs.Types.{Begin, Event, Running, Shape}
use Rattle.kfifo_machine.specs.declared.place.Found.TheVariants.{Nothing}
use Rattle.kfifo_words.specs.Words.{head_of, value_of}

-- the slots that a scan of the head's segment saw: what stands in one was put while the head was here, as long as the
-- ends stand
abbrev pub Seen_empty : Shape → (ℕ → ℕ) → Ledger → ℕ → ℕ → ℕ → Type 0
Seen_empty shape w l ends start offset = w 0 ≡ ends → (o : ℕ) → o < offset
    → value_of (w (scan_index shape (head_of ends) start o)) ≢ 0
    → l.head ≤ l.head_at_put (scan_index shape (head_of ends) start o)

abbrev pub HasSeen : Shape → (ℕ → ℕ) → Ledger → Running → Type 0
HasSeen shape w l (R.Enqueue item start left (E.ScanHead ends offset)) = Seen_empty shape w l ends 0 offset
HasSeen shape w l (R.Enqueue item start left (E.MoveHead ends)) = Seen_empty shape w l ends 0 shape.k
HasSeen shape w l (R.Dequeue start left (D.ScanHead ends offset)) = Seen_empty shape w l ends start offset
HasSeen shape w l (R.Dequeue start left (D.Recheck ends Nothing)) = Seen_empty shape w l ends start shape.k
HasSeen shape w l (R.Dequeue start left (D.MoveHead ends)) = Seen_empty shape w l ends start shape.k
HasSeen shape w l other = Unit {0}

-- a chosen item was put before the head left the visit of the choice, and the head has gone at most once round since
pub record Chosen (shape : Shape) (w : ℕ → ℕ) (l : Ledger) (t index filled : ℕ) : Type 0 where
  pub put : w index ≡ filled → l.head_at_put index ≤ l.head_seen t
  pub near : w index ≡ filled → l.head ≤ l.head_seen t + shape.n

abbrev pub HasChosen : Shape → (ℕ → ℕ) → Ledger → ℕ → Running → Type 0
HasChosen shape w l t (R.Dequeue start left (D.MoveTail ends index filled)) = Chosen shape w l t index filled
HasChosen shape w l t (R.Dequeue start left (D.Take ends index filled)) = Chosen shape w l t index filled
HasChosen shape w l t other = Unit {0}

pub record Late (shape : Shape) (w : ℕ → ℕ) (p : ℕ → Option Running) (l : Ledger) : Type 0 where
  pub put_to_head : (i : ℕ) → l.head_at_put i ≤ l.head
  pub seen : (t : ℕ) (r : Running) → p t ≡ Some r → HasSeen shape w l r
  pub chosen : (t : ℕ) (r : Running) → p t ≡ Some r → HasChosen shape w l t r

module _ (shape : Shape) (w : ℕ → ℕ) (l : Ledger) (t : ℕ) (r : Running) (s : Sane shape r)
    (ok : EndsOk shape (w 0) l.head l.tail)
    (me : ThreadOk shape w l t r) (put_to_head : (i : ℕ) → l.head_at_put i ≤ l.head) (mine : HasSeen shape w l r)
    (choice : HasChosen shape w l t r) where
  late_put : (i : ℕ) → (stepped shape w t r l).head_at_put i ≤ (stepped shape w t r l).head
  unfolding stepped
  late_put i = grind (arith, nat_tests, noted_tells)

  own_seen_empty : IfGoes (HasSeen shape (words_by (access shape r) w) (stepped shape w t r l))
      (advance shape r (found_in shape w r))
  unfolding stepped
  own_seen_empty = let k = shape.some_slot in grind (arith, nat_tests, noted_tells)

  own_chosen : IfGoes (HasChosen shape (words_by (access shape r) w) (stepped shape w t r l) t)
      (advance shape r (found_in shape w r))
  unfolding stepped
  own_chosen = let ld = me.loaded in grind (arith, nat_tests, noted_tells)

  -- a step that leaves the ends as they are keeps what was seen of them
  seen_kept : (i : ℕ) → words_by (access shape r) w 0 ≡ w 0 → (value_of (w i) ≢ 0 → l.head ≤ l.head_at_put i)
      → value_of (words_by (access shape r) w i) ≢ 0
      → (stepped shape w t r l).head ≤ (stepped shape w t r l).head_at_put i
  unfolding stepped
  seen_kept i e h v =
      let ring : InRing shape (w 0) = ends_in_ring shape (w 0) l.head l.tail ok in
      let few = shape.few_segments in
      grind (arith, nat_tests, noted_tells, ends_word-above, next_segment-below, emptied-value)

  put_kept : (i : ℕ) → words_by (access shape r) w i ≡ w i → 0 < i → (stepped shape w t r l).head_at_put i
      ≡ l.head_at_put i
  unfolding stepped
  put_kept i e pos = grind (arith, nat_tests, noted_tells, slot_word-above)

  head_moves : ((stepped shape w t r l).head ≡ l.head) ⊎ ((stepped shape w t r l).head ≡ l.head + 1)
  unfolding stepped
  head_moves = grind (arith, nat_tests)

seen_slot : (shape : Shape) (w : ℕ → ℕ) (l : Ledger) (i ends start : ℕ) → 0 < shape.k → 0 < i → start < shape.k
    → Seen_empty shape w l ends start shape.k → w 0 ≡ ends → segment_of shape i ≡ head_of (w 0) → value_of (w i) ≢ 0
    → l.head ≤ l.head_at_put i
seen_slot shape w l i ends start k pos h c e g v =
    let z : scan_index shape (head_of ends) start (back shape i start) ≡ i =
    ap (λ x. scan_index shape x start (back shape i start)) (sym (g ∙ ap head_of e))
    ∙ scan_index-back shape i start k pos h in
    let y : l.head ≤ l.head_at_put (scan_index shape (head_of ends) start (back shape i start)) =
    c e (back shape i start) (back-below shape i start k) (λ x. v (ap (λ j. value_of (w j)) (sym z) ∙ x)) in
    rw z at y

-- where a head-on is won, what stands in the head's segment was put while the head was here
head_on_seen : (shape : Shape) (w : ℕ → ℕ) (l : Ledger) (i : ℕ) (r : Running) → 0 < shape.k → 0 < i → Sane shape r
    → HasSeen shape w l r
    → MovesHead w r → segment_of shape i ≡ head_of (w 0) → value_of (w i) ≢ 0 → l.head ≤ l.head_at_put i
head_on_seen shape w l i (R.Enqueue item start left (E.MoveHead ends)) k pos s c e g v =
    seen_slot shape w l i ends 0 k pos k c e g v
head_on_seen shape w l i (R.Dequeue start left (D.MoveHead ends)) k pos s c e g v =
    seen_slot shape w l i ends start k pos s.0 c e g v
head_on_seen shape w l i other k pos s c e g v = absurd e

HasSeen-others : (shape : Shape) (w w' : ℕ → ℕ) (l l' : Ledger) (u : ℕ) (q : Running)
    → ((ends start offset : ℕ) → Loaded shape w l u ends → Seen_empty shape w l ends start offset
    → Seen_empty shape w' l' ends start offset) → HasLoaded shape w l u q → HasSeen shape w l q → HasSeen shape w' l' q
HasSeen-others shape w w' l l' u q keep ld h = grind arith

HasChosen-others : (shape : Shape) (w w' : ℕ → ℕ) (l l' : Ledger) (u : ℕ) (q : Running) → Sane shape q
    → HasTarget shape w l u q
    → ((index filled : ℕ) → IsSlotIndex shape index → value_of filled ≢ 0 → ToTake shape w l u index filled
    → Chosen shape w l u index filled → Chosen shape w' l' u index filled) → HasChosen shape w l u q → HasChosen shape
    w' l' u q
HasChosen-others shape w w' l l' u (R.Dequeue start left (D.MoveTail ends index filled)) s g keep h =
    keep index filled s.1.1 s.1.2 g.0 h
HasChosen-others shape w w' l l' u (R.Dequeue start left (D.Take ends index filled)) s g keep h =
    keep index filled s.1.0 s.1.1 g.0 h
HasChosen-others shape w w' l l' u other s g keep h = tt

module _ (shape : Shape) (w : ℕ → ℕ) (l : Ledger) (t : ℕ) (r : Running) (s : Sane shape r)
    (ok : EndsOk shape (w 0) l.head l.tail)
    (me : ThreadOk shape w l t r) (put_to_head : (i : ℕ) → l.head_at_put i ≤ l.head) (mine : HasSeen shape w l r)
    (choice : HasChosen shape w l t r)
    (u : ℕ) (q : Running) (ne : u ≡ t → ⊥) (sq : Sane shape q) (them : ThreadOk shape w l u q)
    (seen_h : (stepped shape w t r l).head_seen u ≡ l.head_seen u) where
  ups : (i : ℕ) → w i ≤ words_by (access shape r) w i
  ups i = words_rise shape w r s (ends_in_ring shape (w 0) l.head l.tail ok) i

  other_seen : (ends start offset : ℕ) → Loaded shape w l u ends → Seen_empty shape w l ends start offset
      → Seen_empty shape (words_by (access shape r) w) (stepped shape w t r l) ends start offset
  other_seen ends start offset ld c e o below v =
      let z : words_by (access shape r) w 0 ≡ w 0 = omega (arith, ld.below, ups 0) in
      seen_kept shape w l t r s ok me put_to_head mine choice (scan_index shape (head_of ends) start o) z
      (c (sym z ∙ e) o below) v

  other_chosen : (index filled : ℕ) → IsSlotIndex shape index → value_of filled ≢ 0 → ToTake shape w l u index filled
      → Chosen shape w l u index filled
      → Chosen shape (words_by (access shape r) w) (stepped shape w t r l) u index filled
  other_chosen index filled i v g c =
      record {
        put = λ e.
            let z : words_by (access shape r) w index ≡ w index = omega (arith, g.below, ups index) in
            omega (
              arith,
              put_kept shape w l t r s ok me put_to_head mine choice index z i.above,
              seen_h,
              c.put
                  (sym z ∙ e),
            );
        near = λ e.
            let z : words_by (access shape r) w index ≡ w index = omega (arith, g.below, ups index) in
            let x : w index ≡ filled = sym z ∙ e in
            elim (head_moves shape w l t r s ok me put_to_head mine choice) [
              | inl k ↦ omega (arith, k, seen_h, c.near x)
              | inr k ↦ elim (cases_eq l.head (l.head_seen u + shape.n)) [
                | inr far ↦ omega (arith, k, seen_h, c.near x)
                | inl at ↦
                    let m : MovesHead w r = moves_head shape w l t r (λ y. omega (arith, k, y)) in
                    let d : segment_of shape index ≡ head_of (w 0) =
                    g.place ∙ sym (add-mod_right (l.head_seen u) shape.n) ∙ ap (λ y. y % shape.n) (sym at)
                    ∙ sym ok.head in
                    let b : l.head ≤ l.head_at_put index =
                    head_on_seen shape w l index r shape.some_slot i.above s mine m d
                    (λ y. v (ap value_of (sym x) ∙ y)) in
                    absurd (omega (arith, b, c.put x, at, shape.some_segments))
              ]
            ];
      }

  pub other_late_seen : HasSeen shape w l q → HasSeen shape (words_by (access shape r) w) (stepped shape w t r l) q
  other_late_seen h = HasSeen-others shape w (words_by (access shape r) w) l (stepped shape w t r l) u q other_seen
      them.loaded h

  pub other_late_chosen : HasChosen shape w l u q
      → HasChosen shape (words_by (access shape r) w) (stepped shape w t r l) u q
  other_late_chosen h = HasChosen-others shape w (words_by (access shape r) w) l (stepped shape w t r l) u q sq
      them.target other_chosen h

-- both invariants
pub record Both (shape : Shape) (w : ℕ → ℕ) (p : ℕ → Option Running) (l : Ledger) : Type 0 where
  pub inv : Inv shape w p l
  pub late : Late shape w p l

begun_late : (shape : Shape) (w : ℕ → ℕ) (l : Ledger) (t : ℕ) (b : Begin) (r : Running) → begun b ≡ Some r
    → HasSeen shape w (called t b l) r × HasChosen shape w (called t b l) t r
begun_late shape w l t b r g = grind (arith, nat_tests)

outside_seen : (shape : Shape) (w v : ℕ → ℕ) (l : Ledger) (u : ℕ) (q : Running) → OutsideCalls shape w v → Sane shape q
    → HasLoaded shape w l u q
    → ((ends : ℕ) → Loaded shape w l u ends → InRing shape ends) → HasSeen shape w l q
    → HasSeen shape v (record l { now = l.now + 1 }) q
outside_seen shape w v l u q out s ld in_ring h =
    HasSeen-others shape w v l (record l { now = l.now + 1 }) u q
    (λ ends start offset lo c e o below filled.
    let i : IsSlotIndex shape (scan_index shape (head_of ends) start o) =
    scan_index-is_slot shape (head_of ends) start o (in_ring ends lo).head in
    let z : v (scan_index shape (head_of ends) start o) ≡ w (scan_index shape (head_of ends) start o) =
    out.slots (scan_index shape (head_of ends) start o) i.above i.below in
    c (omega (arith, lo.below, out.rise, e)) o below (λ y. filled (ap value_of z ∙ y)))
    ld h

loaded_in_ring : (shape : Shape) (w : ℕ → ℕ) (l : Ledger) (u ends : ℕ) → Loaded shape w l u ends → InRing shape ends
loaded_in_ring shape w l u ends h = ends_in_ring shape ends (l.head_seen u) (l.tail_seen u) h.ends

module _ (shape : Shape) where
  seen_same : (w : ℕ → ℕ) (l : Ledger) (t : ℕ) (r : Running) (u : ℕ) → (u ≡ t → ⊥) → (stepped shape w t r l).head_seen u
      ≡ l.head_seen u
  unfolding stepped
  seen_same w l t r u ne = grind (arith, nat_tests, noted-other)

  both_step : (w : ℕ → ℕ) (p : ℕ → Option Running) (l : Ledger) (t : ℕ) (r : Running) → Both shape w p l → p t ≡ Some r
      → Both shape (words_by (access shape r) w) (noted p t (place_after (advance shape r (found_in shape w r))))
      (stepped shape w t r l)
  both_step w p l t r h e =
      let s : Sane shape r = h.inv.base.sane t r e in
      let ok : EndsOk shape (w 0) l.head l.tail = h.inv.base.ends in
      let me : ThreadOk shape w l t r = h.inv.threads t r e in
      let mine : HasSeen shape w l r = h.late.seen t r e in
      let choice : HasChosen shape w l t r = h.late.chosen t r e in
      record {
        inv = inv_step shape w p l t r h.inv e;
        late = record {
          put_to_head = late_put shape w l t r s ok me h.late.put_to_head mine choice;
          seen = λ u q f. elim (cases_eq u t) [
            | inl same ↦ goes_at (HasSeen shape (words_by (access shape r) w) (stepped shape w t r l))
                (advance shape r (found_in shape w r)) q
                (sym (noted-same p t u (place_after (advance shape r (found_in shape w r))) same) ∙ f)
                (own_seen_empty shape w l t r s ok me h.late.put_to_head mine choice)
            | inr ne ↦
                let g : p u ≡ Some q = sym (noted-other p t u (place_after (advance shape r (found_in shape w r))) ne)
                ∙ f in
                other_late_seen shape w l t r s ok me h.late.put_to_head mine choice u q ne (h.inv.base.sane u q g)
                (h.inv.threads u q g)
                (seen_same w l t r u ne) (h.late.seen u q g)
          ];
          chosen = λ u q f. elim (cases_eq u t) [
            | inl same ↦ rw same (goes_at (HasChosen shape (words_by (access shape r) w) (stepped shape w t r l) t)
                (advance shape r (found_in shape w r)) q
                (sym (noted-same p t u (place_after (advance shape r (found_in shape w r))) same) ∙ f)
                (own_chosen shape w l t r s ok me h.late.put_to_head mine choice))
            | inr ne ↦
                let g : p u ≡ Some q = sym (noted-other p t u (place_after (advance shape r (found_in shape w r))) ne)
                ∙ f in
                other_late_chosen shape w l t r s ok me h.late.put_to_head mine choice u q ne (h.inv.base.sane u q g)
                (h.inv.threads u q g)
                (seen_same w l t r u ne) (h.late.chosen u q g)
          ];
        };
      }

  both_begin : (w : ℕ → ℕ) (p : ℕ → Option Running) (l : Ledger) (t : ℕ) (b : Begin) (r : Running) → Both shape w p l
      → p t ≡ None
      → may_begin shape b ≡ true → begun b ≡ Some r → Both shape w (noted p t (Some r)) (called t b l)
  unfolding called
  both_begin w p l t b r h e m g =
      record {
        inv = inv_begin shape w p l t b r h.inv e m g;
        late = record {
          put_to_head = h.late.put_to_head;
          seen = λ u q f. elim (cases_eq u t) [
            | inl same ↦ rw (← (same_Some r q (sym (noted-same p t u (Some r) same) ∙ f)))
                (begun_late shape w l t b r g).0
            | inr ne ↦ HasSeen-others shape w w l (called t b l) u q (λ ends start offset ld c. c)
                (h.inv.threads u q (sym (noted-other p t u (Some r) ne) ∙ f)).loaded
                (h.late.seen u q (sym (noted-other p t u (Some r) ne) ∙ f))
          ];
          chosen = λ u q f. elim (cases_eq u t) [
            | inl same ↦ rw (same, ← (same_Some r q (sym (noted-same p t u (Some r) same) ∙ f)))
                (begun_late shape w l t b r g).1
            | inr ne ↦
                let k : p u ≡ Some q = sym (noted-other p t u (Some r) ne) ∙ f in
                HasChosen-others shape w w l (called t b l) u q (h.inv.base.sane u q k) (h.inv.threads u q k).target
                (λ index filled i v tk c. record { put = c.put; near = c.near }) (h.late.chosen u q k)
          ];
        };
      }

  both_outside : (w v : ℕ → ℕ) (p : ℕ → Option Running) (l : Ledger) → OutsideCalls shape w v → Both shape w p l
      → Both shape v p (record l { now = l.now + 1 })
  both_outside w v p l out h =
      record {
        inv = inv_outside shape w v p l out h.inv;
        late = record {
          put_to_head = h.late.put_to_head;
          seen = λ u q f. outside_seen shape w v l u q out (h.inv.base.sane u q f) (h.inv.threads u q f).loaded
              (λ ends ld. loaded_in_ring shape w l u ends ld) (h.late.seen u q f);
          chosen = λ u q f. HasChosen-others shape w v l
              (record l { now = l.now + 1 }) u q (h.inv.base.sane u q f) (h.inv.threads u q f).target
              (λ index filled i old tk c.
              let z = out.slots index i.above i.below in
              record { put = λ e. c.put (sym z ∙ e); near = λ e. c.near (sym z ∙ e) })
              (h.late.chosen u q f);
        };
      }

  both_opening : (threads : ℕ) → Both shape (word_at (opening shape threads)) (place_of (opening shape threads)) blank
  unfolding opening word_at place_of blank
  both_opening threads =
      record {
        inv = inv_opening shape threads;
        late = record {
          put_to_head = λ i. omega arith;
          seen = λ t r f. absurd (none-some r (sym (get_or_replicate threads t None) ∙ f));
          chosen = λ t r f. absurd (none-some r (sym (get_or_replicate threads t None) ∙ f));
        };
      }

  pub both : (threads : ℕ) (events : List Event) (final : World) → run shape (Some (opening shape threads)) events
      ≡ Some final
      → Both shape (word_at final) (place_of final) (ledger_of shape (Some (opening shape threads)) events blank)
  both threads events final e =
      (after_all shape (Both shape) (λ w p l t r h f. inv_table shape w p l t r h.inv f) both_begin both_step
      both_outside events
      (opening shape threads) final blank
      (record { size = opening_size shape threads; holds = both_opening threads })
      e).holds

  -- where a take would be won, the last 2n visits of head and tail have both points
  pub late_take : (threads : ℕ) → TakesInTime shape threads
  late_take threads events here is t start left ends index filled at same =
      let k = both threads events here is in
      let c = (k.late.chosen t (R.Dequeue start left (D.Take ends index filled)) at).near same in
      (c, omega (arith, c, k.inv.base.ends.no_wrap))
