-- A step keeps what the ledger says of slots and times.
use Rattle.std.proofs.Common.{lit<, ◌≡◌, ◌≢◌, ℕ, ◌+◌, ◌-◌, ◌*◌, ◌/◌, ◌%◌, ◌<◌, ◌≤◌, ◌⊎◌, inl, inr, true, false, refl}
use Rattle.std.proofs.Common.{sym, ◌∙◌, ap, arith, Some, None, subst}
use Rattle.std.proofs.Math.Nat.{mod-lt, add-mod-mod, add-mod_right, mod-eq_of_lt}
use Rattle.std.proofs.lemmas.Nat.{div-add-mod'}
use Rattle.std.proofs.lemmas.Bool.{cases_lt}
use Rattle.std.proofs.lemmas.Bool.Decides.{nat_tests}
use Rattle.kfifo_machine.specs.declared.place.EnqueuePhase.TheVariants as E
use Rattle.kfifo_machine.specs.declared.place.DequeuePhase.TheVariants as D
use Rattle.kfifo_machine.specs.declared.place.Running.TheVariants as R
use Rattle.std.proofs.lemmas.Option.{same_Some}
use Rattle.kfifo_linear.proofs.Abstract.{noted_tells, words_by}
use Rattle.kfifo_linear.proofs.Base.{Sane}
use Rattle.kfifo_linear.proofs.Claims.{EndsChange, HasLoaded, at_load, ends_change, segment_of}
use Rattle.kfifo_linear.proofs.Invariant.{AtHead, AtTail, Clear, HasClear, HasOwn, SlotOk, ThreadOk, Times}
use Rattle.kfifo_linear.proofs.Ring.{at_distance, distance-mod, place_below, value-slot_word}
use Rattle.kfifo_linear.proofs.Threads.{Slots}
use Rattle.kfifo_linear.specs.Ledger.{Inside, Ledger, item_of, settle_point, settle_visit, stepped}
use Rattle.kfifo_machine.proofs.NoWrap.{EndsOk, full_ring, other_end}
use Rattle.kfifo_machine.specs.Places.{IsSlotIndex}
use Rattle.kfifo_machine.specs.Program.{access, emptied, filled_with, scan_index}
use Rattle.kfifo_linear.proofs.Types.{Running, Shape}
use Rattle.kfifo_words.specs.Ring.{distance}
use Rattle.kfifo_words.specs.Words.{head_of, tail_of, value_of, version_of}

filled_with-item : (item empty : ℕ) → item < 16777216 → value_of (filled_with item empty) ≡ item
filled_with-item item empty h = value-slot_word item (version_of empty + 1) h

pub emptied-value : (filled : ℕ) → value_of (emptied filled) ≡ 0
emptied-value filled = value-slot_word 0 (version_of filled + 1) (lit< tt)

-- where an enqueue looks at the ends again, its slot is in the segment of the tail that it loaded
abbrev SeenTail : Shape → Ledger → ℕ → Running → Type 0
SeenTail shape l t (R.Enqueue item start left (E.ReloadEnds ends index filled)) = tail_of ends ≡ l.tail_seen t % shape.n
SeenTail shape l t other = Unit {0}

seen_tail : (shape : Shape) (w : ℕ → ℕ) (l : Ledger) (t : ℕ) (r : Running) → HasLoaded shape w l t r
    → SeenTail shape l t r
seen_tail shape w l t r loaded = grind arith

-- an item that a step settles, or that was settled before it, has a visit of its slot's segment
settled_there : (shape : Shape) (w : ℕ → ℕ) (l : Ledger) (t : ℕ) (r : Running) (i : ℕ)
    → (l.settled i ≡ true → l.visit i % shape.n ≡ segment_of shape i)
    → ((x : ℕ) → x < shape.n → (l.head + distance shape.n (head_of (w 0)) x) % shape.n ≡ x) → HasOwn shape w l t r
    → SeenTail shape l t r → head_of (w 0) ≡ l.head % shape.n → l.tail_seen t % shape.n < shape.n
    → (stepped shape w t r l).settled i ≡ true → (stepped shape w t r l).visit i % shape.n ≡ segment_of shape i
unfolding stepped settle_visit
settled_there shape w l t r i old place own seen head within e = grind (arith, nat_tests, noted_tells)

-- an item that a step settles was put in the round that the thread is in
settled_now : (shape : Shape) (w : ℕ → ℕ) (l : Ledger) (t : ℕ) (r : Running) (i : ℕ) → HasOwn shape w l t r
    → (stepped shape w t r l).settled i ≡ true
    → (l.settled i ≡ true) ⊎ ((at_load r ≡ false) × (segment_of shape i ≡ l.tail_seen t % shape.n)
    × ((stepped shape w t r l).owner i ≡ l.caller t))
unfolding stepped
settled_now shape w l t r i own e = grind (arith, nat_tests, noted_tells)

-- a settled item's visit, its point and the first step of its call stay
settled_stays : (shape : Shape) (w : ℕ → ℕ) (l : Ledger) (t : ℕ) (r : Running) (i : ℕ) → HasOwn shape w l t r
    → l.settled i ≡ true → (stepped shape w t r l).settled i ≡ true
    → ((stepped shape w t r l).point i ≡ l.point i) × ((stepped shape w t r l).owner i ≡ l.owner i)
unfolding stepped
settled_stays shape w l t r i own before after = grind (arith, nat_tests, noted_tells)

-- an item is settled after its call began
settles_after : (l : Ledger) (t v : ℕ) → l.first (l.caller t) ≤ l.now → (v < l.tail → l.first (l.caller t) ≤ l.tails v)
    → l.first (l.caller t) ≤ settle_point l v
unfolding settle_point
settles_after l t v started left = grind (arith, nat_tests)

firsts_stay : (shape : Shape) (w : ℕ → ℕ) (l : Ledger) (t : ℕ) (r : Running) (c : ℕ) → (stepped shape w t r l).first c
    ≡ l.first c
unfolding stepped
firsts_stay shape w l t r c = grind (arith, nat_tests, noted_tells)

module _ (shape : Shape) (w : ℕ → ℕ) (l : Ledger) (t : ℕ) (r : Running) (s : Sane shape r)
    (ok : EndsOk shape (w 0) l.head l.tail) (me : ThreadOk shape w l t r) (times : Times l) where
  -- a head-on is won only where the tail is past the head
  head_on_past : (stepped shape w t r l).head ≡ l.head + 1 → l.head < l.tail
  unfolding stepped
  head_on_past e =
      let n = shape.some_segments in
      let other = other_end shape (w 0) l.head l.tail ok in
      let full = full_ring shape (w 0) l.head l.tail ok in
      grind (arith, nat_tests)

  pub times_stay : Times (stepped shape w t r l)
  unfolding stepped
  times_stay =
      let past = head_on_past in
      record {
        tails_past = let h = times.tails_past in grind (arith, nat_tests, noted_tells);
        tails_rise = let h = times.tails_past in let g = times.tails_rise in grind (arith, nat_tests, noted_tells);
        heads_past = let h = times.heads_past in grind (arith, nat_tests, noted_tells);
        heads_rise = let h = times.heads_past in let g = times.heads_rise in grind (arith, nat_tests, noted_tells);
        tail_first = let h = times.tails_past in let g = times.tail_first in grind (arith, nat_tests, noted_tells);
      }

-- a place at which the tail is in a visit stays one
pub at_tail_stays : (w w' : ℕ → ℕ) (l l' : Ledger) (v p : ℕ) → EndsChange w w' l l' → l'.now ≡ l.now + 1 → AtTail l v p
    → AtTail l' v p
at_tail_stays w w' l l' v p c n h =
    record {
      reached = omega (arith, h.reached, c.tail_rise);
      after = λ z. omega (arith, h.after z, c.tails_kept (v - 1) (omega (arith, h.reached)));
      before = λ z. elim (cases_lt v l.tail) [
        | inl lt ↦ omega (arith, h.before lt, c.tails_kept v lt)
        | inr ge ↦ omega (arith, h.past, c.tails_new v ge z)
      ];
      past = omega (arith, h.past, n);
    }

pub at_head_stays : (w w' : ℕ → ℕ) (l l' : Ledger) (v p : ℕ) → EndsChange w w' l l' → l'.now ≡ l.now + 1 → AtHead l v p
    → AtHead l' v p
at_head_stays w w' l l' v p c n h =
    record {
      reached = omega (arith, h.reached, c.head_rise);
      after = λ z. omega (arith, h.after z, c.heads_kept (v - 1) (omega (arith, h.reached)));
      before = λ z. elim (cases_lt v l.head) [
        | inl lt ↦ omega (arith, h.before lt, c.heads_kept v lt)
        | inr ge ↦ omega (arith, h.past, c.heads_new v ge z)
      ];
      past = omega (arith, h.past, n);
      tail_past = omega (arith, h.tail_past, c.tail_rise);
      tail_before = omega (arith, h.tail_before, c.tails_kept v h.tail_past);
    }

-- an item that is settled now: the place of its enqueue. After the step, since the place may be the step itself
pub settle_at_tail : (w w' : ℕ → ℕ) (l l' : Ledger) (v : ℕ) → EndsChange w w' l l' → l'.now ≡ l.now + 1 → Times l
    → v ≤ l.tail
    → l'.tail ≡ l.tail → AtTail l' v (settle_point l v)
unfolding settle_point
settle_at_tail w w' l l' v c n times h e =
    let past = times.tails_past in
    let rise = times.tails_rise in
    let kept = c.tails_kept in
    record {
      reached = omega arith;
      after = grind (arith, nat_tests);
      before = grind (arith, nat_tests);
      past = grind (arith, nat_tests);
    }

-- a scan from start comes to each slot of its segment
pub back : Shape → ℕ → ℕ → ℕ
back shape i start = ((i - 1) % shape.k + shape.k - start) % shape.k

pub back-below : (shape : Shape) (i start : ℕ) → 0 < shape.k → back shape i start < shape.k
unfolding back
back-below shape i start k = mod-lt ((i - 1) % shape.k + shape.k - start) k

pub scan_index-back : (shape : Shape) (i start : ℕ) → 0 < shape.k → 0 < i → start < shape.k
    → scan_index shape (segment_of shape i) start (back shape i start) ≡ i
unfolding back scan_index segment_of
scan_index-back shape i start k pos h =
    let j : (i - 1) % shape.k < shape.k = mod-lt (i - 1) k in
    let e : (start + ((i - 1) % shape.k + shape.k - start) % shape.k) % shape.k
    ≡ (start + ((i - 1) % shape.k + shape.k - start)) % shape.k =
    add-mod-mod start ((i - 1) % shape.k + shape.k - start) shape.k in
    let f : start + ((i - 1) % shape.k + shape.k - start) ≡ (i - 1) % shape.k + shape.k = omega arith in
    let g : ((i - 1) % shape.k + shape.k) % shape.k ≡ (i - 1) % shape.k = add-mod_right ((i - 1) % shape.k) shape.k
    ∙ mod-eq_of_lt j in
    let d : (i - 1) / shape.k * shape.k + (i - 1) % shape.k ≡ i - 1 = div-add-mod' (i - 1) shape.k in
    let z : (start + ((i - 1) % shape.k + shape.k - start) % shape.k) % shape.k ≡ (i - 1) % shape.k = e
    ∙ ap (λ x. x % shape.k) f ∙ g in
    omega arith

-- a thread that wins a head-on
abbrev pub MovesHead : (ℕ → ℕ) → Running → Type 0
MovesHead w (R.Enqueue item start left (E.MoveHead ends)) = w 0 ≡ ends
MovesHead w (R.Dequeue start left (D.MoveHead ends)) = w 0 ≡ ends
MovesHead w other = ⊥

pub moves_head : (shape : Shape) (w : ℕ → ℕ) (l : Ledger) (t : ℕ) (r : Running) → (stepped shape w t r l).head ≢ l.head
    → MovesHead w r
unfolding stepped
moves_head shape w l t r e = grind (arith, nat_tests)

pub clear_slot : (shape : Shape) (w : ℕ → ℕ) (l : Ledger) (i ends start : ℕ) → 0 < shape.k → 0 < i → start < shape.k
    → Clear shape w l ends start shape.k → w 0 ≡ ends → segment_of shape i ≡ head_of (w 0) → l.settled i ≡ false
clear_slot shape w l i ends start k pos h c e g =
    ap l.settled (sym (scan_index-back shape i start k pos h) ∙ ap (λ x. scan_index shape x start (back shape i start))
    (g ∙ ap head_of e))
    ∙ c e (back shape i start) (back-below shape i start k)

-- a won head-on leaves no settled item of the visit behind
head_on_clear : (shape : Shape) (w : ℕ → ℕ) (l : Ledger) (i : ℕ) (r : Running) → 0 < shape.k → 0 < i → Sane shape r
    → HasClear shape w l r
    → MovesHead w r → segment_of shape i ≡ head_of (w 0) → l.settled i ≡ false
head_on_clear shape w l i (R.Enqueue item start left (E.MoveHead ends)) k pos s c e g =
    clear_slot shape w l i ends 0 k pos k c e g
head_on_clear shape w l i (R.Dequeue start left (D.MoveHead ends)) k pos s c e g =
    clear_slot shape w l i ends start k pos s.0 c e g
head_on_clear shape w l i other k pos s c e g = absurd e

zero_below : (n : ℕ) → 2 ≤ n → 0 < n
zero_below n h = omega arith

-- one slot
module _ (shape : Shape) (w : ℕ → ℕ) (l : Ledger) (t : ℕ) (r : Running) (s : Sane shape r)
    (ok : EndsOk shape (w 0) l.head l.tail)
    (me : ThreadOk shape w l t r) (times : Times l) (all : Slots shape w l)
    (i : ℕ) (is_slot : IsSlotIndex shape i) (here : SlotOk shape w l i) where
  slot_untaken_to_tail : (stepped shape w t r l).untaken_from i ≤ (stepped shape w t r l).tail
  unfolding stepped
  slot_untaken_to_tail = let h = here.untaken_to_tail in let g = me.target in let rd = me.round in
      grind (arith, nat_tests, noted_tells)

  slot_empty : value_of (words_by (access shape r) w i) ≡ 0 → (stepped shape w t r l).settled i ≡ false
  unfolding stepped
  slot_empty e = let h = here.empty in let own = me.own in grind (arith, nat_tests, noted_tells)

  full_inside : value_of (words_by (access shape r) w i) ≢ 0
      → (stepped shape w t r l).standing ((stepped shape w t r l).owner i) ≡ Inside i
  unfolding stepped
  full_inside v = let f = me.fresh in let own = me.own in grind (arith, nat_tests, noted_tells, emptied-value)

  full_known : value_of (words_by (access shape r) w i) ≢ 0
      → (stepped shape w t r l).owner i < (stepped shape w t r l).calls
  unfolding stepped
  full_known v = let h = here.full in let k = me.known in grind (arith, nat_tests, noted_tells, emptied-value)

  full_untaken_to_load : value_of (words_by (access shape r) w i) ≢ 0
      → (stepped shape w t r l).untaken_from i ≤ (stepped shape w t r l).tail_at_load i
  unfolding stepped
  full_untaken_to_load v = let h = here.full in let g = me.target in
      grind (arith, nat_tests, noted_tells, emptied-value)

  full_load_to_tail : value_of (words_by (access shape r) w i) ≢ 0
      → (stepped shape w t r l).tail_at_load i ≤ (stepped shape w t r l).tail
  unfolding stepped
  full_load_to_tail v = let h = here.full in let g = me.round in grind (arith, nat_tests, noted_tells, emptied-value)

  full_place : value_of (words_by (access shape r) w i) ≢ 0 → (stepped shape w t r l).tail_at_load i % shape.n
      ≡ segment_of shape i
  unfolding stepped
  full_place v = let h = here.full in let g = me.target in grind (arith, nat_tests, noted_tells, emptied-value)

  full_unsettled : value_of (words_by (access shape r) w i) ≢ 0 → (stepped shape w t r l).settled i ≡ false
      → (stepped shape w t r l).last ((stepped shape w t r l).owner i) ≡ None
  unfolding stepped
  full_unsettled v n = let h = here.full in let f = me.fresh in let own = me.own in let e = me.unended in
      grind (arith, nat_tests, noted_tells, emptied-value)

  full_begun : value_of (words_by (access shape r) w i) ≢ 0
      → (stepped shape w t r l).first ((stepped shape w t r l).owner i) ≤ (stepped shape w t r l).now
  unfolding stepped
  full_begun v = let h = here.full in let k = me.started in grind (arith, nat_tests, noted_tells, emptied-value)

  full_after : value_of (words_by (access shape r) w i) ≢ 0 → (x : ℕ) → (stepped shape w t r l).tail_at_load i ≤ x
      → x < (stepped shape w t r l).tail
      → (stepped shape w t r l).first ((stepped shape w t r l).owner i) ≤ (stepped shape w t r l).tails x
  unfolding stepped
  full_after v x x1 x2 = let h = here.full in let k = me.started in let g = me.round in
      grind (arith, nat_tests, noted_tells, emptied-value)

  -- what the window's distances are
  d_tail : distance shape.n (head_of (w 0)) (tail_of (w 0)) ≡ l.tail - l.head
  d_tail = rw (ok.head, ok.tail) (distance-mod shape.n l.head l.tail ok.ordered ok.no_wrap)

  d_place : (x : ℕ) → x < shape.n → (l.head + distance shape.n (head_of (w 0)) x) % shape.n ≡ x
  d_place x h = rw ok.head ((at_distance shape.n l.head x h).0)

  settled_to_tail : (stepped shape w t r l).settled i ≡ true
      → (stepped shape w t r l).visit i ≤ (stepped shape w t r l).tail
  unfolding stepped settle_visit
  settled_to_tail e =
      let h = here.settled in
      let d = d_tail in
      let o = ok.ordered in
      grind (arith, nat_tests, noted_tells)

  settled_place : (stepped shape w t r l).settled i ≡ true → (stepped shape w t r l).visit i % shape.n
      ≡ segment_of shape i
  settled_place e = settled_there shape w l t r i (λ old. (here.settled old).place) d_place me.own
      (seen_tail shape w l t r me.loaded) ok.head (mod-lt (l.tail_seen t) (zero_below shape.n shape.some_segments)) e

  settled_from_head : (stepped shape w t r l).settled i ≡ true
      → (stepped shape w t r l).head ≤ (stepped shape w t r l).visit i
  unfolding stepped settle_visit
  settled_from_head e =
      let h = here.settled in
      let m = moves_head shape w l t r in
      let c = head_on_clear shape w l i r shape.some_slot is_slot.above s me.clear in
      let hd = ok.head in
      grind (arith, nat_tests, noted_tells)

  settled_reached : (stepped shape w t r l).settled i ≡ true
      → (stepped shape w t r l).point i < (stepped shape w t r l).now
  unfolding stepped settle_visit settle_point
  settled_reached e =
      let h = here.settled in
      let d = d_tail in
      let o = ok.ordered in
      let past = times.tails_past in
      grind (arith, nat_tests, noted_tells)

  change : EndsChange w (words_by (access shape r) w) l (stepped shape w t r l)
  change = ends_change shape w l t r s ok

  now_next : (stepped shape w t r l).now ≡ l.now + 1
  unfolding stepped
  now_next = refl

  last_old : (c : ℕ) → ((stepped shape w t r l).last c ≡ l.last c) ⊎ ((stepped shape w t r l).last c ≡ Some l.now)
  unfolding stepped
  last_old c = grind (arith, nat_tests, noted_tells)

  -- a settled item was so before, or is now
  pub settled_old : (stepped shape w t r l).settled i ≡ true
      → ((l.settled i ≡ true) × ((stepped shape w t r l).visit i ≡ l.visit i)
      × ((stepped shape w t r l).point i ≡ l.point i)
      × ((stepped shape w t r l).owner i ≡ l.owner i))
      ⊎ (((stepped shape w t r l).visit i ≤ l.tail)
      × ((stepped shape w t r l).point i ≡ settle_point l ((stepped shape w t r l).visit i))
      × ((stepped shape w t r l).tail ≡ l.tail) × ((stepped shape w t r l).last (l.caller t) ≡ Some l.now)
      × ((stepped shape w t r l).owner i ≡ l.caller t))
  unfolding stepped settle_visit
  settled_old e =
      let d = d_tail in
      let o = ok.ordered in
      let own = me.own in
      grind (arith, nat_tests, noted_tells)

  settled_started : (stepped shape w t r l).settled i ≡ true
      → (stepped shape w t r l).first ((stepped shape w t r l).owner i) ≤ (stepped shape w t r l).point i
  settled_started e = elim (settled_old e) [
    | inl p ↦ by_first (l.owner i) p.3 (subst (λ x. l.first (l.owner i) ≤ x) (sym p.2) (here.settled p.0).started)
    | inr p ↦ elim (settled_now shape w l t r i me.own e) [
      | inl old ↦ let same = settled_stays shape w l t r i me.own old e in
          by_first (l.owner i) same.1 (subst (λ x. l.first (l.owner i) ≤ x) (sym same.0) (here.settled old).started)
      | inr new ↦
          let v = (stepped shape w t r l).visit i in
          let round = me.round new.0 in
          let there : v % shape.n ≡ l.tail_seen t % shape.n = settled_place e ∙ new.1 in
          let head : l.head ≤ v = omega (arith, settled_from_head e, change.head_rise) in
          let seen : l.tail_seen t ≤ v =
          place_below shape.n v (l.tail_seen t) (omega (arith, round.tail_below, ok.no_wrap, head)) (sym there) in
          by_first (l.caller t) new.2
          (subst (λ x. l.first (l.caller t) ≤ x) (sym p.1)
          (settles_after l t v me.started (round.tails_after v seen)))
    ]
  ]
    where
      by_first : (c : ℕ) → (stepped shape w t r l).owner i ≡ c → l.first c ≤ (stepped shape w t r l).point i
          → (stepped shape w t r l).first ((stepped shape w t r l).owner i) ≤ (stepped shape w t r l).point i
      by_first c owner less =
          rw owner (subst (λ x. x ≤ (stepped shape w t r l).point i) (sym (firsts_stay shape w l t r c)) less)

  settled_at_tail : (stepped shape w t r l).settled i ≡ true
      → AtTail (stepped shape w t r l) ((stepped shape w t r l).visit i) ((stepped shape w t r l).point i)
  settled_at_tail e =
      elim (settled_old e) [
        | inl p ↦ rw (p.1, p.2) (at_tail_stays w (words_by (access shape r) w) l (stepped shape w t r l) (l.visit i)
            (l.point i) change now_next (here.settled p.0).at_tail)
        | inr p ↦ rw p.1 (settle_at_tail w (words_by (access shape r) w) l (stepped shape w t r l)
            ((stepped shape w t r l).visit i) change now_next times p.0 p.2)
      ]

  settled_ended : (stepped shape w t r l).settled i ≡ true → (x : ℕ)
      → (stepped shape w t r l).last ((stepped shape w t r l).owner i) ≡ Some x → (stepped shape w t r l).point i ≤ x
  settled_ended e x g =
      let past : (stepped shape w t r l).point i ≤ l.now = omega (arith, settled_reached e, now_next) in
      elim (settled_old e) [
        | inl p ↦
            elim (last_old (l.owner i)) [
              | inl k ↦ omega (
                arith,
                p.2,
                (here.settled p.0).ended x (sym k ∙ ap (stepped shape w t r l).last (sym p.3)
                    ∙ g),
              )
              | inr k ↦ let z : l.now ≡ x = same_Some l.now x (sym k ∙ ap (stepped shape w t r l).last (sym p.3) ∙ g) in
                  omega arith
            ]
        | inr p ↦ let z : l.now ≡ x = same_Some l.now x (sym p.3 ∙ ap (stepped shape w t r l).last (sym p.4) ∙ g) in
            omega arith
      ]

  slot_item : value_of (words_by (access shape r) w i) ≢ 0
      → item_of ((stepped shape w t r l).begin ((stepped shape w t r l).owner i))
      ≡ value_of (words_by (access shape r) w i)
  unfolding stepped
  slot_item v = let h = here.item in let m = me.makes in
      grind (arith, nat_tests, noted_tells, emptied-value, filled_with-item)

  pub slot_stays : SlotOk shape (words_by (access shape r) w) (stepped shape w t r l) i
  slot_stays =
      record {
        untaken_to_tail = slot_untaken_to_tail;
        empty = slot_empty;
        full = λ v. record {
          inside = full_inside v;
          known = full_known v;
          begun = full_begun v;
          untaken_to_load = full_untaken_to_load v;
          load_to_tail = full_load_to_tail v;
          place = full_place v;
          after = full_after v;
          unsettled = full_unsettled v;
        };
        item = slot_item;
        settled = λ e. record {
          from_head = settled_from_head e;
          to_tail = settled_to_tail e;
          place = settled_place e;
          at_tail = settled_at_tail e;
          started = settled_started e;
          ended = settled_ended e;
        };
      }
