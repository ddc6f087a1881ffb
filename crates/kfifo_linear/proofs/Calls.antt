-- A step keeps what the ledger says of calls.
use Rattle.std.proofs.Common.{◌≡◌, ◌≢◌, ℕ, ◌+◌, ◌-◌, ◌*◌, ◌%◌, ◌<◌, ◌≤◌, ◌⊎◌, inl, inr, true, false, refl, sym, ◌∙◌, ap}
use Rattle.std.proofs.Common.{arith, Some, min}
use Rattle.std.proofs.lemmas.Bool.{false≢true, cases_eq, cases_lt, cases_Bool}
use Rattle.std.proofs.lemmas.Bool.Decides.{nat_tests}
use Rattle.std.proofs.lemmas.Option.{none-some, same_Some}
use Rattle.std.proofs.Common.{is_some}
use Rattle.kfifo_linear.proofs.Abstract.{noted_tells, words_by}
use Rattle.kfifo_linear.proofs.Base.{Sane, filled_with-value}
use Rattle.kfifo_linear.proofs.Claims.{EndsChange, at_load, ends_change}
use Rattle.kfifo_linear.proofs.Invariant.{AtTail, Calls, Fits, FullOk, GoneOk, InsideOk, SlotOk}
use Rattle.kfifo_linear.proofs.Invariant.{StoodOk, ThreadOk, Times, TookOk, is_gone}
use Rattle.kfifo_linear.proofs.Slots.{at_head_stays, at_tail_stays, settled_old}
use Rattle.kfifo_linear.proofs.Threads.{Slots}
use Rattle.kfifo_linear.specs.Ledger.{Gone, Inside, Ledger, Outside, Stood, Took, found_in, gone_point, item_of}
use Rattle.kfifo_linear.specs.Ledger.{stepped, took_point}
use Rattle.kfifo_machine.proofs.NoWrap.{EndsOk, same_end}
use Rattle.kfifo_machine.specs.Places.{IsSlotIndex}
use Rattle.kfifo_machine.specs.Program.{access, advance}
use Rattle.kfifo_machine.specs.declared.place.Next.TheVariants.{Answers}
use Rattle.kfifo_linear.proofs.Types.{Answer, Running, Shape}
use Rattle.kfifo_words.specs.Words.{head_of, tail_of, value_of}
use Rattle.kfifo_linear.proofs.Standings.{Stands, Takes, above, ended_fits, gone_at_tail, gone_ended, gone_started}
use Rattle.kfifo_linear.proofs.Standings.{inside_gone, inside_outside, none_settled_now, settle_point_late}
use Rattle.kfifo_linear.proofs.Standings.{took_at_head, took_started}

module _ (shape : Shape) (w : ℕ → ℕ) (l : Ledger) (t : ℕ) (r : Running) (s : Sane shape r)
    (ok : EndsOk shape (w 0) l.head l.tail)
    (me : ThreadOk shape w l t r) (times : Times l) (all : Slots shape w l) where
  -- whose item was taken before, or is now
  pub standing_gone : (c i v p : ℕ) → (stepped shape w t r l).standing c ≡ Gone i v p → (l.standing c ≡ Gone i v p)
      ⊎ (Takes shape w l (stepped shape w t r l) t i × IsSlotIndex shape i × (c ≡ l.owner i) × (v ≡ l.head_seen t)
      × (p ≡ gone_point l i v))
  unfolding stepped
  standing_gone c i v p e = let f = me.fresh in let g = me.target in let rd = me.round in
      grind (arith, nat_tests, noted_tells)

  standing_took : (c o v p : ℕ) → (stepped shape w t r l).standing c ≡ Took o v p → (l.standing c ≡ Took o v p)
      ⊎ ((i : ℕ) × Takes shape w l (stepped shape w t r l) t i × (c ≡ l.caller t) × (o ≡ l.owner i)
      × (v ≡ l.head_seen t)
      × (p ≡ took_point l v) × (at_load r ≡ false))
  unfolding stepped
  standing_took c o v p e = let f = me.fresh in let g = me.target in let rd = me.round in
      grind (arith, nat_tests, noted_tells)

  standing_stood : (c v p : ℕ) → (stepped shape w t r l).standing c ≡ Stood v p → (l.standing c ≡ Stood v p)
      ⊎ (Stands w r × (c ≡ l.caller t) × (v ≡ l.head) × (p ≡ l.now) × (l.tail ≡ l.head)
      × ((stepped shape w t r l).head ≡ l.head)
      × ((stepped shape w t r l).tail ≡ l.tail))
  unfolding stepped
  standing_stood c v p e = let f = me.fresh in let same = same_end shape (w 0) l.head l.tail ok in
      grind (arith, nat_tests, noted_tells)

  standing_inside : (c i : ℕ) → (l.standing c ≡ Inside i → InsideOk shape w l c i) → (stepped shape w t r l).standing c
      ≡ Inside i
      → InsideOk shape (words_by (access shape r) w) (stepped shape w t r l) c i
  unfolding stepped
  standing_inside c i old e = let own = me.own in let f = me.fresh in
      grind (arith, nat_tests, noted_tells, filled_with-value)

  untaken_rises : (i : ℕ) → IsSlotIndex shape i → l.untaken_from i ≤ l.tail_at_load i ⊎ (value_of (w i) ≡ 0)
      → l.untaken_from i ≤ (stepped shape w t r l).untaken_from i
  unfolding stepped
  untaken_rises i is_slot lb = let g = me.target in grind (arith, nat_tests, noted_tells)

  ch : EndsChange w (words_by (access shape r) w) l (stepped shape w t r l)
  ch = ends_change shape w l t r s ok

  next_now : (stepped shape w t r l).now ≡ l.now + 1
  unfolding stepped
  next_now = refl

  old_last : (c : ℕ) → ((stepped shape w t r l).last c ≡ l.last c)
      ⊎ (((stepped shape w t r l).last c ≡ Some l.now) × (c ≡ l.caller t))
  unfolding stepped
  old_last c = grind (arith, nat_tests, noted_tells)

  -- a place that was in time stays so
  ended_stays : (c p : ℕ) → p < l.now → ((e : ℕ) → l.last c ≡ Some e → p ≤ e) → (e : ℕ) → (stepped shape w t r l).last c
      ≡ Some e → p ≤ e
  ended_stays c p past h e f = elim (old_last c) [
    | inl k ↦ h e (sym k ∙ f)
    | inr k ↦ let z : l.now ≡ e = same_Some l.now e (sym k.0 ∙ f) in omega arith
  ]

  first_stays : (c p : ℕ) → l.first c ≤ p → (stepped shape w t r l).first c ≤ p
  unfolding stepped
  first_stays c p h = h

  untaken_or_empty : (i : ℕ) → SlotOk shape w l i → l.untaken_from i ≤ l.tail_at_load i ⊎ (value_of (w i) ≡ 0)
  untaken_or_empty i here = elim (cases_eq (value_of (w i)) 0) [
    | inl e ↦ inr e
    | inr ne ↦ inl (here.full ne).untaken_to_load
  ]

  gone_stays : (c i v p : ℕ) → GoneOk shape l c i v p → SlotOk shape w l i
      → GoneOk shape (stepped shape w t r l) c i v p
  gone_stays c i v p h here =
      record {
        is_slot = h.is_slot;
        place = h.place;
        at_tail = at_tail_stays w (words_by (access shape r) w) l (stepped shape w t r l) v p ch next_now h.at_tail;
        started = first_stays c p h.started;
        ended = ended_stays c p h.at_tail.past h.ended;
        under = omega (arith, h.under, untaken_rises i h.is_slot (untaken_or_empty i here));
      }

  gone_begins : (i : ℕ) → IsSlotIndex shape i → Takes shape w l (stepped shape w t r l) t i → SlotOk shape w l i
      → GoneOk shape (stepped shape w t r l) (l.owner i) i (l.head_seen t) (gone_point l i (l.head_seen t))
  unfolding gone_point stepped
  gone_begins i is_slot k here =
      let f : FullOk shape l i = here.full k.full in
      record {
        is_slot = is_slot;
        place = k.place;
        at_tail = gone_at_tail shape w (words_by (access shape r) w) l (stepped shape w t r l) t i
            (omega (arith, shape.some_segments)) ch next_now times k here;
        started = gone_started shape w l t (stepped shape w t r l) i k here;
        ended = λ e g. elim (old_last (l.owner i)) [
          | inl z ↦ gone_ended shape w l t i e here k.full (sym z ∙ g)
          | inr z ↦ absurd (inside_outside i (sym k.inside ∙ ap l.standing z.1 ∙ k.fresh))
        ];
        under = omega (arith, k.untaken);
      }

  -- an item that was taken stays so
  gone_kept : (c : ℕ) → is_gone (l.standing c) ≡ true → (stepped shape w t r l).standing c ≡ l.standing c
  unfolding stepped
  gone_kept c g = let own = me.own in let f = me.fresh in grind (arith, nat_tests, noted_tells)

  answer_kept : (c : ℕ) → is_some (l.answer c) ≡ true → is_some ((stepped shape w t r l).answer c) ≡ true
  unfolding stepped
  answer_kept c h = grind (arith, nat_tests, noted_tells)

  took_kept : (d o v q : ℕ) → l.standing d ≡ Took o v q → (stepped shape w t r l).standing d ≡ Took o v q
  unfolding stepped
  took_kept d o v q e = let own = me.own in let f = me.fresh in grind (arith, nat_tests, noted_tells)

  took_stays : (c o v p : ℕ) → TookOk l c o v p → TookOk (stepped shape w t r l) c o v p
  took_stays c o v p h =
      record {
        at_head = at_head_stays w (words_by (access shape r) w) l (stepped shape w t r l) v p ch next_now h.at_head;
        started = first_stays c p h.started;
        ended = ended_stays c p h.at_head.past h.ended;
        gone = rw (gone_kept o h.gone) h.gone;
        same_visit = rw (gone_kept o h.gone) h.same_visit;
        finished = answer_kept c h.finished;
      }

  took_begins : (i : ℕ) → at_load r ≡ false → Takes shape w l (stepped shape w t r l) t i
      → TookOk (stepped shape w t r l) (l.caller t) (l.owner i) (l.head_seen t) (took_point l (l.head_seen t))
  took_begins i ld k =
      record {
        at_head = took_at_head shape w (words_by (access shape r) w) l (stepped shape w t r l) t i ch next_now times k;
        started = first_stays (l.caller t) (took_point l (l.head_seen t)) (took_started l t me.started (me.round ld));
        ended = λ e g. let z : l.now ≡ e = same_Some l.now e (sym k.last ∙ g) in
            omega (
              arith,
              (took_at_head shape w (words_by (access shape r) w) l (stepped shape w t r l) t i ch next_now times
                  k).past,
              next_now,
            );
        gone = rw k.gone refl;
        same_visit = rw k.gone refl;
        finished = k.answer;
      }

  -- a taken item's place is not before a place at which the tail was in an earlier or the same visit, where its own is
  -- not
  taken_later : (i v p : ℕ) → Takes shape w l (stepped shape w t r l) t i → AtTail l v p
      → (l.settled i ≡ true → p < l.point i)
      → ((y : ℕ) → y < l.tail → l.tails y ≢ p) → gone_point l i (l.head_seen t) ≤ p → l.head_seen t < v
  unfolding gone_point
  taken_later i v p k at late apart before =
      elim (cases_lt (l.head_seen t) v) [
        | inl lt ↦ lt
        | inr ge ↦
            let far : p < l.tails (l.head_seen t) =
            above (l.tails (l.head_seen t)) p (apart (l.head_seen t) k.past) (elim (cases_eq v (l.head_seen t)) [
              | inl q ↦ omega (arith, ap l.tails q, at.before (omega (arith, q, k.past)))
              | inr q ↦ omega (
                arith,
                at.before (omega (arith, k.past)),
                times.tails_rise v (l.head_seen t)
                    (omega arith) k.past,
              )
            ]) in
            elim (cases_Bool (l.settled i)) [
              | inl e ↦ let b : min (l.point i) (l.tails (l.head_seen t)) ≤ p = (rw e at before) in
                  absurd (omega (arith, late e))
              | inr e ↦ let b : l.tails (l.head_seen t) ≤ p = (rw e at before) in absurd (omega arith)
            ]
      ]

  -- an item that is settled now has a later place than one at which the head had not come further than its visit
  settled_later : (i v p : ℕ) → v ≤ l.head → AtTail l v p → (l.settled i ≡ true → p < l.point i)
      → ((y : ℕ) → y < l.tail → l.tails y ≢ p)
      → (here : SlotOk shape w l i) → IsSlotIndex shape i
      → SlotOk shape (words_by (access shape r) w) (stepped shape w t r l) i
      → (stepped shape w t r l).settled i ≡ true → p < (stepped shape w t r l).point i
  settled_later i v p va at late apart here is_slot after e =
      elim (settled_old shape w l t r s ok me times all i is_slot here e) [
        | inl k ↦ omega (arith, late k.0, k.2)
        | inr k ↦
            let from : l.head ≤ (stepped shape w t r l).visit i =
            omega (arith, (after.settled e).from_head, ch.head_rise) in
            rw k.1 (settle_point_late l v p ((stepped shape w t r l).visit i) times at apart (omega arith))
      ]

  stood_stays : (c v p : ℕ) → StoodOk shape l c v p → ((i : ℕ) → IsSlotIndex shape i → SlotOk shape w l i)
      → ((i : ℕ) → IsSlotIndex shape i → SlotOk shape (words_by (access shape r) w) (stepped shape w t r l) i)
      → StoodOk shape (stepped shape w t r l) c v p
  stood_stays c v p h here after =
      record {
        at_tail = at_tail_stays w (words_by (access shape r) w) l (stepped shape w t r l) v p ch next_now h.at_tail;
        head_reached = omega (arith, h.head_reached, ch.head_rise);
        head_after = λ z. omega (arith, h.head_after z, ch.heads_kept (v - 1) (omega (arith, h.head_reached)));
        head_before = λ z. elim (cases_lt v l.head) [
          | inl lt ↦ omega (arith, h.head_before lt, ch.heads_kept v lt)
          | inr ge ↦ omega (arith, h.at_tail.past, ch.heads_new v ge z)
        ];
        started = first_stays c p h.started;
        ended = λ e f. elim (old_last c) [
          | inl k ↦ h.ended e (sym k ∙ f)
          | inr k ↦ absurd (false≢true (sym (ap is_some (ap l.answer k.1 ∙ me.unanswered)) ∙ h.finished))
        ];
        finished = answer_kept c h.finished;
        none_gone = λ d i u q e z. elim (standing_gone d i u q e) [
          | inl k ↦ h.none_gone d i u q k z
          | inr k ↦
              let b : gone_point l i (l.head_seen t) ≤ p = omega (arith, z, k.4, ap (gone_point l i) k.3) in
              omega (arith, k.3, taken_later i v p k.0 h.at_tail (h.none_settled i k.1) h.no_tail b)
        ];
        none_settled = λ i is_slot e. settled_later i v p h.head_reached h.at_tail (h.none_settled i is_slot) h.no_tail
            (here i is_slot) is_slot (after i is_slot) e;
        no_tail = λ x z y. elim (cases_lt x l.tail) [
          | inl lt ↦ h.no_tail x lt (sym (ch.tails_kept x lt) ∙ y)
          | inr ge ↦ absurd (omega (arith, h.at_tail.past, ch.tails_new x ge z, y))
        ];
      }

  -- nothing else happens then
  stands_alone : Stands w r → (i : ℕ) → ((stepped shape w t r l).settled i ≡ l.settled i)
      × ((d u q : ℕ) → (stepped shape w t r l).standing d ≡ Gone i u q → l.standing d ≡ Gone i u q)
  unfolding stepped
  stands_alone st i = grind (arith, nat_tests, noted_tells)

  stands_answer : Stands w r → l.tail ≡ l.head → is_some ((stepped shape w t r l).answer (l.caller t)) ≡ true
  unfolding stepped
  stands_answer st same =
      let h : tail_of (w 0) ≡ head_of (w 0) = ok.tail ∙ ap (λ x. x % shape.n) same ∙ sym ok.head in
      grind (arith, nat_tests, noted_tells)

  stood_begins : Stands w r → l.tail ≡ l.head → (stepped shape w t r l).head ≡ l.head
      → (stepped shape w t r l).tail ≡ l.tail
      → ((i : ℕ) → IsSlotIndex shape i → SlotOk shape w l i)
      → ((c i v p : ℕ) → l.standing c ≡ Gone i v p → GoneOk shape l c i v p)
      → StoodOk shape (stepped shape w t r l) (l.caller t) l.head l.now
  stood_begins st same a b here gone =
      record {
        at_tail = record {
          reached = omega arith;
          after = λ z. omega (
            arith,
            times.tails_past (l.head - 1) (omega arith),
            ch.tails_kept (l.head - 1)
                (omega arith),
          );
          before =
              λ z. absurd (omega arith);
          past = omega (arith, next_now);
        };
        head_reached = omega arith;
        head_after =
            λ z. omega (arith, times.heads_past (l.head - 1) (omega arith), ch.heads_kept (l.head - 1) (omega arith));
        head_before = λ z. absurd (omega arith);
        started = first_stays (l.caller t) l.now me.started;
        ended = λ e g. elim (old_last (l.caller t)) [
          | inl k ↦ absurd (none-some e (sym me.unended ∙ sym k ∙ g))
          | inr k ↦ same_Some l.now e (sym k.0 ∙ g)
        ];
        finished = stands_answer st same;
        none_gone = λ d i u q e z.
            let k : GoneOk shape l d i u q = gone d i u q ((stands_alone st i).1 d u q e) in
            omega (arith, k.under, (here i k.is_slot).untaken_to_tail);
        none_settled = λ i is_slot e. absurd (false≢true
            (sym (none_settled_now shape w l i r shape.some_slot is_slot ok same s me.clear st (here i is_slot))
            ∙ sym ((stands_alone st i).0) ∙ e));
        no_tail = λ x z y. let lt : x < l.tail = omega arith in
            absurd (omega (arith, times.tails_past x lt, ch.tails_kept x lt, y));
      }

  next_begin : (stepped shape w t r l).begin ≡ l.begin
  unfolding stepped
  next_begin = refl

  next_calls : (stepped shape w t r l).calls ≡ l.calls
  unfolding stepped
  next_calls = refl

  standing_later : (c : ℕ) → l.standing c ≡ Outside → l.calls ≤ c → (stepped shape w t r l).standing c ≡ Outside
  unfolding stepped
  standing_later c o z = let k = me.known in let own = me.own in grind (arith, nat_tests, noted_tells)

  taken_apart : (i v p : ℕ) (c : ℕ) → Takes shape w l (stepped shape w t r l) t i → SlotOk shape w l i
      → GoneOk shape l c i v p
      → v ≡ l.head_seen t → ⊥
  taken_apart i v p c k here h e = omega (arith, h.under, (here.full k.full).untaken_to_load, k.loaded)

  -- an answer says where its call stands
  own_answered : ((i : ℕ) → 0 < i → i < 1 + shape.n * shape.k → value_of (w i) ≢ 0 → item_of (l.begin (l.owner i))
      ≡ value_of (w i))
      → (x : Answer) → advance shape r (found_in shape w r) ≡ Answers x
      → Fits l.begin x ((stepped shape w t r l).standing (l.caller t))
  unfolding stepped
  own_answered items x e = ended_fits shape w l t r s me.own me.fresh items x e

  -- where the others' answers say
  other_answered : (c : ℕ) (x : Answer) → (c ≡ l.caller t → ⊥) → Fits l.begin x (l.standing c)
      → Fits l.begin x ((stepped shape w t r l).standing c)
  unfolding stepped
  other_answered c x ne h = grind (arith, nat_tests, noted_tells)

  answer_old : (c : ℕ) → ((stepped shape w t r l).answer c ≡ l.answer c) × ((stepped shape w t r l).last c ≡ l.last c)
      ⊎ ((c ≡ l.caller t) × ((x : Answer) × (advance shape r (found_in shape w r) ≡ Answers x)
      × ((stepped shape w t r l).answer c ≡ Some x)
      × ((stepped shape w t r l).last c ≡ Some l.now)))
  unfolding stepped
  answer_old c = grind (arith, nat_tests, noted_tells)

  calls_answered : ((i : ℕ) → IsSlotIndex shape i → SlotOk shape w l i) → Calls shape w l → (c : ℕ) (x : Answer)
      → (stepped shape w t r l).answer c ≡ Some x
      → Fits (stepped shape w t r l).begin x ((stepped shape w t r l).standing c)
  calls_answered here h c x e = elim (answer_old c) [
    | inr k ↦
        let y : k.1.0 ≡ x = same_Some k.1.0 x (sym k.1.2 ∙ e) in
        rw (k.0, next_begin, ← y) (own_answered (λ i a b v. (here i (record {
          above = a;
          below = b;
        })).item v) k.1.0 k.1.1)
    | inl k ↦
        let g : l.answer c ≡ Some x = sym k.0 ∙ e in
        rw next_begin (other_answered c x (λ z. none-some x (sym me.unanswered ∙ ap l.answer (sym z) ∙ g))
        (h.answered c x g))
  ]

  pub calls_stay : ((i : ℕ) → IsSlotIndex shape i → SlotOk shape w l i)
      → ((i : ℕ) → IsSlotIndex shape i → SlotOk shape (words_by (access shape r) w) (stepped shape w t r l) i)
      → Calls shape w l
      → Calls shape (words_by (access shape r) w) (stepped shape w t r l)
  calls_stay here after h =
      record {
        later = λ c z. let y : l.calls ≤ c = omega (arith, z, next_calls) in standing_later c (h.later c y) y;
        inside = λ c i e. standing_inside c i (h.inside c i) e;
        gone = λ c i v p e. elim (standing_gone c i v p e) [
          | inl k ↦ gone_stays c i v p (h.gone c i v p k) (here i (h.gone c i v p k).is_slot)
          | inr k ↦ rw (k.2, k.4, k.3) (gone_begins i k.1 k.0 (here i k.1))
        ];
        took = λ c o v p e. elim (standing_took c o v p e) [
          | inl k ↦ took_stays c o v p (h.took c o v p k)
          | inr k ↦ rw (k.2, k.5, k.4, k.3) (took_begins k.0 k.6 k.1)
        ];
        stood = λ c v p e. elim (standing_stood c v p e) [
          | inl k ↦ stood_stays c v p (h.stood c v p k) here after
          | inr k ↦ rw (k.1, k.2, k.3) (stood_begins k.0 k.4 k.5 k.6 here h.gone)
        ];
        answered = λ c x e. calls_answered here h c x e;
        ended = λ c e f. elim (answer_old c) [
          | inl k ↦ rw k.0 (h.ended c e (sym k.1 ∙ f))
          | inr k ↦ rw k.1.2 refl
        ];
        lasts = λ c e f. elim (old_last c) [
          | inl k ↦ let g = h.lasts c e (sym k ∙ f) in (first_stays c e g.0, omega (arith, g.1, next_now))
          | inr k ↦
              let z : l.now ≡ e = same_Some l.now e (sym k.0 ∙ f) in
              (rw k.1 (first_stays (l.caller t) e (omega (arith, me.started))), omega (arith, next_now))
        ];
        unended = λ c f. elim (answer_old c) [
          | inl k ↦ k.0 ∙ h.unended c (sym k.1 ∙ f)
          | inr k ↦ absurd (none-some l.now (sym f ∙ k.1.3))
        ];
        apart = λ c d i v p u q e f g. elim (standing_gone c i v p e) [
          | inl k ↦ elim (standing_gone d i u q f) [
            | inl m ↦ h.apart c d i v p u q k m g
            | inr m ↦ absurd (taken_apart i v p c m.0 (here i m.1) (h.gone c i v p k) (g ∙ m.3))
          ]
          | inr k ↦ elim (standing_gone d i u q f) [
            | inl m ↦ absurd (taken_apart i u q d k.0 (here i k.1) (h.gone d i u q m) (sym g ∙ k.3))
            | inr m ↦ k.2 ∙ sym m.2
          ]
        ];
        taker = λ c i v p e. elim (standing_gone c i v p e) [
          | inl k ↦ let g = h.taker c i v p k in (g.0, (g.1.0, took_kept g.0 c v g.1.0 g.1.1))
          | inr k ↦ (l.caller t, (took_point l (l.head_seen t), rw (k.2, k.3) k.0.took))
        ];
        once = λ c d o v p u q e f. elim (standing_took c o v p e) [
          | inl k ↦ elim (standing_took d o u q f) [
            | inl m ↦ h.once c d o v p u q k m
            | inr m ↦ absurd (inside_gone m.0 (sym m.1.inside ∙ ap l.standing (sym m.3)) (h.took c o v p k).gone)
          ]
          | inr k ↦ elim (standing_took d o u q f) [
            | inl m ↦ absurd (inside_gone k.0 (sym k.1.inside ∙ ap l.standing (sym k.3)) (h.took d o u q m).gone)
            | inr m ↦ k.2 ∙ sym m.2
          ]
        ];
      }
