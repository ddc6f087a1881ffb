-- A stretch in which no call ends: each visit that the tail left in it, and that the head left too, is charged to a
-- thread, and of n visits that follow each other a thread is charged with one at most.
use Rattle.std.proofs.Common.{◌≡◌, ◌≢◌, ℕ, ◌+◌, ◌*◌, ◌%◌, ◌<◌, ◌≤◌, ◌⊎◌, inl, inr, Bool, true, false, refl, sym, ◌∙◌}
use Rattle.std.proofs.Common.{ap, subst, arith, Option, Some, None, is_some}
use Rattle.std.proofs.lemmas.Bool.{cases_eq, cases_lt, false≢true}
use Rattle.std.proofs.lemmas.Bool.Decides.{nat_tests}
use Rattle.std.proofs.lemmas.Option.{none-some, same_Some}
use Rattle.kfifo_linear.proofs.Types.{Running, Shape}
use Rattle.kfifo_machine.specs.declared.place.DequeuePhase.TheVariants as D
use Rattle.kfifo_machine.specs.declared.place.EnqueuePhase.TheVariants as E
use Rattle.kfifo_machine.specs.declared.place.Running.TheVariants as R
use Rattle.kfifo_linear.proofs.Abstract.{noted-other, noted-same, noted_tells, words_by}
use Rattle.kfifo_linear.proofs.Base.{Sane}
use Rattle.kfifo_linear.proofs.Claims.{EndsChange, Loaded, at_load, ends_change, segment_of}
use Rattle.kfifo_linear.proofs.Invariant.{HasOwn}
use Rattle.kfifo_linear.proofs.Ring.{place_below}
use Rattle.kfifo_linear.proofs.Threads.{goes_at}
use Rattle.kfifo_linear.proofs.Slots.{MovesHead, moves_head}
use Rattle.kfifo_linear.specs.Ledger.{Ledger, found_in, noted, stepped}
use Rattle.kfifo_machine.proofs.NoWrap.{EndsOk, full_ring, other_end}
use Rattle.kfifo_machine.specs.Machine.{place_after}
use Rattle.kfifo_machine.specs.Places.{IsSlotIndex}
use Rattle.kfifo_machine.specs.Program.{access, advance}
use Rattle.kfifo_progress.proofs.Counting.{pigeonhole}
use Rattle.kfifo_progress.proofs.Kept.{Every, Kept, charge_after, goes, goes_quiet, grows, quiet, keeps, undo_place}
use Rattle.kfifo_progress.proofs.Kept.{undo_visit}
use Rattle.kfifo_progress.proofs.Charges.{HasKept, HasKept-others, own_kept}
use Rattle.kfifo_progress.proofs.Undos.{HasPassed, Undos}

-- a stretch that began when the tail was in visit `from`. A thread may have a second name, threads more than its
-- number, with which it is charged once, when it is no longer old
pub record Stretch (shape : Shape) (threads names from : ℕ) (old : ℕ → Bool) (w : ℕ → ℕ) (p : ℕ → Option Running)
    (l : Ledger) (charge : ℕ → Option ℕ) : Type 0 where
  pub kept : (v : ℕ) → from < v → l.head ≤ v → v < l.tail → Kept shape w charge Every v
  pub charged : (v : ℕ) → from < v → v < l.head → is_some (charge v) ≡ true
  pub looks : (t : ℕ) (r : Running) → p t ≡ Some r → HasKept shape from w l charge r
  pub to_tail : (v t : ℕ) → charge v ≡ Some t → v ≤ l.tail
  pub to_round : (v t : ℕ) (r : Running) → charge v ≡ Some t → p t ≡ Some r → at_load r ≡ false → v ≤ l.tail_seen t
  pub apart : (v u t : ℕ) → charge v ≡ Some t → charge u ≡ Some t → v < u → v + shape.n ≤ u
  pub within : (v t : ℕ) → charge v ≡ Some t → t < names
  pub second : (v t : ℕ) → charge v ≡ Some (threads + t) → old t ≡ false

-- the visit with which a step charges its thread
abbrev visit_by : Shape → (ℕ → ℕ) → Ledger → Running → ℕ
visit_by shape w l (R.Enqueue item start left (E.Undo index filled worn)) = undo_visit shape w l index
visit_by shape w l other = 0

-- a new charge: its thread began its round a lap of the ring before, and begins the next one
record New (shape : Shape) (w : ℕ → ℕ) (l : Ledger) (t : ℕ) (r : Running) (v x : ℕ) : Type 0 where
  thread : x ≡ t
  to_tail : v ≤ l.tail
  from_round : l.tail_seen t + shape.n ≤ v
  visit : v ≡ visit_by shape w l r
  loaded : at_load r ≡ false
  again : (q : Running) → place_after (advance shape r (found_in shape w r)) ≡ Some q → at_load q ≡ true

undo_goes : (shape : Shape) (item start left index filled word : ℕ)
    → goes (advance shape (R.Enqueue item start left (E.Undo index filled false)) word) ≡ true → (word ≡ filled)
    × (left ≢ 1)
undo_goes shape item start left index filled word calm = grind (arith, nat_tests)

undo_again : (shape : Shape) (item start left index filled word : ℕ) (q : Running)
    → place_after (advance shape (R.Enqueue item start left (E.Undo index filled false)) word) ≡ Some q
    → at_load q ≡ true
undo_again shape item start left index filled word q f = grind (arith, nat_tests)

module _ (shape : Shape) (w : ℕ → ℕ) (l : Ledger) (t : ℕ) (charge : ℕ → Option ℕ)
    (ok : EndsOk shape (w 0) l.head l.tail) where
  undo_charges : (item start left index filled v x : ℕ)
      → goes (advance shape (R.Enqueue item start left (E.Undo index filled false)) (w index)) ≡ true
      → (left ≢ 1 → l.tail_seen t < l.head) → IsSlotIndex shape index → segment_of shape index ≡ l.tail_seen t % shape.n
      → charge_after shape w l t (R.Enqueue item start left (E.Undo index filled false)) charge v ≡ Some x
      → (charge v ≡ Some x) ⊎ New shape w l t (R.Enqueue item start left (E.Undo index filled false)) v x
  undo_charges item start left index filled v x calm passed is_slot place e =
      let k = undo_goes shape item start left index filled (w index) calm in
      elim (cases_eq v (undo_visit shape w l index)) [
        | inr ne ↦ inl (sym (not_charged item start left index filled v (inl ne)) ∙ e)
        | inl at ↦ elim (cases_lt l.tail v) [
          | inl above ↦ inl (sym (not_charged item start left index filled v (inr above)) ∙ e)
          | inr below ↦
              let p = undo_place shape w l t charge ok index is_slot in
              let old : l.tail_seen t < l.head = passed k.1 in
              inr (record {
                thread = sym (same_Some t x (sym (is_charged item start left index filled v k.0 at below) ∙ e));
                to_tail = below;
                from_round = a_lap (l.tail_seen t) v (omega (arith, at, p.1)) (ap (λ z. z % shape.n) at ∙ p.0 ∙ place);
                visit = at;
                loaded = refl;
                again = λ q f. undo_again shape item start left index filled (w index) q f;
              })
        ]
      ]
    where
      not_charged : (item start left index filled v : ℕ) → ((v ≡ undo_visit shape w l index → ⊥) ⊎ (l.tail < v))
          → charge_after shape w l t (R.Enqueue item start left (E.Undo index filled false)) charge v ≡ charge v
      not_charged item start left index filled v h = grind (arith, nat_tests, noted_tells)

      is_charged : (item start left index filled v : ℕ) → w index ≡ filled → v ≡ undo_visit shape w l index → v ≤ l.tail
          → charge_after shape w l t (R.Enqueue item start left (E.Undo index filled false)) charge v ≡ Some t
      is_charged item start left index filled v won at below = grind (arith, nat_tests, noted_tells)

      a_lap : (a v : ℕ) → a < v → v % shape.n ≡ a % shape.n → a + shape.n ≤ v
      a_lap a v above e = elim (cases_lt v (a + shape.n)) [
        | inl lt ↦ absurd (omega (arith, place_below shape.n a v lt e))
        | inr ge ↦ ge
      ]

  charge_tells : (r : Running) → Sane shape r → goes (advance shape r (found_in shape w r)) ≡ true → HasPassed l t r
      → HasOwn shape w l t r
      → (v x : ℕ) → charge_after shape w l t r charge v ≡ Some x → (charge v ≡ Some x) ⊎ New shape w l t r v x
  charge_tells (R.Enqueue item start left (E.Undo index filled false)) s calm passed own v x e =
      undo_charges item start left index filled v x calm passed s.3.0 own.place e
  charge_tells (R.Enqueue item start left (E.Undo index filled true)) s calm passed own v x e =
      absurd (grind (arith, nat_tests))
  charge_tells r s calm passed own v x e = inl e

-- what a step does to head and tail
module _ (shape : Shape) (w : ℕ → ℕ) (l : Ledger) (t : ℕ) (r : Running) where
  pub moves_one : (((stepped shape w t r l).head ≡ l.head) ⊎ ((stepped shape w t r l).head ≡ l.head + 1))
      × (((stepped shape w t r l).tail ≡ l.tail) ⊎ ((stepped shape w t r l).tail ≡ l.tail + 1))
  unfolding stepped
  moves_one = grind (arith, nat_tests)

  pub seen_after : (at_load r ≡ false → (stepped shape w t r l).tail_seen t ≡ l.tail_seen t)
      × (at_load r ≡ true → (stepped shape w t r l).tail_seen t ≡ l.tail)
  unfolding stepped
  seen_after = grind (arith, nat_tests, noted_tells)

  pub others_seen : (u : ℕ) → u ≢ t → (stepped shape w t r l).tail_seen u ≡ l.tail_seen u
  unfolding stepped
  others_seen u ne = grind (arith, nat_tests, noted-other)

abbrev MovesTail : (ℕ → ℕ) → Running → Type 0
MovesTail w (R.Enqueue item start left (E.MoveTail ends)) = w 0 ≡ ends
MovesTail w (R.Dequeue start left (D.MoveTail ends index filled)) = w 0 ≡ ends
MovesTail w other = ⊥

moves_tail : (shape : Shape) (w : ℕ → ℕ) (l : Ledger) (t : ℕ) (r : Running) → (stepped shape w t r l).tail ≢ l.tail
    → MovesTail w r
unfolding stepped
moves_tail shape w l t r e = grind (arith, nat_tests)

-- a thread that moves the tail keeps the visit that the tail leaves
tail_left : (shape : Shape) (from : ℕ) (w : ℕ → ℕ) (l : Ledger) (charge : ℕ → Option ℕ) (r : Running)
    → HasKept shape from w l charge r → MovesTail w r → from < l.tail → Kept shape w charge Every l.tail
tail_left shape from w l charge (R.Enqueue item start left (E.MoveTail ends)) mine moves f = mine moves f
tail_left shape from w l charge (R.Dequeue start left (D.MoveTail ends index filled)) mine moves f = mine moves f
tail_left shape from w l charge r mine moves f = absurd moves

-- and one that moves the head knows that the visit which the head leaves is charged
head_left : (shape : Shape) (from : ℕ) (w : ℕ → ℕ) (l : Ledger) (charge : ℕ → Option ℕ) (r : Running)
    → EndsOk shape (w 0) l.head l.tail → Sane shape r → HasKept shape from w l charge r → MovesHead w r → from < l.head
    → is_some (charge l.head) ≡ true
head_left shape from w l charge (R.Enqueue item start left (E.MoveHead ends)) ok s mine moves f =
    mine moves f (omega (arith, full_ring shape (w 0) l.head l.tail ok (rw moves s.3), shape.some_segments))
head_left shape from w l charge (R.Dequeue start left (D.MoveHead ends)) ok s mine moves f =
    mine moves f (other_end shape (w 0) l.head l.tail ok (rw moves s.1))
head_left shape from w l charge r ok s mine moves f = absurd moves

module _ (shape : Shape) (threads from : ℕ) (w : ℕ → ℕ) (p : ℕ → Option Running) (l : Ledger) (t : ℕ) (r : Running)
    (charge : ℕ → Option ℕ)
    (h : Undos shape w p l) (e : p t ≡ Some r) (in_range : t < threads) (names name : ℕ) (aged : ℕ → Bool)
    (calm : quiet (advance shape r (found_in shape w r)) ≡ true)
    (old : Stretch shape threads names from aged w p l charge) where
  s : Sane shape r
  s = h.inv.base.sane t r e

  ok : EndsOk shape (w 0) l.head l.tail
  ok = h.inv.base.ends

  change : EndsChange w (words_by (access shape r) w) l (stepped shape w t r l)
  change = ends_change shape w l t r s ok

  keep : (Slots : ℕ → Type 0) (v : ℕ) → l.head ≤ v → v ≤ l.tail → Kept shape w charge Slots v
      → Kept shape (words_by (access shape r) w) (charge_after shape w l name r charge) Slots v
  keep Slots v a b k = keeps shape w l name charge ok r Slots v s calm a b k

  grow : (v : ℕ) → is_some (charge v) ≡ true → is_some (charge_after shape w l name r charge v) ≡ true
  grow v k = grows shape w l name charge ok r v k

  step_kept : (v : ℕ) → from < v → (stepped shape w t r l).head ≤ v → v < (stepped shape w t r l).tail
      → Kept shape (words_by (access shape r) w) (charge_after shape w l name r charge) Every v
  step_kept v f a b =
      let from_head : l.head ≤ v = omega (arith, a, change.head_rise) in
      elim (cases_lt v l.tail) [
        | inl lt ↦ keep Every v from_head (omega arith) (old.kept v f from_head lt)
        | inr ge ↦ elim (moves_one shape w l t r).1 [
          | inl same ↦ absurd (omega (arith, b, same))
          | inr on ↦
              let at : l.tail ≡ v = omega (arith, b, on) in
              let m : MovesTail w r = moves_tail shape w l t r (λ z. omega (arith, z, on)) in
              subst (Kept shape (words_by (access shape r) w) (charge_after shape w l name r charge) Every) at
              (keep Every l.tail ok.ordered (omega arith)
              (tail_left shape from w l charge r (old.looks t r e) m (omega (arith, at))))
        ]
      ]

  step_charged : (v : ℕ) → from < v → v < (stepped shape w t r l).head
      → is_some (charge_after shape w l name r charge v) ≡ true
  step_charged v f b =
      elim (cases_lt v l.head) [
        | inl lt ↦ grow v (old.charged v f lt)
        | inr ge ↦ elim (moves_one shape w l t r).0 [
          | inl same ↦ absurd (omega (arith, b, same))
          | inr on ↦
              let at : l.head ≡ v = omega (arith, b, on) in
              let m : MovesHead w r = moves_head shape w l t r (λ z. omega (arith, z, on)) in
              subst (λ x. is_some (charge_after shape w l name r charge x) ≡ true) at
              (grow l.head (head_left shape from w l charge r ok s (old.looks t r e) m (omega (arith, at))))
        ]
      ]

  others_same : (u ends : ℕ) → Loaded shape w l u ends → words_by (access shape r) w 0 ≡ ends
      → (w 0 ≡ ends) × ((stepped shape w t r l).head ≡ l.head) × ((stepped shape w t r l).tail ≡ l.tail)
  others_same u ends ld f =
      let z : words_by (access shape r) w 0 ≡ w 0 = omega (arith, ld.below, change.rise) in
      (sym z ∙ f, change.head_kept z, change.tail_kept z)

  step_looks : ((q : Running) → place_after (advance shape r (found_in shape w r)) ≡ Some q
      → HasKept shape from (words_by (access shape r) w) (stepped shape w t r l)
      (charge_after shape w l name r charge) q)
      → (u : ℕ) (q : Running) → noted p t (place_after (advance shape r (found_in shape w r))) u ≡ Some q
      → HasKept shape from (words_by (access shape r) w) (stepped shape w t r l)
      (charge_after shape w l name r charge) q
  step_looks mine u q f = elim (cases_eq u t) [
    | inl same ↦ mine q (sym (noted-same p t u (place_after (advance shape r (found_in shape w r))) same) ∙ f)
    | inr ne ↦
        let g : p u ≡ Some q = sym (noted-other p t u (place_after (advance shape r (found_in shape w r))) ne) ∙ f in
        HasKept-others shape from w (words_by (access shape r) w) l (stepped shape w t r l) charge
        (charge_after shape w l name r charge) u q
        (others_same u) keep grow ok.ordered (h.inv.threads u q g).loaded (old.looks u q g)
  ]

-- a step after which the call goes on
module _ (shape : Shape) (threads from : ℕ) (w : ℕ → ℕ) (p : ℕ → Option Running) (l : Ledger) (t : ℕ) (r : Running)
    (charge : ℕ → Option ℕ)
    (h : Undos shape w p l) (e : p t ≡ Some r) (in_range : t < threads) (names : ℕ) (aged : ℕ → Bool)
    (old : Stretch shape threads names from aged w p l charge)
    (calm : goes (advance shape r (found_in shape w r)) ≡ true) (enough_names : threads ≤ names) where
  is_quiet : quiet (advance shape r (found_in shape w r)) ≡ true
  is_quiet = goes_quiet (advance shape r (found_in shape w r)) calm

  tells : (v x : ℕ) → charge_after shape w l t r charge v ≡ Some x → (charge v ≡ Some x) ⊎ New shape w l t r v x
  tells v x f = charge_tells shape w l t charge h.inv.base.ends r (h.inv.base.sane t r e) calm (h.passed t r e)
      (h.inv.threads t r e).own v x f

  own_round : (v : ℕ) → charge v ≡ Some t → (b : Bool) → at_load r ≡ b → v ≤ (stepped shape w t r l).tail_seen t
  own_round v c true b = omega (arith, old.to_tail v t c, (seen_after shape w l t r).1 b)
  own_round v c false b = omega (arith, old.to_round v t r c e b, (seen_after shape w l t r).0 b)

  step_round : (v x : ℕ) (q : Running) → charge_after shape w l t r charge v ≡ Some x
      → noted p t (place_after (advance shape r (found_in shape w r))) x ≡ Some q → at_load q ≡ false
      → v ≤ (stepped shape w t r l).tail_seen x
  step_round v x q c f loaded = elim (tells v x c) [
    | inl was ↦ elim (cases_eq x t) [
      | inl same ↦ rw same (own_round v (was ∙ ap Some same) (at_load r) refl)
      | inr ne ↦
          let g : p x ≡ Some q = sym (noted-other p t x (place_after (advance shape r (found_in shape w r))) ne) ∙ f in
          omega (arith, old.to_round v x q was g loaded, others_seen shape w l t r x ne)
    ]
    | inr new ↦
        let g : place_after (advance shape r (found_in shape w r)) ≡ Some q =
        sym (noted-same p t x (place_after (advance shape r (found_in shape w r))) new.thread) ∙ f in
        absurd (false≢true (sym loaded ∙ new.again q g))
  ]

  step_apart : (v u x : ℕ) → charge_after shape w l t r charge v ≡ Some x → charge_after shape w l t r charge u ≡ Some x
      → v < u
      → v + shape.n ≤ u
  step_apart v u x c d lt = elim (tells v x c) [
    | inl was_v ↦ elim (tells u x d) [
      | inl was_u ↦ old.apart v u x was_v was_u lt
      | inr new ↦ omega (arith, new.from_round, old.to_round v t r (was_v ∙ ap Some new.thread) e new.loaded)
    ]
    | inr new ↦ elim (tells u x d) [
      | inl was_u ↦
          absurd (omega (arith, lt, new.from_round, old.to_round u t r (was_u ∙ ap Some new.thread) e new.loaded))
      | inr again ↦ absurd (omega (arith, lt, new.visit, again.visit))
    ]
  ]

  pub stretch_step : Stretch shape threads names from aged (words_by (access shape r) w)
      (noted p t (place_after (advance shape r (found_in shape w r)))) (stepped shape w t r l)
      (charge_after shape w l t r charge)
  stretch_step =
      let change = ends_change shape w l t r (h.inv.base.sane t r e) h.inv.base.ends in
      record {
        kept = step_kept shape threads from w p l t r charge h e in_range names t aged is_quiet old;
        charged = step_charged shape threads from w p l t r charge h e in_range names t aged is_quiet old;
        looks = step_looks shape threads from w p l t r charge h e in_range names t aged is_quiet old
            (λ q f. goes_at (HasKept shape from (words_by (access shape r) w) (stepped shape w t r l)
            (charge_after shape w l t r charge))
            (advance shape r (found_in shape w r)) q f
            (own_kept shape from w l t charge h.inv.base.ends old.kept r (h.inv.base.sane t r e) (old.looks t r e)));
        to_tail = λ v x c. elim (tells v x c) [
          | inl was ↦ omega (arith, old.to_tail v x was, change.tail_rise)
          | inr new ↦ omega (arith, new.to_tail, change.tail_rise)
        ];
        to_round = step_round;
        apart = step_apart;
        within = λ v x c. elim (tells v x c) [
          | inl was ↦ old.within v x was
          | inr new ↦ omega (arith, new.thread, in_range, enough_names)
        ];
        second = λ v x c. elim (tells v (threads + x) c) [
          | inl was ↦ old.second v x was
          | inr new ↦ absurd (omega (arith, new.thread, in_range))
        ];
      }

-- the charge of a step with which a call ends with Busy: its thread gets its second name
record Last (shape : Shape) (w : ℕ → ℕ) (l : Ledger) (name : ℕ) (r : Running) (v x : ℕ) : Type 0 where
  named : x ≡ name
  to_tail : v ≤ l.tail
  visit : v ≡ visit_by shape w l r

last_tells : (shape : Shape) (w : ℕ → ℕ) (l : Ledger) (name : ℕ) (charge : ℕ → Option ℕ) (r : Running) (v x : ℕ)
    → charge_after shape w l name r charge v ≡ Some x → (charge v ≡ Some x) ⊎ Last shape w l name r v x
last_tells shape w l name charge (R.Enqueue item start left (E.Undo index filled worn)) v x e =
    elim (cases_eq v (undo_visit shape w l index)) [
      | inr ne ↦ inl (sym (other_visit ne) ∙ e)
      | inl at ↦ elim (cases_lt l.tail v) [
        | inl above ↦ inl (sym (past_tail above) ∙ e)
        | inr below ↦ elim (cases_eq (w index) filled) [
          | inr lost ↦ inl (sym (was_lost lost) ∙ e)
          | inl won ↦ inr (record {
            named = sym (same_Some name x (sym (is_charged won at below) ∙ e));
            to_tail = below;
            visit = at;
          })
        ]
      ]
    ]
  where
    other_visit : (v ≡ undo_visit shape w l index → ⊥)
        → charge_after shape w l name (R.Enqueue item start left (E.Undo index filled worn)) charge v ≡ charge v
    other_visit ne = grind (arith, nat_tests, noted_tells)

    past_tail : l.tail < v → charge_after shape w l name (R.Enqueue item start left (E.Undo index filled worn)) charge v
        ≡ charge v
    past_tail above = grind (arith, nat_tests, noted_tells)

    was_lost : w index ≢ filled → charge_after shape w l name (R.Enqueue item start left (E.Undo index filled worn))
        charge v ≡ charge v
    was_lost lost = grind (arith, nat_tests, noted_tells)

    is_charged : w index ≡ filled → v ≡ undo_visit shape w l index → v ≤ l.tail
        → charge_after shape w l name (R.Enqueue item start left (E.Undo index filled worn)) charge v ≡ Some name
    is_charged won at below = grind (arith, nat_tests, noted_tells)
last_tells shape w l name charge r v x e = inl e

-- and that step
module _ (shape : Shape) (threads from : ℕ) (w : ℕ → ℕ) (p : ℕ → Option Running) (l : Ledger) (t : ℕ) (r : Running)
    (charge : ℕ → Option ℕ)
    (h : Undos shape w p l) (e : p t ≡ Some r) (in_range : t < threads) (names : ℕ) (aged : ℕ → Bool)
    (old : Stretch shape threads names from aged w p l charge)
    (calm : quiet (advance shape r (found_in shape w r)) ≡ true)
    (gone : place_after (advance shape r (found_in shape w r)) ≡ None)
    (was_old : aged t ≡ true) (two_names : names ≡ 2 * threads) (range : (u : ℕ) (q : Running) → p u ≡ Some q
    → u < threads) where
  ends_tells : (v x : ℕ) → charge_after shape w l (threads + t) r charge v ≡ Some x
      → (charge v ≡ Some x) ⊎ Last shape w l (threads + t) r v x
  ends_tells v x f = last_tells shape w l (threads + t) charge r v x f

  not_second : (v : ℕ) → charge v ≡ Some (threads + t) → ⊥
  not_second v c = false≢true (sym (old.second v t c) ∙ was_old)

  pub stretch_ends : Stretch shape threads names from (noted aged t false) (words_by (access shape r) w)
      (noted p t (place_after (advance shape r (found_in shape w r)))) (stepped shape w t r l)
      (charge_after shape w l (threads + t) r charge)
  stretch_ends =
      let change = ends_change shape w l t r (h.inv.base.sane t r e) h.inv.base.ends in
      record {
        kept = step_kept shape threads from w p l t r charge h e in_range names (threads + t) aged calm old;
        charged = step_charged shape threads from w p l t r charge h e in_range names (threads + t) aged calm old;
        looks = step_looks shape threads from w p l t r charge h e in_range names (threads + t) aged calm old
            (λ q f. absurd (none-some q (sym gone ∙ f)));
        to_tail = λ v x c. elim (ends_tells v x c) [
          | inl was ↦ omega (arith, old.to_tail v x was, change.tail_rise)
          | inr new ↦ omega (arith, new.to_tail, change.tail_rise)
        ];
        to_round = λ v x q c f loaded. elim (cases_eq x t) [
          | inl same ↦
              absurd (none-some q
              (sym gone ∙ sym (noted-same p t x (place_after (advance shape r (found_in shape w r))) same) ∙ f))
          | inr ne ↦
              let g : p x ≡ Some q = sym (noted-other p t x (place_after (advance shape r (found_in shape w r))) ne)
              ∙ f in
              elim (ends_tells v x c) [
                | inl was ↦ omega (arith, old.to_round v x q was g loaded, others_seen shape w l t r x ne)
                | inr new ↦ absurd (omega (arith, new.named, range x q g))
              ]
        ];
        apart = λ v u x c d lt. elim (ends_tells v x c) [
          | inl was_v ↦ elim (ends_tells u x d) [
            | inl was_u ↦ old.apart v u x was_v was_u lt
            | inr new ↦ absurd (not_second v (was_v ∙ ap Some new.named))
          ]
          | inr new ↦ elim (ends_tells u x d) [
            | inl was_u ↦ absurd (not_second u (was_u ∙ ap Some new.named))
            | inr again ↦ absurd (omega (arith, lt, new.visit, again.visit))
          ]
        ];
        within = λ v x c. elim (ends_tells v x c) [
          | inl was ↦ old.within v x was
          | inr new ↦ omega (arith, new.named, in_range, two_names)
        ];
        second = λ v x c. elim (cases_eq x t) [
          | inl same ↦ noted-same aged t x false same
          | inr ne ↦ noted-other aged t x false ne ∙ elim (ends_tells v (threads + x) c) [
            | inl was ↦ old.second v x was
            | inr new ↦ absurd (ne (omega (arith, new.named)))
          ]
        ];
      }

-- who is charged with a visit
abbrev charged_thread : Option ℕ → ℕ
charged_thread (Some t) = t
charged_thread None = 0

charged_is : (o : Option ℕ) → is_some o ≡ true → o ≡ Some (charged_thread o)
charged_is (Some t) h = refl
charged_is None h = absurd (false≢true h)

-- so the head is soon past the visit in which the tail was
pub head_bound : (shape : Shape) (threads names from : ℕ) (old : ℕ → Bool) (w : ℕ → ℕ) (p : ℕ → Option Running)
    (l : Ledger) (charge : ℕ → Option ℕ)
    → names < shape.n → Stretch shape threads names from old w p l charge → l.head ≤ from + names + 1
head_bound shape threads names from old w p l charge few h = elim (cases_lt (from + names + 1) l.head) [
  | inr ge ↦ ge
  | inl beyond ↦ absurd (pigeonhole names (λ i. charged_thread (charge (from + 1 + i))) (below beyond) (apart beyond))
]
  where
    is : from + names + 1 < l.head → (i : ℕ) → i ≤ names
        → charge (from + 1 + i) ≡ Some (charged_thread (charge (from + 1 + i)))
    is beyond i b = charged_is (charge (from + 1 + i)) (h.charged (from + 1 + i) (omega arith) (omega arith))

    below : from + names + 1 < l.head → (i : ℕ) → i ≤ names → charged_thread (charge (from + 1 + i)) < names
    below beyond i b = h.within (from + 1 + i) (charged_thread (charge (from + 1 + i))) (is beyond i b)

    apart : from + names + 1 < l.head → (i j : ℕ) → i < j → j ≤ names
        → charged_thread (charge (from + 1 + i)) ≢ charged_thread (charge (from + 1 + j))
    apart beyond i j lt b e =
        let far : from + 1 + i + shape.n ≤ from + 1 + j =
        h.apart (from + 1 + i) (from + 1 + j) (charged_thread (charge (from + 1 + j)))
        (is beyond i (omega arith) ∙ ap Some e) (is beyond j b) (omega arith) in
        omega arith
