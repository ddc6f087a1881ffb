-- Where calls stand whose item is taken now, and those that end.
use Rattle.std.proofs.Common.{ltb, ◌≡◌, ◌≢◌, ℕ, ◌+◌, ◌-◌, ◌*◌, ◌%◌, ◌<◌, ◌≤◌, inl, inr, true, false, refl, sym, ◌∙◌, ap}
use Rattle.std.proofs.Common.{arith, Some, min}
use Rattle.std.proofs.lemmas.Bool.{false≢true, ltb-true, ltb-false, cases_eq, cases_lt, cases_Bool}
use Rattle.std.proofs.lemmas.Bool.Decides.{nat_tests}
use Rattle.kfifo_machine.specs.declared.place.DequeuePhase.TheVariants as D
use Rattle.kfifo_machine.specs.declared.place.Running.TheVariants as R
use Rattle.std.proofs.lemmas.Option.{none-some}
use Rattle.std.proofs.Common.{is_some}
use Rattle.kfifo_linear.proofs.Abstract.{noted_tells}
use Rattle.kfifo_linear.proofs.Base.{DequeueSane, Sane}
use Rattle.kfifo_linear.proofs.Claims.{EndsChange, Round, segment_of}
use Rattle.kfifo_linear.proofs.Invariant.{AtHead, AtTail, Fits, HasClear, HasOwn, SettledOk, SlotOk}
use Rattle.kfifo_linear.proofs.Invariant.{Times, is_gone, is_putting}
use Rattle.kfifo_linear.proofs.Slots.{at_tail_stays, clear_slot}
use Rattle.kfifo_linear.specs.Ledger.{Gone, Inside, Ledger, Outside, Standing, Took, found_in, gone_point, item_of}
use Rattle.kfifo_linear.specs.Ledger.{settle_point, stepped, took_point}
use Rattle.kfifo_machine.proofs.NoWrap.{EndsOk}
use Rattle.kfifo_machine.specs.Places.{IsSlotIndex}
use Rattle.kfifo_machine.specs.Program.{advance}
use Rattle.kfifo_machine.specs.declared.place.DequeuePhase.{DequeuePhase}
use Rattle.kfifo_machine.specs.declared.place.EnqueuePhase.{EnqueuePhase}
use Rattle.kfifo_machine.specs.declared.place.Found.TheVariants.{Nothing}
use Rattle.kfifo_machine.specs.declared.place.Next.TheVariants.{Answers}
use Rattle.kfifo_linear.proofs.Types.{Answer, Running, Shape}
use Rattle.kfifo_words.specs.Words.{head_of, value_of}

-- a step that takes the item of slot i
pub record Takes (shape : Shape) (w : ℕ → ℕ) (l l' : Ledger) (t i : ℕ) : Type 0 where
  pub full : value_of (w i) ≢ 0
  pub fresh : l.standing (l.caller t) ≡ Outside
  pub inside : l.standing (l.owner i) ≡ Inside i
  pub loaded : l.tail_at_load i ≤ l.head_seen t
  pub past : l.head_seen t < l.tail
  pub reached : l.head_seen t ≤ l.head
  pub place : l.head_seen t % shape.n ≡ segment_of shape i
  pub head_same : l'.head ≡ l.head
  pub tail_same : l'.tail ≡ l.tail
  pub untaken : l'.untaken_from i ≡ l.head_seen t + 1
  pub last : l'.last (l.caller t) ≡ Some l.now
  pub answer : is_some (l'.answer (l.caller t)) ≡ true
  pub gone : l'.standing (l.owner i) ≡ Gone i (l.head_seen t) (gone_point l i (l.head_seen t))
  pub took : l'.standing (l.caller t) ≡ Took (l.owner i) (l.head_seen t) (took_point l (l.head_seen t))

-- the place of an enqueue whose item is taken now
pub gone_at_tail : (shape : Shape) (w w' : ℕ → ℕ) (l l' : Ledger) (t i : ℕ) → 0 < shape.n → EndsChange w w' l l'
    → l'.now ≡ l.now + 1 → Times l
    → Takes shape w l l' t i → SlotOk shape w l i → AtTail l' (l.head_seen t) (gone_point l i (l.head_seen t))
unfolding gone_point
gone_at_tail shape w w' l l' t i n c now times k here =
    let v = l.head_seen t in
    let tails_v : l.tails (l.head_seen t) < l.now = times.tails_past (l.head_seen t) k.past in
    let kept : l'.tails (l.head_seen t) ≡ l.tails (l.head_seen t) = c.tails_kept (l.head_seen t) k.past in
    let below : 0 < l.head_seen t → l'.tails (l.head_seen t - 1) ≡ l.tails (l.head_seen t - 1) =
    λ z. c.tails_kept (l.head_seen t - 1) (omega (arith, k.past)) in
    let rise : 0 < l.head_seen t → l.tails (l.head_seen t - 1) < l.tails (l.head_seen t) =
    λ z. times.tails_rise (l.head_seen t - 1) (l.head_seen t) (omega arith) k.past in
    let at : AtTail l' (l.head_seen t) (l.tails (l.head_seen t)) =
    record {
      reached = omega (arith, k.past, k.tail_same);
      after = λ z. omega (arith, below z, rise z);
      before = λ z. omega (arith, kept);
      past = omega (arith, now);
    } in
    elim (cases_Bool (l.settled i)) [
      | inr e ↦ rw e at
      | inl e ↦
          let st : SettledOk shape l i = here.settled e in
          elim (cases_lt (l.head_seen t) (l.visit i)) [
            | inl lt ↦
                let far : l.tails (l.head_seen t) < l.point i = elim (cases_eq (l.head_seen t) (l.visit i - 1)) [
                  | inl q ↦ omega (arith, st.at_tail.after (omega arith), ap l.tails q)
                  | inr q ↦ omega (
                    arith,
                    st.at_tail.after (omega arith),
                    times.tails_rise (l.head_seen t) (l.visit i - 1) (omega arith) (omega (arith, st.at_tail.reached)),
                  )
                ] in
                let m : min (l.point i) (l.tails (l.head_seen t)) ≡ l.tails (l.head_seen t) = omega arith in
                rw (e, m) at
            | inr ge ↦
                let q : l.visit i ≡ l.head_seen t = omega (arith, k.reached, st.from_head) in
                let near : l.point i ≤ l.tails (l.visit i) = st.at_tail.before (omega (arith, q, k.past)) in
                let m : min (l.point i) (l.tails (l.head_seen t)) ≡ l.point i = omega (arith, ap l.tails q) in
                rw (e, m, ← q) (at_tail_stays w w' l l' (l.visit i) (l.point i) c now st.at_tail)
          ]
    ]

-- the place of a dequeue that takes an item now
pub took_at_head : (shape : Shape) (w w' : ℕ → ℕ) (l l' : Ledger) (t i : ℕ) → EndsChange w w' l l' → l'.now ≡ l.now + 1
    → Times l
    → Takes shape w l l' t i → AtHead l' (l.head_seen t) (took_point l (l.head_seen t))
unfolding took_point
took_at_head shape w w' l l' t i c now times k =
    let kept : l'.tails (l.head_seen t) ≡ l.tails (l.head_seen t) = c.tails_kept (l.head_seen t) k.past in
    let tails_v : l.tails (l.head_seen t) < l.now = times.tails_past (l.head_seen t) k.past in
    let below : 0 < l.head_seen t → l'.heads (l.head_seen t - 1) ≡ l.heads (l.head_seen t - 1) =
    λ z. c.heads_kept (l.head_seen t - 1) (omega (arith, k.reached)) in
    let past : 0 < l.head_seen t → l.heads (l.head_seen t - 1) < l.now =
    λ z. times.heads_past (l.head_seen t - 1) (omega (arith, k.reached)) in
    elim (cases_Bool (ltb (l.head_seen t) l.head)) [
      | inl e ↦
          let lt : l.head_seen t < l.head = ltb-true _ _ e in
          let same : l'.heads (l.head_seen t) ≡ l.heads (l.head_seen t) = c.heads_kept (l.head_seen t) lt in
          let rise : 0 < l.head_seen t → l.heads (l.head_seen t - 1) < l.heads (l.head_seen t) =
          λ z. times.heads_rise (l.head_seen t - 1) (l.head_seen t) (omega arith) lt in
          rw e (record {
            reached = omega (arith, k.head_same);
            after = λ z. omega (arith, below z, rise z);
            before = λ z. omega (arith, same);
            past = omega (arith, now, times.heads_past (l.head_seen t) lt);
            tail_past =
                omega (arith, k.past, k.tail_same);
            tail_before = omega (arith, kept, times.tail_first (l.head_seen t) lt);
          })
      | inr e ↦
          let ge : l.head ≤ l.head_seen t = ltb-false _ _ e in
          rw e (record {
            reached = omega (arith, k.reached, k.head_same);
            after = λ z. omega (arith, below z, past z);
            before = λ z. absurd (omega (arith, k.head_same));
            past = omega (arith, now);
            tail_past = omega (arith, k.past, k.tail_same);
            tail_before = omega (arith, kept);
          })
    ]

-- a dequeue that finds the queue empty now
abbrev pub Stands : (ℕ → ℕ) → Running → Type 0
Stands w (R.Dequeue start left (D.Recheck ends Nothing)) = w 0 ≡ ends
Stands w other = ⊥

stands_clear : (shape : Shape) (w : ℕ → ℕ) (l : Ledger) (i : ℕ) (r : Running) → 0 < shape.k → 0 < i → Sane shape r
    → HasClear shape w l r
    → Stands w r → segment_of shape i ≡ head_of (w 0) → l.settled i ≡ false
stands_clear shape w l i (R.Dequeue start left (D.Recheck ends Nothing)) k pos s c e g =
    clear_slot shape w l i ends start k pos s.0 c e g
stands_clear shape w l i other k pos s c e g = absurd e

-- nothing in the table is settled then
pub none_settled_now : (shape : Shape) (w : ℕ → ℕ) (l : Ledger) (i : ℕ) (r : Running) → 0 < shape.k
    → IsSlotIndex shape i
    → EndsOk shape (w 0) l.head l.tail → l.tail ≡ l.head → Sane shape r → HasClear shape w l r → Stands w r
    → SlotOk shape w l i
    → l.settled i ≡ false
none_settled_now shape w l i r k is_slot ok same s c st here =
    elim (cases_Bool (l.settled i)) [
      | inl e ↦
          let h : SettledOk shape l i = here.settled e in
          let v : l.visit i ≡ l.head = omega (arith, h.from_head, h.to_tail) in
          stands_clear shape w l i r k is_slot.above s c st (sym h.place ∙ ap (λ x. x % shape.n) v ∙ sym ok.head)
      | inr e ↦ e
    ]

pub above : (x p : ℕ) → x ≢ p → p ≤ x → p < x
above x p ne le = elim (cases_eq x p) [ inl e ↦ absurd (ne e) | inr n ↦ omega arith ]

pub settle_point_late : (l : Ledger) (v p x : ℕ) → Times l → AtTail l v p → ((y : ℕ) → y < l.tail → l.tails y ≢ p)
    → v ≤ x
    → p < settle_point l x
unfolding settle_point
settle_point_late l v p x times at apart h =
    elim (cases_Bool (ltb x l.tail)) [
      | inl e ↦
          let lt : x < l.tail = ltb-true _ _ e in
          rw e (elim (cases_eq v x) [
            | inl q ↦ above (l.tails x) p (apart x lt) (omega (arith, ap l.tails q, at.before (omega (arith, q))))
            | inr q ↦ omega (arith, at.before (omega arith), times.tails_rise v x (omega arith) lt)
          ])
      | inr e ↦ rw e (omega (arith, at.past))
    ]

-- where an answer says that its call stands
ended_fits_e : (shape : Shape) (w : ℕ → ℕ) (l : Ledger) (t item start left : ℕ) (phase : EnqueuePhase)
    → HasOwn shape w l t (R.Enqueue item start left phase)
    → (is_putting (R.Enqueue item start left phase) ≡ false → l.standing (l.caller t) ≡ Outside) → (x : Answer)
    → advance shape (R.Enqueue item start left phase) (found_in shape w (R.Enqueue item start left phase)) ≡ Answers x
    → Fits l.begin x ((stepped shape w t (R.Enqueue item start left phase) l).standing (l.caller t))
unfolding stepped
ended_fits_e shape w l t item start left phase own f x e = grind (arith, nat_tests, noted_tells)

ended_fits_d : (shape : Shape) (w : ℕ → ℕ) (l : Ledger) (t start left : ℕ) (phase : DequeuePhase)
    → DequeueSane shape phase
    → (l.standing (l.caller t) ≡ Outside) → ((i : ℕ) → 0 < i → i < 1 + shape.n * shape.k → value_of (w i) ≢ 0
    → item_of (l.begin (l.owner i)) ≡ value_of (w i)) → (x : Answer)
    → advance shape (R.Dequeue start left phase) (found_in shape w (R.Dequeue start left phase)) ≡ Answers x
    → Fits l.begin x ((stepped shape w t (R.Dequeue start left phase) l).standing (l.caller t))
unfolding stepped
ended_fits_d shape w l t start left phase s f items x e = grind (arith, nat_tests, noted_tells)

pub ended_fits : (shape : Shape) (w : ℕ → ℕ) (l : Ledger) (t : ℕ) (r : Running) → Sane shape r → HasOwn shape w l t r
    → (is_putting r ≡ false → l.standing (l.caller t) ≡ Outside)
    → ((i : ℕ) → 0 < i → i < 1 + shape.n * shape.k → value_of (w i) ≢ 0 → item_of (l.begin (l.owner i))
    ≡ value_of (w i)) → (x : Answer)
    → advance shape r (found_in shape w r) ≡ Answers x → Fits l.begin x ((stepped shape w t r l).standing (l.caller t))
ended_fits shape w l t (R.Enqueue item start left phase) s own f items x e =
    ended_fits_e shape w l t item start left phase own f x e
ended_fits shape w l t (R.Dequeue start left phase) s own f items x e =
    ended_fits_d shape w l t start left phase s.1 (f refl) items x e

pub inside_gone : {s : Standing} (i : ℕ) → Inside i ≡ s → is_gone s ≡ true → ⊥
inside_gone i e g = false≢true (ap is_gone e ∙ g)

pub inside_outside : (i : ℕ) → Inside i ≡ Outside → ⊥
inside_outside i e = cc

pub gone_started : (shape : Shape) (w : ℕ → ℕ) (l : Ledger) (t : ℕ) (l' : Ledger) (i : ℕ) → Takes shape w l l' t i
    → SlotOk shape w l i
    → l.first (l.owner i) ≤ gone_point l i (l.head_seen t)
unfolding gone_point
gone_started shape w l t l' i k here =
    let tails : l.first (l.owner i) ≤ l.tails (l.head_seen t) =
    (here.full k.full).after (l.head_seen t) k.loaded k.past in
    elim (cases_Bool (l.settled i)) [ inl e ↦ rw e (omega (arith, (here.settled e).started)) | inr e ↦ rw e tails ]

pub gone_ended : (shape : Shape) (w : ℕ → ℕ) (l : Ledger) (t i e : ℕ) → SlotOk shape w l i → value_of (w i) ≢ 0
    → l.last (l.owner i) ≡ Some e
    → gone_point l i (l.head_seen t) ≤ e
unfolding gone_point
gone_ended shape w l t i e here full g =
    elim (cases_Bool (l.settled i)) [
      | inl s ↦ rw s (omega (arith, (here.settled s).ended e g))
      | inr s ↦ absurd (none-some e (sym ((here.full full).unsettled s) ∙ g))
    ]

pub took_started : (l : Ledger) (t : ℕ) → l.first (l.caller t) ≤ l.now → Round l t
    → l.first (l.caller t) ≤ took_point l (l.head_seen t)
unfolding took_point
took_started l t n rd =
    elim (cases_Bool (ltb (l.head_seen t) l.head)) [
      | inl e ↦ rw e (rd.heads_after (l.head_seen t) (omega arith) (ltb-true _ _ e))
      | inr e ↦ rw e n
    ]
