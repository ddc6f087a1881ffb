-- While no item is taken, an item that stood in the tail's segment when the tail left it leaves its slot only as its
-- enqueue takes it out. The enqueue's thread is then charged with the visit.
use Rattle.std.proofs.Common.{◌≡◌, ◌≢◌, ℕ, ◌+◌, ◌-◌, ◌*◌, ◌/◌, ◌%◌, ◌<◌, ◌≤◌, inl, inr, Bool, true, false, refl, sym}
use Rattle.std.proofs.Common.{◌∙◌, ap, subst, arith, Option, Some, is_some}
use Rattle.std.specs.Prelude.{nat_le, ◌==◌, ◌&&◌, if◌then◌else◌}
use Rattle.std.proofs.Math.Nat.{div-mul-le_self, mul-le-mul_right}
use Rattle.std.proofs.lemmas.Bool.{cases_eq, cases_lt, false≢true}
use Rattle.std.proofs.lemmas.Bool.Decides.{nat_tests}
use Rattle.kfifo_model.specs.declared.calls.Answer.TheVariants.{Busy}
use Rattle.kfifo_linear.proofs.Types.{Next, Running, Shape}
use Rattle.kfifo_machine.specs.declared.place.EnqueuePhase.TheVariants as E
use Rattle.kfifo_machine.specs.declared.place.Next.TheVariants.{Answers, Goes}
use Rattle.kfifo_machine.specs.declared.place.Running.TheVariants as R
use Rattle.kfifo_linear.proofs.Abstract.{noted_tells, words_by}
use Rattle.kfifo_linear.proofs.Base.{Sane, filled_with-value, scan_index-is_slot}
use Rattle.kfifo_linear.proofs.Claims.{segment_of, segment_of-scan_index}
use Rattle.kfifo_linear.proofs.Ring.{at_distance}
use Rattle.kfifo_linear.proofs.Slots.{back, back-below, scan_index-back}
use Rattle.kfifo_linear.specs.Ledger.{Ledger, found_in, noted, settle_visit}
use Rattle.kfifo_machine.proofs.NoWrap.{EndsOk}
use Rattle.kfifo_machine.proofs.Ring.{same_place}
use Rattle.kfifo_machine.specs.Places.{IsSlotIndex}
use Rattle.kfifo_machine.specs.Program.{access, advance, scan_index}
use Rattle.kfifo_words.specs.Words.{head_of, value_of}

-- the visit of the head or later of a slot from which an enqueue takes its item
abbrev pub undo_visit : Shape → (ℕ → ℕ) → Ledger → ℕ → ℕ
undo_visit shape w l index = settle_visit shape l (head_of (w 0)) (segment_of shape index)

-- which thread is charged with each visit, after a step of a thread: with that of an item that it takes out, where the
-- tail has reached the visit
abbrev pub charge_after : Shape → (ℕ → ℕ) → Ledger → ℕ → Running → (ℕ → Option ℕ) → ℕ → Option ℕ
charge_after shape w l t (R.Enqueue item start left (E.Undo index filled worn)) charge v =
    if (w index == filled) && nat_le (undo_visit shape w l index) l.tail
    then noted charge (undo_visit shape w l index) (Some t) v else charge v
charge_after shape w l t other charge v = charge v

-- a slot that a scan has still to see
pub record Unseen (shape : Shape) (ends start offset i : ℕ) : Type 0 where
  pub look : ℕ
  pub from : offset ≤ look
  pub below : look < shape.k
  pub at : scan_index shape (head_of ends) start look ≡ i

abbrev pub Every : ℕ → Type 0
Every i = Unit {0}

-- one of these slots of the visit's segment is filled, or the visit is charged
pub record Kept (shape : Shape) (w : ℕ → ℕ) (charge : ℕ → Option ℕ) (Slots : ℕ → Type 0) (v : ℕ) : Type 0 where
  pub charged : ((i : ℕ) → IsSlotIndex shape i → segment_of shape i ≡ v % shape.n → Slots i → value_of (w i) ≡ 0)
      → is_some (charge v) ≡ true

-- a step after which the call goes on
abbrev pub goes : Next → Bool
goes (Goes running) = true
goes (Answers answer) = false

-- or after which it ends with Busy
abbrev pub quiet : Next → Bool
quiet (Goes running) = true
quiet (Answers Busy) = true
quiet (Answers answer) = false

pub goes_quiet : (next : Next) → goes next ≡ true → quiet next ≡ true
goes_quiet (Goes running) e = refl
goes_quiet (Answers answer) e = absurd (false≢true e)

below_product : (n k q : ℕ) → q * k < n * k → q < n
below_product n k q h = elim (cases_lt q n) [
  | inl lt ↦ lt
  | inr ge ↦ let m : n * k ≤ q * k = mul-le-mul_right k ge in absurd (omega arith)
]

abbrev is_undo : Running → Bool
is_undo (R.Enqueue item start left (E.Undo index filled worn)) = true
is_undo other = false

module _ (shape : Shape) (w : ℕ → ℕ) (l : Ledger) (t : ℕ) (charge : ℕ → Option ℕ)
    (ok : EndsOk shape (w 0) l.head l.tail) where
  pub grows : (r : Running) (v : ℕ) → is_some (charge v) ≡ true → is_some (charge_after shape w l t r charge v) ≡ true
  grows r v h = grind (arith, nat_tests, noted_tells)

  -- no step but an undo empties a slot while no item is taken
  filled_stays : (r : Running) (i : ℕ) → Sane shape r → quiet (advance shape r (found_in shape w r)) ≡ true
      → is_undo r ≡ false
      → 0 < i → value_of (words_by (access shape r) w i) ≡ 0 → value_of (w i) ≡ 0
  filled_stays r i s calm not_undo pos e = grind (arith, nat_tests, noted_tells, filled_with-value)

  charge_stays : (r : Running) (v : ℕ) → is_undo r ≡ false → charge_after shape w l t r charge v ≡ charge v
  charge_stays r v not_undo = grind arith

  -- the visit of an undo
  pub undo_place : (index : ℕ) → IsSlotIndex shape index
      → (undo_visit shape w l index % shape.n ≡ segment_of shape index)
      × (l.head ≤ undo_visit shape w l index) × (undo_visit shape w l index < l.head + shape.n)
  unfolding settle_visit segment_of
  undo_place index is_slot =
      let k = shape.some_slot in
      let whole : (index - 1) / shape.k * shape.k ≤ index - 1 = div-mul-le_self (index - 1) shape.k in
      let below : (index - 1) / shape.k < shape.n = below_product shape.n shape.k ((index - 1) / shape.k)
      (omega (arith, is_slot.above, is_slot.below)) in
      let d = at_distance shape.n l.head ((index - 1) / shape.k) below in
      rw ok.head (d.0, omega arith, omega (arith, d.1))

  -- what is kept of a visit between head and tail stays so
  pub keeps : (r : Running) (Slots : ℕ → Type 0) (v : ℕ) → Sane shape r → quiet (advance shape r (found_in shape w r))
      ≡ true
      → l.head ≤ v → v ≤ l.tail → Kept shape w charge Slots v
      → Kept shape (words_by (access shape r) w) (charge_after shape w l t r charge) Slots v
  keeps (R.Enqueue item start left (E.Undo index filled worn)) Slots v s calm from to k =
      elim (cases_eq (w index) filled) [
        | inl won ↦ elim (cases_eq (segment_of shape index) (v % shape.n)) [
          | inl same ↦
              let p = undo_place index s.3.0 in
              let at : undo_visit shape w l index ≡ v = one_visit v (undo_visit shape w l index) from to p.1 p.2
              (p.0 ∙ same) in
              record { charged = λ all. new_charge index filled worn item start left v won at to }
          | inr apart ↦ record {
            charged = λ all. grows (R.Enqueue item start left (E.Undo index filled worn)) v (k.charged
                (λ i is_slot place in_slots. elsewhere index filled worn item start left i
                (λ e. apart (ap (segment_of shape) (sym e) ∙ place)) (all i is_slot place in_slots)));
          }
        ]
        | inr lost ↦ record {
          charged = λ all. grows (R.Enqueue item start left (E.Undo index filled worn)) v (k.charged
              (λ i is_slot place in_slots. nothing index filled worn item start left i lost
              (all i is_slot place in_slots)));
        }
      ]
    where
      one_visit : (v x : ℕ) → l.head ≤ v → v ≤ l.tail → l.head ≤ x → x < l.head + shape.n → x % shape.n ≡ v % shape.n
          → x ≡ v
      one_visit v x from to low high e = elim (cases_lt x v) [
        | inl lt ↦ sym (same_place shape.n x v (omega arith) (omega (arith, ok.no_wrap)) (sym e))
        | inr ge ↦ same_place shape.n v x ge (omega arith) e
      ]

      new_charge : (index filled : ℕ) (worn : Bool) (item start left v : ℕ) → w index ≡ filled
          → undo_visit shape w l index ≡ v
          → v ≤ l.tail
          → is_some (charge_after shape w l t (R.Enqueue item start left (E.Undo index filled worn)) charge v) ≡ true
      new_charge index filled worn item start left v won at to = grind (arith, nat_tests, noted_tells)

      elsewhere : (index filled : ℕ) (worn : Bool) (item start left i : ℕ) → i ≢ index
          → value_of (words_by (access shape (R.Enqueue item start left (E.Undo index filled worn))) w i) ≡ 0
          → value_of (w i) ≡ 0
      elsewhere index filled worn item start left i ne e = grind (arith, nat_tests, noted_tells)

      nothing : (index filled : ℕ) (worn : Bool) (item start left i : ℕ) → w index ≢ filled
          → value_of (words_by (access shape (R.Enqueue item start left (E.Undo index filled worn))) w i) ≡ 0
          → value_of (w i) ≡ 0
      nothing index filled worn item start left i lost e = grind (arith, nat_tests, noted_tells)
  keeps r Slots v s calm from to k = record {
    charged = λ all. grows r v (k.charged (λ i is_slot place in_slots.
        filled_stays r i s calm refl is_slot.above (all i is_slot place in_slots)));
  }

  -- what a look at a filled slot of the visit's segment says
  pub seen_filled : (segment start offset v : ℕ) → segment ≡ v % shape.n → segment < shape.n
      → value_of (w (scan_index shape segment start offset)) ≢ 0 → Kept shape w charge Every v
  seen_filled segment start offset v place in_ring filled =
      record {
        charged = λ all. absurd (filled (all (scan_index shape segment start offset)
            (scan_index-is_slot shape segment start offset in_ring)
            (segment_of-scan_index shape segment start offset ∙ place) tt));
      }

  -- a scan that has yet to begin sees every slot
  pub scan_begins : (ends start v : ℕ) → head_of ends ≡ v % shape.n → start < shape.k → Kept shape w charge Every v
      → Kept shape w charge (Unseen shape ends start 0) v
  scan_begins ends start v place h k = record {
    charged = λ all. k.charged (λ i is_slot at _. all i is_slot at (record {
      look = back shape i start;
      from = omega arith;
      below = back-below shape i start shape.some_slot;
      at = ap (λ x. scan_index shape x start (back shape i start)) (place ∙ sym at)
          ∙ scan_index-back shape i start shape.some_slot is_slot.above h;
    }));
  }

  -- one that finds a slot empty goes on
  pub scan_goes_on : (ends start offset v : ℕ) → value_of (w (scan_index shape (head_of ends) start offset)) ≡ 0
      → Kept shape w charge (Unseen shape ends start offset) v
      → Kept shape w charge (Unseen shape ends start (offset + 1)) v
  scan_goes_on ends start offset v empty k = record {
    charged = λ all. k.charged (λ i is_slot at unseen.
        elim (cases_eq unseen.look offset) [
          | inl same ↦
              subst (λ x. value_of (w x) ≡ 0) (ap (scan_index shape (head_of ends) start) (sym same) ∙ unseen.at) empty
          | inr ne ↦
              let later : offset + 1 ≤ unseen.look = omega (arith, unseen.from) in
              all i is_slot at (record { look = unseen.look; from = later; below = unseen.below; at = unseen.at })
        ]);
  }

  -- and at its end has seen all
  pub scan_ends : (ends start offset v : ℕ) → shape.k ≤ offset → Kept shape w charge (Unseen shape ends start offset) v
      → is_some (charge v) ≡ true
  scan_ends ends start offset v past k =
      k.charged (λ i is_slot at unseen. absurd (omega (arith, unseen.from, unseen.below)))
