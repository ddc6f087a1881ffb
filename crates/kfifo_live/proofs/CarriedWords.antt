-- What a step does to the token that is out, and to the word that its thread carries.
use Rattle.std.proofs.Common.{◌≡◌, ◌≢◌, ◌⊎◌, ℕ, ◌<◌}
use Rattle.std.proofs.Common.{Some, Bool, refl, sym, ap, ◌∙◌, subst, inl, inr, arith}
use Rattle.std.proofs.lemmas.Bool.{cases_eq}
use Rattle.std.proofs.lemmas.Bool.Decides.{nat_tests}
use Rattle.kfifo_live.proofs.Types.{EnqueuePhase, Running, Shape}
use Rattle.kfifo_words.specs.Words.{value_of}
use Rattle.kfifo_words.specs.Ring.{clock_at}
use Rattle.kfifo_machine.specs.declared.place.EnqueuePhase.TheVariants as E
use Rattle.kfifo_machine.specs.declared.place.DequeuePhase.{DequeuePhase}
use Rattle.kfifo_machine.specs.declared.place.DequeuePhase.TheVariants as D
use Rattle.kfifo_machine.specs.declared.place.Running.TheVariants as R
use Rattle.kfifo_machine.specs.declared.place.Next.TheVariants.{Goes}
use Rattle.kfifo_machine.specs.declared.place.Access.TheVariants.{Exchange}
use Rattle.kfifo_machine.specs.Program.{access, accessed, advance, emptied, enqueue_advance, filled_with}
use Rattle.kfifo_machine.specs.Places.{IsPlace}
use Rattle.kfifo_machine.specs.Tokens.{held_at, held_in}
use Rattle.kfifo_machine.proofs.Refusals.{Carries, CarriesAt}
use Rattle.kfifo_machine.proofs.Tokens.{EnqueueKnows, value-emptied}
use Rattle.kfifo_live.specs.Hands.{own_item, out_at, out_in}
use Rattle.kfifo_live.proofs.Balance.{Knows}

-- what a step does to the token that is out, and to the word that was put
out_held_in : (item x : ℕ) (phase : EnqueuePhase) → out_in item phase ≡ x → 0 < x → held_in item phase ≡ Some x
out_held_in item x phase out some = grind (arith, nat_tests)

pub out_held : (r : Running) (x : ℕ) → out_at r ≡ x → 0 < x → held_at r ≡ Some x
out_held (R.Enqueue item start left phase) x out some = out_held_in item x phase out some
out_held (R.Dequeue start left phase) x out some = absurd (omega arith)

-- the place of an undo of this word
pub record IsUndo (shape : Shape) (r : Running) (word x : ℕ) : Type 0 where
  pub index : ℕ
  pub carries : CarriesAt r index word
  pub at : accessed (access shape r) ≡ index
  pub own : own_item r ≡ x

pub enqueue_keeps : (shape : Shape) (item start left : ℕ) (phase : EnqueuePhase) (word : ℕ) (q : Running)
    → enqueue_advance shape item start left phase word ≡ Goes q → own_item q ≡ item
enqueue_keeps shape item start left phase word q is = grind (arith, nat_tests)

out_is_own : (q : Running) → 0 < out_at q → out_at q ≡ own_item q
out_is_own (R.Enqueue item start left phase) some = of_phase item phase some
  where
    of_phase : (item : ℕ) (phase : EnqueuePhase) → 0 < out_in item phase → out_in item phase ≡ item
    of_phase item phase some = grind (arith, nat_tests)
out_is_own (R.Dequeue start left phase) some = absurd (omega arith)

dequeue_none : (shape : Shape) (start left : ℕ) (phase : DequeuePhase) (word : ℕ) (q : Running)
    → advance shape (R.Dequeue start left phase) word ≡ Goes q → out_at q ≡ 0
dequeue_none shape start left phase word q is = grind (arith, nat_tests)

undo_lost : (shape : Shape) (item start left index filled word : ℕ) (worn : Bool) (q : Running) → word ≢ filled
    → enqueue_advance shape item start left (E.Undo index filled worn) word ≡ Goes q → ⊥
undo_lost shape item start left index filled word worn q lost is = grind (arith, nat_tests)

reload_slot : (shape : Shape) (item start left ends index filled word : ℕ) (q : Running)
    → enqueue_advance shape item start left (E.ReloadSlot ends index filled) word ≡ Goes q → out_at q ≡ 0
reload_slot shape item start left ends index filled word q is = grind (arith, nat_tests)

reload_ends : (shape : Shape) (item start left ends index filled word : ℕ) (q : Running)
    → enqueue_advance shape item start left (E.ReloadEnds ends index filled) word ≡ Goes q → out_at q ≡ 0
reload_ends shape item start left ends index filled word q is = grind (arith, nat_tests)

hold_head : (shape : Shape) (item start left ends index filled held word : ℕ) (q : Running)
    → enqueue_advance shape item start left (E.HoldHead ends index filled held) word ≡ Goes q → out_at q ≡ 0
hold_head shape item start left ends index filled held word q is = grind (arith, nat_tests)

-- what is out after a step was out before, or comes back by a won undo
pub out_came : (shape : Shape) (r : Running) (word : ℕ) (q : Running) → advance shape r word ≡ Goes q → 0 < out_at q
    → (out_at r ≡ out_at q) ⊎ IsUndo shape r word (out_at q)
out_came shape (R.Dequeue start left phase) word q is some = absurd
    (let none = dequeue_none shape start left phase word q is in omega arith)
out_came shape (R.Enqueue item start left (E.ReloadSlot ends index filled)) word q is some = absurd
    (let none = reload_slot shape item start left ends index filled word q is in omega arith)
out_came shape (R.Enqueue item start left (E.ReloadEnds ends index filled)) word q is some = absurd
    (let none = reload_ends shape item start left ends index filled word q is in omega arith)
out_came shape (R.Enqueue item start left (E.HoldHead ends index filled held)) word q is some = absurd
    (let none = hold_head shape item start left ends index filled held word q is in omega arith)
out_came shape (R.Enqueue item start left (E.Undo index filled worn)) word q is some =
    elim (cases_eq word filled) [
      | inl won ↦ inr record {
        index = index;
        carries = (refl, sym won);
        at = refl;
        own = sym (enqueue_keeps shape item start left (E.Undo index filled worn) word q is) ∙ sym (out_is_own q some);
      }
      | inr lost ↦ absurd (undo_lost shape item start left index filled word worn q lost is)
    ]
out_came shape (R.Enqueue item start left E.LoadEnds) word q is some = inl
    (sym (out_is_own q some ∙ enqueue_keeps shape item start left E.LoadEnds word q is))
out_came shape (R.Enqueue item start left (E.ScanTail ends offset)) word q is some = inl
    (sym (out_is_own q some ∙ enqueue_keeps shape item start left (E.ScanTail ends offset) word q is))
out_came shape (R.Enqueue item start left (E.Recheck ends seen)) word q is some = inl
    (sym (out_is_own q some ∙ enqueue_keeps shape item start left (E.Recheck ends seen) word q is))
out_came shape (R.Enqueue item start left (E.Put ends index empty)) word q is some = inl
    (sym (out_is_own q some ∙ enqueue_keeps shape item start left (E.Put ends index empty) word q is))
out_came shape (R.Enqueue item start left (E.ScanHead ends offset)) word q is some = inl
    (sym (out_is_own q some ∙ enqueue_keeps shape item start left (E.ScanHead ends offset) word q is))
out_came shape (R.Enqueue item start left (E.ConfirmFull ends)) word q is some = inl
    (sym (out_is_own q some ∙ enqueue_keeps shape item start left (E.ConfirmFull ends) word q is))
out_came shape (R.Enqueue item start left (E.MoveHead ends)) word q is some = inl
    (sym (out_is_own q some ∙ enqueue_keeps shape item start left (E.MoveHead ends) word q is))
out_came shape (R.Enqueue item start left (E.MoveTail ends)) word q is some = inl
    (sym (out_is_own q some ∙ enqueue_keeps shape item start left (E.MoveTail ends) word q is))

-- the place of a put that finds what it seeks, and the word that it puts
pub record IsPut (r : Running) (index seen word : ℕ) : Type 0 where
  pub item : ℕ
  pub start : ℕ
  pub left : ℕ
  pub ends : ℕ
  pub place : r ≡ R.Enqueue item start left (E.Put ends index seen)
  pub puts : word ≡ filled_with item seen

abbrev NotPut : EnqueuePhase → Type 0
NotPut (E.Put ends index empty) = ⊥
NotPut phase = Unit {0}

carried_on : (shape : Shape) (item start left : ℕ) (phase : EnqueuePhase) (word : ℕ) (q : Running) (i w : ℕ)
    → NotPut phase
    → enqueue_advance shape item start left phase word ≡ Goes q → CarriesAt q i w → Carries phase i w
carried_on shape item start left phase word q i w not is c = grind (arith, nat_tests)

put_lost : (shape : Shape) (item start left ends index empty word : ℕ) (q : Running) (i w : ℕ) → word ≢ empty
    → enqueue_advance shape item start left (E.Put ends index empty) word ≡ Goes q → CarriesAt q i w → ⊥
put_lost shape item start left ends index empty word q i w lost is c = grind (arith, nat_tests)

put_won : (shape : Shape) (item start left ends index empty word : ℕ) (q : Running) (i w : ℕ) → word ≡ empty
    → enqueue_advance shape item start left (E.Put ends index empty) word ≡ Goes q → CarriesAt q i w
    → (index ≡ i) × (filled_with item empty ≡ w)
put_won shape item start left ends index empty word q i w won is c =
    subst (λ (r : Running). CarriesAt r i w) (sym same) c
  where
    next : enqueue_advance shape item start left (E.Put ends index empty) word ≡ Goes
        (R.Enqueue item start left (E.ReloadSlot ends index (filled_with item empty)))
    next = grind (arith, nat_tests)

    goes : (r s : Running) → Goes r ≡ Goes s → r ≡ s
    goes r s e = cc

    same : R.Enqueue item start left (E.ReloadSlot ends index (filled_with item empty)) ≡ q
    same = goes _ _ (sym next ∙ is)

dequeue_carries : (shape : Shape) (start left : ℕ) (phase : DequeuePhase) (word : ℕ) (q : Running) (i w : ℕ)
    → advance shape (R.Dequeue start left phase) word ≡ Goes q → CarriesAt q i w → ⊥
dequeue_carries shape start left phase word q i w is c = grind (arith, nat_tests)

-- a word that is carried after a step was carried before, or was put by it
pub carries_came : (shape : Shape) (r : Running) (word : ℕ) (q : Running) (i w : ℕ) → advance shape r word ≡ Goes q
    → CarriesAt q i w
    → CarriesAt r i w ⊎ IsPut r i word w
carries_came shape (R.Dequeue start left phase) word q i w is c =
    absurd (dequeue_carries shape start left phase word q i w is c)
carries_came shape (R.Enqueue item start left (E.Put ends index empty)) word q i w is c =
    elim (cases_eq word empty) [
      | inl won ↦
          let p = put_won shape item start left ends index empty word q i w won is c in
          inr record {
            item = item;
            start = start;
            left = left;
            ends = ends;
            place = (λ k. R.Enqueue item start left (E.Put ends (p.0 k) (sym won k)));
            puts = sym p.1 ∙ ap (filled_with item) (sym won);
          }
      | inr lost ↦ absurd (put_lost shape item start left ends index empty word q i w lost is c)
    ]
carries_came shape (R.Enqueue item start left other) word q i w is c =
    inl (carried_on shape item start left other word q i w tt is c)

-- an exchange of a slot's word that fills it is a put
pub put_of_exchange : (shape : Shape) (r : Running) (i from to : ℕ) → 0 < i → value_of to ≢ 0
    → access shape r ≡ Exchange i from to
    → IsPut r i from to
put_of_exchange shape (R.Enqueue item start left (E.Put ends index empty)) i from to above filled is =
    record {
      item = item;
      start = start;
      left = left;
      ends = ends;
      place = (let a : index ≡ i = cc in let b : empty ≡ from =
          cc in λ k. R.Enqueue item start left (E.Put ends (a k) (b k)));
      puts = (let a : filled_with item empty ≡ to = cc in let b : empty ≡ from = cc in sym a ∙ ap (filled_with item) b);
    }
put_of_exchange shape (R.Enqueue item start left (E.HoldHead ends index filled_word held)) i from to above filled is =
    absurd (let e : 0 ≡ i = cc in omega arith)
put_of_exchange shape (R.Enqueue item start left (E.Undo index filled_word worn)) i from to above filled is = absurd
    (filled (ap value_of (let e : to ≡ emptied filled_word = cc in e) ∙ value-emptied filled_word))
put_of_exchange shape (R.Enqueue item start left (E.MoveHead ends)) i from to above filled is =
    absurd (let e : 0 ≡ i = cc in omega arith)
put_of_exchange shape (R.Enqueue item start left (E.MoveTail ends)) i from to above filled is =
    absurd (let e : 0 ≡ i = cc in omega arith)
put_of_exchange shape (R.Enqueue item start left E.LoadEnds) i from to above filled is = absurd (cc)
put_of_exchange shape (R.Enqueue item start left (E.ScanTail ends offset)) i from to above filled is = absurd (cc)
put_of_exchange shape (R.Enqueue item start left (E.Recheck ends seen)) i from to above filled is = absurd (cc)
put_of_exchange shape (R.Enqueue item start left (E.ReloadSlot ends index filled_word)) i from to above filled is =
    absurd (cc)
put_of_exchange shape (R.Enqueue item start left (E.ReloadEnds ends index filled_word)) i from to above filled is =
    absurd (cc)
put_of_exchange shape (R.Enqueue item start left (E.ScanHead ends offset)) i from to above filled is = absurd (cc)
put_of_exchange shape (R.Enqueue item start left (E.ConfirmFull ends)) i from to above filled is = absurd (cc)
put_of_exchange shape (R.Dequeue start left D.LoadEnds) i from to above filled is = absurd (cc)
put_of_exchange shape (R.Dequeue start left (D.ScanHead ends offset)) i from to above filled is = absurd (cc)
put_of_exchange shape (R.Dequeue start left (D.Recheck ends seen)) i from to above filled is = absurd (cc)
put_of_exchange shape (R.Dequeue start left (D.MoveTail ends index filled_word)) i from to above filled is = absurd
    (let e : 0 ≡ i = cc in omega arith)
put_of_exchange shape (R.Dequeue start left (D.Take ends index filled_word)) i from to above filled is = absurd
    (filled (ap value_of (let e : to ≡ emptied filled_word = cc in e) ∙ value-emptied filled_word))
put_of_exchange shape (R.Dequeue start left (D.MoveHead ends)) i from to above filled is =
    absurd (let e : 0 ≡ i = cc in omega arith)

-- a word that a thread carries is in a slot, and of its own item
pub record IsCarried (shape : Shape) (r : Running) (i word : ℕ) : Type 0 where
  pub above : 0 < i
  pub below : i < clock_at shape.k shape.n
  pub own : value_of word ≡ own_item r
  pub some : 0 < own_item r

pub carried_word : (shape : Shape) (r : Running) (i word : ℕ) → IsPlace shape r → Knows r → CarriesAt r i word
    → IsCarried shape r i word
carried_word shape (R.Enqueue item start left phase) i word place knows c = of_phase phase place knows c
  where
    slot : (index filled : ℕ) → 0 < index → index < clock_at shape.k shape.n → 0 < item → value_of filled ≡ item
        → (index ≡ i) × (filled ≡ word) → (0 < i) × (i < clock_at shape.k shape.n) × (value_of word ≡ item) × (0 < item)
    slot index filled above below some is c =
        let e = c.0 in
        ((omega (arith, e, above)), (omega (arith, e, below)), ap value_of (sym c.1) ∙ is, some)

    made : (phase : EnqueuePhase) → (0 < i) × (i < clock_at shape.k shape.n) × (value_of word ≡ item) × (0 < item)
        → IsCarried shape (R.Enqueue item start left phase) i word
    made phase x = record { above = x.0; below = x.1; own = x.2; some = x.3 }

    of_phase : (phase : EnqueuePhase) → IsPlace shape (R.Enqueue item start left phase) → EnqueueKnows item phase
        → Carries phase i word
        → IsCarried shape (R.Enqueue item start left phase) i word
    of_phase (E.ReloadSlot ends index filled) place knows c = made (E.ReloadSlot ends index filled)
        (slot index filled place.4.2.above place.4.2.below place.0 knows c)
    of_phase (E.ReloadEnds ends index filled) place knows c = made (E.ReloadEnds ends index filled)
        (slot index filled place.4.2.above place.4.2.below place.0 knows c)
    of_phase (E.HoldHead ends index filled held) place knows c = made (E.HoldHead ends index filled held)
        (slot index filled place.4.4.above place.4.4.below place.0 knows c)
    of_phase (E.Undo index filled worn) place knows c = made (E.Undo index filled worn)
        (slot index filled place.4.1.above place.4.1.below place.0 knows c)
    of_phase other place knows c = absurd c
carried_word shape (R.Dequeue start left phase) i word place knows c = absurd c
