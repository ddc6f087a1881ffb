-- No item stands in two slots where each enqueue begins with a free one.
use Rattle.std.proofs.Common.{◌≡◌, ◌≢◌, ◌⊎◌, ℕ, zero, suc, ◌+◌, ◌*◌, ◌<◌, List, [], ◌∷◌, get_or, replicate, Option}
use Rattle.std.proofs.Common.{Some, None, Ok, Bool, true, false, refl, sym, ap, ◌∙◌, subst, inl, inr, arith, cond}
use Rattle.std.proofs.Common.{eq-eqb, ne_eqb}
use Rattle.std.specs.Prelude.{◌==◌}
use Rattle.std.proofs.lemmas.Bool.{cases_eq}
use Rattle.std.proofs.lemmas.Bool.Decides.{nat_tests}
use Rattle.std.proofs.lemmas.List.{get_or-set_other}
use Rattle.kfifo_machine.proofs.Types.{Begin, DequeuePhase, EnqueuePhase, Event, Next, Outcome, Running, Shape}
use Rattle.kfifo_words.specs.Words.{slot_word, value_of}
use Rattle.kfifo_words.specs.Ring.{clock_at}
use Rattle.kfifo_machine.specs.declared.event.Begin.TheVariants as B
use Rattle.kfifo_machine.specs.declared.place.Found.TheVariants.{Slot}
use Rattle.kfifo_machine.specs.declared.place.EnqueuePhase.TheVariants as E
use Rattle.kfifo_machine.specs.declared.place.DequeuePhase.TheVariants as D
use Rattle.kfifo_machine.specs.declared.place.Running.TheVariants as R
use Rattle.kfifo_machine.specs.declared.place.Next.TheVariants.{Goes, Answers}
use Rattle.kfifo_machine.specs.declared.place.Access.TheVariants.{Exchange}
use Rattle.kfifo_machine.specs.Program.{access, accessed, advance, emptied, enqueue_advance, filled_with}
use Rattle.kfifo_machine.specs.Machine.{World, opening, ticked, word_at, place_of, place_after, begun, may_begin, found}
use Rattle.kfifo_machine.specs.Machine.{step, run, world_of}
use Rattle.kfifo_machine.specs.Runs.{going}
use Rattle.kfifo_machine.specs.Places.{IsPlace}
use Rattle.kfifo_machine.specs.Tokens.{AllBeginFree, BeginsFree, ItemsAreTokens, held_at, held_in}
use Rattle.kfifo_machine.proofs.EndsUndisturbed.{slots_stay}
use Rattle.kfifo_machine.proofs.Budget.{own_place}
use Rattle.kfifo_machine.proofs.LostRounds.{word-moved}
use Rattle.kfifo_machine.proofs.RoundsUndisturbed.{words_by}
use Rattle.kfifo_machine.proofs.Schedules.{Some-injective, first_made, made_within, other_place, stepped, Ticks, Seals}
use Rattle.kfifo_machine.proofs.Versions.{sealed-other}
use Rattle.kfifo_machine.proofs.Sound.{IsSound, going_place, place_is, sound, step_sound}

-- what a thread knows of the value of a slot's word that it has read or put
abbrev pub EnqueueKnows : ℕ → EnqueuePhase → Type 0
EnqueueKnows item (E.Recheck ends (Slot index seen)) = value_of seen ≡ 0
EnqueueKnows item (E.Put ends index empty) = value_of empty ≡ 0
EnqueueKnows item (E.ReloadSlot ends index filled) = value_of filled ≡ item
EnqueueKnows item (E.ReloadEnds ends index filled) = value_of filled ≡ item
EnqueueKnows item (E.HoldHead ends index filled held) = value_of filled ≡ item
EnqueueKnows item (E.Undo index filled worn) = value_of filled ≡ item
EnqueueKnows item other = Unit {0}

abbrev pub EnqueueAt : Running → Type 0
EnqueueAt (R.Enqueue item start left phase) = EnqueueKnows item phase
EnqueueAt (R.Dequeue start left phase) = Unit {0}

abbrev pub NextAt : Next → Type 0
NextAt (Goes running) = EnqueueAt running
NextAt (Answers answer) = Unit {0}

pub value-filled_with : (item empty : ℕ) → item < 16777216 → value_of (filled_with item empty) ≡ item
unfolding value_of slot_word
value-filled_with item empty few = omega arith

pub value-emptied : (filled : ℕ) → value_of (emptied filled) ≡ 0
unfolding value_of slot_word
value-emptied filled = omega arith

knows_on : (shape : Shape) (running : Running) (word : ℕ) → IsPlace shape running → EnqueueAt running
    → NextAt (advance shape running word)
knows_on shape running word place knows = grind (arith, nat_tests, value-filled_with)

-- the item that is held where a step leads
abbrev NextHolds : Next → ℕ → Type 0
NextHolds (Goes running) x = held_at running ≡ Some x
NextHolds (Answers answer) x = ⊥

abbrev is_undo : EnqueuePhase → Bool
is_undo (E.Undo index filled worn) = true
is_undo phase = false

-- a step other than an undo lets go of an item, or holds what was held
held_before : (shape : Shape) (item start left : ℕ) (phase : EnqueuePhase) (word x : ℕ) → is_undo phase ≡ false
    → NextHolds (enqueue_advance shape item start left phase word) x → held_in item phase ≡ Some x
held_before shape item start left phase word x none holds = grind (arith, nat_tests)

none_held : (shape : Shape) (start left : ℕ) (phase : DequeuePhase) (word x : ℕ)
    → NextHolds (advance shape (R.Dequeue start left phase) word) x → ⊥
none_held shape start left phase word x holds = grind (arith, nat_tests)

-- what a step does to the slots
data Touch (c : ℕ) (w v : ℕ → ℕ) (running : Running) (next : Next) : Type 0 where
  Leaves : ((i : ℕ) → 0 < i → i < c → v i ≡ w i) → ((x : ℕ) → NextHolds next x → held_at running ≡ Some x)
      → Touch c w v running next
  Fills : (item index : ℕ) → held_at running ≡ Some item → value_of (v index) ≡ item → ((i : ℕ) → i ≢ index → v i ≡ w i)
      → ((x : ℕ) → NextHolds next x → ⊥) → Touch c w v running next
  Empties : (index : ℕ) → 0 < index → index < c → value_of (v index) ≡ 0 → ((i : ℕ) → i ≢ index → v i ≡ w i)
      → ((x : ℕ) → NextHolds next x → (x ≡ value_of (w index)) × (0 < x)) → Touch c w v running next

other_word : (w : ℕ → ℕ) (index from to i : ℕ) → i ≢ index → words_by (Exchange index from to) w i ≡ w i
other_word w index from to i ne = grind (arith, nat_tests)

this_word : (w : ℕ → ℕ) (index from to : ℕ) → w index ≡ from → words_by (Exchange index from to) w index ≡ to
this_word w index from to won = grind (arith, nat_tests)

lost_word : (w : ℕ → ℕ) (index from to i : ℕ) → w index ≢ from → words_by (Exchange index from to) w i ≡ w i
lost_word w index from to i lost = grind (arith, nat_tests)

put_lets_go : (shape : Shape) (item start left ends index empty word x : ℕ) → word ≡ empty
    → NextHolds (enqueue_advance shape item start left (E.Put ends index empty) word) x → ⊥
put_lets_go shape item start left ends index empty word x won holds = grind (arith, nat_tests)

undo_holds : (shape : Shape) (item start left index filled word x : ℕ) (worn : Bool)
    → NextHolds (enqueue_advance shape item start left (E.Undo index filled worn) word) x → x ≡ item
undo_holds shape item start left index filled word x worn holds = grind (arith, nat_tests)

undo_lost : (shape : Shape) (item start left index filled word x : ℕ) (worn : Bool) → word ≢ filled
    → NextHolds (enqueue_advance shape item start left (E.Undo index filled worn) word) x → ⊥
undo_lost shape item start left index filled word x worn lost holds = grind (arith, nat_tests)

module _ (shape : Shape) (w : ℕ → ℕ) where
  touches_enqueue : (item start left : ℕ) (phase : EnqueuePhase) → IsPlace shape (R.Enqueue item start left phase)
      → EnqueueKnows item phase
      → Touch (clock_at shape.k shape.n) w (words_by (access shape (R.Enqueue item start left phase)) w)
      (R.Enqueue item start left phase)
      (advance shape (R.Enqueue item start left phase) (w (accessed (access shape (R.Enqueue item start left phase)))))
  touches_enqueue item start left E.LoadEnds place knows =
      Leaves (λ i a b. refl) (λ x h. held_before shape item start left E.LoadEnds (w 0) x refl h)
  touches_enqueue item start left (E.ScanTail ends offset) place knows =
      Leaves (λ i a b. refl) (λ x h. held_before shape item start left (E.ScanTail ends offset) _ x refl h)
  touches_enqueue item start left (E.Recheck ends seen) place knows =
      Leaves (λ i a b. refl) (λ x h. held_before shape item start left (E.Recheck ends seen) _ x refl h)
  touches_enqueue item start left (E.Put ends index empty) place knows =
      elim (cases_eq (w index) empty) [
        | inl won ↦ Fills item index refl (ap value_of (this_word w index empty (filled_with item empty) won)
            ∙ value-filled_with item empty place.1) (λ i ne. other_word w index empty (filled_with item empty) i ne)
            (λ x h. put_lets_go shape item start left ends index empty (w index) x won h)
        | inr lost ↦ Leaves (λ i a b. lost_word w index empty (filled_with item empty) i lost)
            (λ x h. held_before shape item start left (E.Put ends index empty) (w index) x refl h)
      ]
  touches_enqueue item start left (E.ReloadSlot ends index filled) place knows =
      Leaves (λ i a b. refl) (λ x h. held_before shape item start left (E.ReloadSlot ends index filled) _ x refl h)
  touches_enqueue item start left (E.ReloadEnds ends index filled) place knows =
      Leaves (λ i a b. refl) (λ x h. held_before shape item start left (E.ReloadEnds ends index filled) _ x refl h)
  touches_enqueue item start left (E.HoldHead ends index filled held) place knows =
      Leaves (λ i a b. slots_stay w held _ i a)
      (λ x h. held_before shape item start left (E.HoldHead ends index filled held) _ x refl h)
  touches_enqueue item start left (E.Undo index filled worn) place knows =
      elim (cases_eq (w index) filled) [
        | inl won ↦ Empties index place.4.1.above place.4.1.below
            (ap value_of (this_word w index filled (emptied filled) won) ∙ value-emptied filled)
            (λ i ne. other_word w index filled (emptied filled) i ne)
            (λ x h. let is = undo_holds shape item start left index filled (w index) x worn h in
            (is ∙ sym knows ∙ ap value_of (sym won), (let some = place.0 in omega arith)))
        | inr lost ↦ Leaves (λ i a b. lost_word w index filled (emptied filled) i lost)
            (λ x h. absurd (undo_lost shape item start left index filled (w index) x worn lost h))
      ]
  touches_enqueue item start left (E.ScanHead ends offset) place knows =
      Leaves (λ i a b. refl) (λ x h. held_before shape item start left (E.ScanHead ends offset) _ x refl h)
  touches_enqueue item start left (E.ConfirmFull ends) place knows =
      Leaves (λ i a b. refl) (λ x h. held_before shape item start left (E.ConfirmFull ends) _ x refl h)
  touches_enqueue item start left (E.MoveHead ends) place knows =
      Leaves (λ i a b. slots_stay w ends _ i a) (λ x h. held_before shape item start left (E.MoveHead ends) (w 0) x
      refl h)
  touches_enqueue item start left (E.MoveTail ends) place knows =
      Leaves (λ i a b. slots_stay w ends _ i a) (λ x h. held_before shape item start left (E.MoveTail ends) (w 0) x
      refl h)

  touches_dequeue : (start left : ℕ) (phase : DequeuePhase) → IsPlace shape (R.Dequeue start left phase)
      → Touch (clock_at shape.k shape.n) w (words_by (access shape (R.Dequeue start left phase)) w)
      (R.Dequeue start left phase)
      (advance shape (R.Dequeue start left phase) (w (accessed (access shape (R.Dequeue start left phase)))))
  touches_dequeue start left D.LoadEnds place =
      Leaves (λ i a b. refl) (λ x h. absurd (none_held shape start left D.LoadEnds (w 0) x h))
  touches_dequeue start left (D.ScanHead ends offset) place =
      Leaves (λ i a b. refl) (λ x h. absurd (none_held shape start left (D.ScanHead ends offset) _ x h))
  touches_dequeue start left (D.Recheck ends seen) place =
      Leaves (λ i a b. refl) (λ x h. absurd (none_held shape start left (D.Recheck ends seen) _ x h))
  touches_dequeue start left (D.MoveTail ends index filled) place =
      Leaves (λ i a b. slots_stay w ends _ i a)
      (λ x h. absurd (none_held shape start left (D.MoveTail ends index filled) _ x h))
  touches_dequeue start left (D.Take ends index filled) place =
      elim (cases_eq (w index) filled) [
        | inl won ↦ Empties index place.2.1.above place.2.1.below
            (ap value_of (this_word w index filled (emptied filled) won) ∙ value-emptied filled)
            (λ i ne. other_word w index filled (emptied filled) i ne)
            (λ x h. absurd (none_held shape start left (D.Take ends index filled) (w index) x h))
        | inr lost ↦ Leaves (λ i a b. lost_word w index filled (emptied filled) i lost)
            (λ x h. absurd (none_held shape start left (D.Take ends index filled) (w index) x h))
      ]
  touches_dequeue start left (D.MoveHead ends) place =
      Leaves (λ i a b. slots_stay w ends _ i a) (λ x h. absurd (none_held shape start left (D.MoveHead ends) (w 0) x h))

  touches : (running : Running) → IsPlace shape running → EnqueueAt running
      → Touch (clock_at shape.k shape.n) w (words_by (access shape running) w) running
      (advance shape running (w (accessed (access shape running))))
  touches (R.Enqueue item start left phase) place knows = touches_enqueue item start left phase place knows
  touches (R.Dequeue start left phase) place knows = touches_dequeue start left phase place

-- The invariant: no item in two slots, none in a slot that a thread holds, none held by two threads
record IsFree (c : ℕ) (w : ℕ → ℕ) (place : ℕ → Option Running) : Type 0 where
  once : (i j : ℕ) → 0 < i → i < c → 0 < j → j < c → i ≢ j → value_of (w i) ≢ 0 → value_of (w i) ≢ value_of (w j)
  apart : (t : ℕ) (r : Running) (x : ℕ) → place t ≡ Some r → held_at r ≡ Some x → (i : ℕ) → 0 < i → i < c
      → value_of (w i) ≢ x
  alone : (t u : ℕ) (r s : Running) (x : ℕ) → place t ≡ Some r → held_at r ≡ Some x → place u ≡ Some s
      → held_at s ≡ Some x → t ≡ u
  some : (t : ℕ) (r : Running) (x : ℕ) → place t ≡ Some r → held_at r ≡ Some x → 0 < x
  knows : (t : ℕ) (r : Running) → place t ≡ Some r → EnqueueAt r

-- where a thread stands after a step, and what it then holds and knows
held_next : (next : Next) (r : Running) (x : ℕ) → place_after next ≡ Some r → held_at r ≡ Some x → NextHolds next x
held_next (Goes running) r x at holds = ap held_at (Some-injective running r at) ∙ holds
held_next (Answers answer) r x at holds = absurd (cc)

knows_next : (next : Next) (r : Running) → place_after next ≡ Some r → NextAt next → EnqueueAt r
knows_next (Goes running) r at knows = subst EnqueueAt (Some-injective running r at) knows
knows_next (Answers answer) r at knows = absurd (cc)

-- a thread's step keeps it
module _ (c : ℕ) (w v : ℕ → ℕ) (place later : ℕ → Option Running) (t : ℕ) (r : Running) (next : Next)
    (free : IsFree c w place) (at : place t ≡ Some r) (then_at : later t ≡ place_after next)
    (others : (u : ℕ) → u ≢ t → later u ≡ place u) (told : NextAt next) where
  -- who stands where afterwards: the thread itself, or one that stood there
  stood : (u : ℕ) (s : Running) → later u ≡ Some s → ((u ≡ t) × (place_after next ≡ Some s))
      ⊎ ((u ≢ t) × (place u ≡ Some s))
  stood u s is = elim (cases_eq u t) [
    | inl same ↦ inl (same, sym then_at ∙ ap later (sym same) ∙ is)
    | inr ne ↦ inr (ne, sym (others u ne) ∙ is)
  ]

  knows_later : (u : ℕ) (s : Running) → later u ≡ Some s → EnqueueAt s
  knows_later u s is = elim (stood u s is) [
    | inl mine ↦ knows_next next s mine.1 told
    | inr theirs ↦ free.knows u s theirs.1
  ]

  free_after : Touch c w v r next → IsFree c v later
  free_after (Leaves same held) =
      -- what is held was held
      let was : (u : ℕ) (s : Running) (x : ℕ) → later u ≡ Some s → held_at s ≡ Some x → (q : Running)
      × (place u ≡ Some q)
      × (held_at q ≡ Some x) =
      λ u s x is holds. elim (stood u s is) [
        | inl mine ↦ (r, ap place mine.0 ∙ at, held x (held_next next s x mine.1 holds))
        | inr theirs ↦ (s, theirs.1, holds)
      ] in
      record {
        once = λ i j a b d e ne some same_value.
            free.once i j a b d e ne (λ none. some (ap value_of (same i a b) ∙ none))
            (ap value_of (sym (same i a b)) ∙ same_value ∙ ap value_of (same j d e));
        apart = λ u s x is holds i a b same_value. let q = was u s x is holds in
            free.apart u q.0 x q.1 q.2 i a b (ap value_of (sym (same i a b)) ∙ same_value);
        alone = λ u o s q x is holds is_too holds_too. let a = was u s x is holds in
            let b = was o q x is_too holds_too in
            free.alone u o a.0 b.0 x a.1 a.2 b.1 b.2;
        some = λ u s x is holds. let q = was u s x is holds in free.some u q.0 x q.1 q.2;
        knows = knows_later;
      }
  free_after (Fills item index holding filled same gone) =
      -- others hold what they held, and not this item
      let was : (u : ℕ) (s : Running) (x : ℕ) → later u ≡ Some s → held_at s ≡ Some x → (u ≢ t) × (place u ≡ Some s) =
      λ u s x is holds. elim (stood u s is) [
        | inl mine ↦ absurd (gone x (held_next next s x mine.1 holds))
        | inr theirs ↦ theirs
      ] in
      record {
        once = λ i j a b d e ne some same_value. elim (cases_eq i index) [
          | inl at_i ↦
              let mine : value_of (v i) ≡ item = ap (λ n. value_of (v n)) at_i ∙ filled in
              let other : value_of (v j) ≡ value_of (w j) = ap value_of (same j (λ here. ne (at_i ∙ sym here))) in
              free.apart t r item at holding j d e (sym other ∙ sym same_value ∙ mine)
          | inr not_i ↦ elim (cases_eq j index) [
            | inl at_j ↦
                let mine : value_of (v j) ≡ item = ap (λ n. value_of (v n)) at_j ∙ filled in
                free.apart t r item at holding i a b (ap value_of (sym (same i not_i)) ∙ same_value ∙ mine)
            | inr not_j ↦ free.once i j a b d e ne (λ none. some (ap value_of (same i not_i) ∙ none))
                (ap value_of (sym (same i not_i)) ∙ same_value ∙ ap value_of (same j not_j))
          ]
        ];
        apart = λ u s x is holds i a b same_value. let q = was u s x is holds in elim (cases_eq i index) [
          | inl at_i ↦
              let item_is : item ≡ x = sym filled ∙ ap (λ n. value_of (v n)) (sym at_i) ∙ same_value in
              q.0 (free.alone u t s r item q.1 (holds ∙ ap Some (sym item_is)) at holding)
          | inr not_i ↦ free.apart u s x q.1 holds i a b (ap value_of (sym (same i not_i)) ∙ same_value)
        ];
        alone = λ u o s q x is holds is_too holds_too.
            free.alone u o s q x (was u s x is holds).1 holds (was o q x is_too holds_too).1 holds_too;
        some = λ u s x is holds. free.some u s x (was u s x is holds).1 holds;
        knows = knows_later;
      }
  free_after (Empties index above below emptied_is same again) =
      let zero_at : (i : ℕ) → i ≡ index → value_of (v i) ≡ 0 = λ i is. ap (λ n. value_of (v n)) is ∙ emptied_is in
      record {
        once = λ i j a b d e ne some same_value.
            let not_i : i ≢ index = λ is. some (zero_at i is) in
            let not_j : j ≢ index = λ is. some (same_value ∙ zero_at j is) in
            free.once i j a b d e ne (λ none. some (ap value_of (same i not_i) ∙ none))
            (ap value_of (sym (same i not_i)) ∙ same_value ∙ ap value_of (same j not_j));
        apart = λ u s x is holds i a b same_value. elim (stood u s is) [
          | inl mine ↦
              let n = again x (held_next next s x mine.1 holds) in
              elim (cases_eq i index) [
                | inl at_i ↦ absurd (let none = zero_at i at_i in let some = n.1 in omega arith)
                | inr not_i ↦
                    let there : value_of (w index) ≢ 0 =
                    λ none. absurd (let some = n.1 in let is = n.0 in omega arith) in
                    free.once index i above below a b (λ is. not_i (sym is)) there
                    (sym n.0 ∙ sym same_value ∙ ap value_of (same i not_i))
              ]
          | inr theirs ↦ elim (cases_eq i index) [
            | inl at_i ↦ absurd (let none = zero_at i at_i in let some = free.some u s x theirs.1 holds in omega arith)
            | inr not_i ↦ free.apart u s x theirs.1 holds i a b (ap value_of (sym (same i not_i)) ∙ same_value)
          ]
        ];
        alone = λ u o s q x is holds is_too holds_too. elim (stood u s is) [
          | inl mine ↦ elim (stood o q is_too) [
            | inl too ↦ mine.0 ∙ sym too.0
            | inr theirs ↦ absurd (free.apart o q x theirs.1 holds_too index above below
                (sym (again x (held_next next s x mine.1 holds)).0))
          ]
          | inr theirs ↦ elim (stood o q is_too) [
            | inl too ↦ absurd (free.apart u s x theirs.1 holds index above below
                (sym (again x (held_next next q x too.1 holds_too)).0))
            | inr others ↦ free.alone u o s q x theirs.1 holds others.1 holds_too
          ]
        ];
        some = λ u s x is holds. elim (stood u s is)
            [ inl mine ↦ (again x (held_next next s x mine.1 holds)).1 | inr theirs ↦ free.some u s x theirs.1 holds ];
        knows = knows_later;
      }

-- the places with a thread about to make its step from here
abbrev put_in : (ℕ → Option Running) → ℕ → Running → ℕ → Option Running
put_in place t r u = cond (u == t) (Some r) (place u)

put_here : (place : ℕ → Option Running) (t : ℕ) (r : Running) → put_in place t r t ≡ Some r
put_here place t r = ap (λ b. cond b (Some r) (place t)) (eq-eqb t t refl)

put_other : (place : ℕ → Option Running) (t : ℕ) (r : Running) (u : ℕ) → u ≢ t → put_in place t r u ≡ place u
put_other place t r u ne = ap (λ b. cond b (Some r) (place u)) (ne_eqb u t ne)

free_with : (c : ℕ) (w : ℕ → ℕ) (place : ℕ → Option Running) (t : ℕ) (r : Running) → IsFree c w place → EnqueueAt r
    → ((x : ℕ) → held_at r ≡ Some x → (0 < x) × ((i : ℕ) → 0 < i → i < c → value_of (w i) ≢ x)
    × ((u : ℕ) (s : Running) → u ≢ t → place u ≡ Some s → held_at s ≢ Some x))
    → IsFree c w (put_in place t r)
free_with c w place t r free knows new =
    let stood : (u : ℕ) (s : Running) → put_in place t r u ≡ Some s → ((u ≡ t) × (r ≡ s))
    ⊎ ((u ≢ t) × (place u ≡ Some s)) =
    λ u s is. elim (cases_eq u t) [
      | inl same ↦ inl (same, Some-injective r s (sym (put_here place t r) ∙ ap (put_in place t r) (sym same) ∙ is))
      | inr ne ↦ inr (ne, sym (put_other place t r u ne) ∙ is)
    ] in
    record {
      once = free.once;
      apart = λ u s x is holds. elim (stood u s is)
          [ inl mine ↦ (new x (ap held_at mine.1 ∙ holds)).1 | inr theirs ↦ free.apart u s x theirs.1 holds ];
      alone = λ u o s q x is holds is_too holds_too. elim (stood u s is) [
        | inl mine ↦ elim (stood o q is_too) [
          | inl too ↦ mine.0 ∙ sym too.0
          | inr theirs ↦ absurd ((new x (ap held_at mine.1 ∙ holds)).2 o q theirs.0 theirs.1 holds_too)
        ]
        | inr theirs ↦ elim (stood o q is_too) [
          | inl too ↦ absurd ((new x (ap held_at too.1 ∙ holds_too)).2 u s theirs.0 theirs.1 holds)
          | inr others ↦ free.alone u o s q x theirs.1 holds others.1 holds_too
        ]
      ];
      some = λ u s x is holds. elim (stood u s is)
          [ inl mine ↦ (new x (ap held_at mine.1 ∙ holds)).0 | inr theirs ↦ free.some u s x theirs.1 holds ];
      knows = λ u s is. elim (stood u s is) [
        | inl mine ↦ subst EnqueueAt mine.1 knows
        | inr theirs ↦ free.knows u s theirs.1
      ];
    }

-- what the step of a thread begins with: its call's own item, or that of a call that begins with a free one
holds_free : (shape : Shape) (here : World) (t : ℕ) (place : Option Running) (begin : Option Begin) (r : Running)
    → IsFree (clock_at shape.k shape.n) (word_at here) (place_of here) → place_of here t ≡ place
    → going shape place begin ≡ Some r
    → IsPlace shape r → BeginsFree shape here begin
    → EnqueueAt r × ((x : ℕ) → held_at r ≡ Some x → (0 < x)
    × ((i : ℕ) → 0 < i → i < clock_at shape.k shape.n → value_of (word_at here i) ≢ x)
    × ((u : ℕ) (s : Running) → u ≢ t → place_of here u ≡ Some s → held_at s ≢ Some x))
holds_free shape here t None None r free at goes fits begins = absurd (cc)
holds_free shape here t (Some q) (Some begin) r free at goes fits begins = absurd (cc)
holds_free shape here t (Some q) None r free at goes fits begins =
    let there : place_of here t ≡ Some r = at ∙ goes in (
      free.knows t r there,
      λ x holds. (
        free.some t r x there holds,
        free.apart t r x there holds,
        λ u s ne is holds_too. ne (free.alone u t s r x is holds_too there holds),
      ),
    )
holds_free shape here t None (Some (B.Dequeue start turns)) r free at goes fits begins =
    let is : r ≡ R.Dequeue start turns D.LoadEnds = begun_dequeue (may_begin shape (B.Dequeue start turns)) goes in
    (subst EnqueueAt (sym is) tt, λ x holds. absurd (let none : None ≡ Some x = sym (ap held_at is) ∙ holds in cc))
  where
    begun_dequeue : (may : Bool) → cond may (begun (B.Dequeue start turns)) None ≡ Some r
        → r ≡ R.Dequeue start turns D.LoadEnds
    begun_dequeue true e = sym (Some-injective _ _ e)
    begun_dequeue false e = absurd (cc)
holds_free shape here t None (Some (B.Enqueue item start turns)) r free at goes fits begins =
    let is : r ≡ R.Enqueue item start turns E.LoadEnds = begun_enqueue (may_begin shape (B.Enqueue item start turns))
    goes in
    let some : 0 < item = (subst (IsPlace shape) is fits).0 in (
      subst EnqueueAt (sym is) tt,
      λ x holds.
          let same : item ≡ x = Some-injective item x (sym (ap held_at is) ∙ holds) in (
            subst (λ (n : ℕ). 0 < n) same some,
            λ i above below value_is. begins.0 (record {
              index = i;
              above = above;
              below = below;
              stands = value_is ∙ sym same;
            }),
            λ u s ne stands holds_too. begins.1 (record {
              thread = u;
              place = s;
              there = stands;
              holds = holds_too ∙ ap Some (sym same);
            }),
          ),
    )
  where
    begun_enqueue : (may : Bool) → cond may (begun (B.Enqueue item start turns)) None ≡ Some r
        → r ≡ R.Enqueue item start turns E.LoadEnds
    begun_enqueue true e = sym (Some-injective _ _ e)
    begun_enqueue false e = absurd (cc)
holds_free shape here t None (Some B.Tick) r free at goes fits begins = absurd (cc)
holds_free shape here t None (Some B.Seal) r free at goes fits begins = absurd (cc)

-- the same words and places
free_same : (c : ℕ) (w v : ℕ → ℕ) (place later : ℕ → Option Running) → IsFree c w place
    → ((i : ℕ) → 0 < i → i < c → v i ≡ w i)
    → ((u : ℕ) → later u ≡ place u) → IsFree c v later
free_same c w v place later free same still = record {
  once = λ i j a b d e ne some same_value. free.once i j a b d e ne (λ none. some (ap value_of (same i a b) ∙ none))
      (ap value_of (sym (same i a b)) ∙ same_value ∙ ap value_of (same j d e));
  apart = λ u s x is holds i a b same_value.
      free.apart u s x (sym (still u) ∙ is) holds i a b (ap value_of (sym (same i a b)) ∙ same_value);
  alone = λ u o s q x is holds is_too holds_too. free.alone u o s q x (sym (still u) ∙ is) holds
      (sym (still o) ∙ is_too) holds_too;
  some = λ u s x is holds. free.some u s x (sym (still u) ∙ is) holds;
  knows = λ u s is. free.knows u s (sym (still u) ∙ is);
}

word-ticked : (shape : Shape) (here : World) (i : ℕ) → i < clock_at shape.k shape.n → word_at (ticked shape here) i
    ≡ word_at here i
unfolding word_at ticked
word-ticked shape here i below = get_or-set_other here.words (clock_at shape.k shape.n) i
    (get_or here.words (clock_at shape.k shape.n) 0 + 1) 0 (λ same. absurd (omega arith))

word-outside : (shape : Shape) (here there : World) (begin : Option Begin) (i : ℕ) → 0 < i
    → i < clock_at shape.k shape.n
    → Ticks shape here begin there ⊎ Seals shape here begin there → word_at there i ≡ word_at here i
word-outside shape here there begin i above below (inl t) = ap (λ (x : World). word_at x i) t.there_is
    ∙ word-ticked shape here i below
word-outside shape here there begin i above below (inr z) =
    ap (λ (x : World). word_at x i) z.there_is ∙ sealed-other shape here i (λ same. absurd (omega arith))

-- an event keeps it
free_event : (shape : Shape) (here there : World) (e : Event) (outcome : Outcome) → IsSound shape here
    → step shape here e ≡ Ok (there, outcome) → BeginsFree shape here e.begin
    → IsFree (clock_at shape.k shape.n) (word_at here) (place_of here)
    → IsFree (clock_at shape.k shape.n) (word_at there) (place_of there)
unfolding found word_at
free_event shape here there e outcome is_sound made begins free =
    elim (stepped shape here e there outcome made) [
      | inl s ↦
          let c = clock_at shape.k shape.n in
          let r = s.running in
          let fits : IsPlace shape r = going_place shape (place_of here e.thread) e.begin r
          (λ q at. place_is shape here e.thread q is_sound at) s.goes in
          let new = holds_free shape here e.thread (place_of here e.thread) e.begin r free refl s.goes fits begins in
          let before = free_with c (word_at here) (place_of here) e.thread r free new.0 new.1 in
          let next = advance shape r (word_at here (accessed (access shape r))) in
          let same_next : advance shape r (found shape here r) ≡ next =
          ap (advance shape r) (found-word shape here r) in
          let at : place_of there e.thread ≡ place_after next =
          ap (λ (x : World). place_of x e.thread) s.there_is
          ∙ own_place shape here e.thread r (made_within shape here e there outcome made)
          ∙ ap place_after same_next in
          let others : (u : ℕ) → u ≢ e.thread → place_of there u ≡ put_in (place_of here) e.thread r u =
          λ u ne. other_place shape here e there outcome u ne made ∙ sym (put_other (place_of here) e.thread r u ne) in
          let after = free_after c (word_at here) (words_by (access shape r) (word_at here))
          (put_in (place_of here) e.thread r)
          (place_of there) e.thread r next before (put_here (place_of here) e.thread r) at others
          (knows_on shape r (word_at here (accessed (access shape r))) fits new.0)
          (touches shape (word_at here) r fits new.0) in
          free_same c (words_by (access shape r) (word_at here)) (word_at there) (place_of there) (place_of there) after
          (λ i above below. ap (λ (x : World). word_at x i) s.there_is ∙ word-moved shape here e.thread r i is_sound
          fits) (λ u. refl)
      | inr t ↦
          free_same (clock_at shape.k shape.n) (word_at here) (word_at there) (place_of here) (place_of there) free
          (λ i above below. word-outside shape here there e.begin i above below t.by) t.leaves
    ]
  where
    found-word : (shape : Shape) (here : World) (r : Running)
        → found shape here r ≡ word_at here (accessed (access shape r))
    found-word shape here r = refl

-- so does a schedule
free_along : (shape : Shape) (here there : World) (events : List Event) → IsSound shape here
    → AllBeginFree shape (Some here) events
    → run shape (Some here) events ≡ Some there
    → IsFree (clock_at shape.k shape.n) (word_at here) (place_of here)
    → IsFree (clock_at shape.k shape.n) (word_at there) (place_of there)
free_along shape here there [] is_sound begins is free =
    subst (λ (x : World). IsFree (clock_at shape.k shape.n) (word_at x) (place_of x))
    (Some-injective here there is) free
free_along shape here there (e ∷ es) is_sound begins is free =
    let m = first_made shape here e there es is in
    let rest : AllBeginFree shape (Some m.0) es = subst (λ (o : Option World). AllBeginFree shape o es)
    (ap world_of m.1.1.0) begins.1 in
    free_along shape m.0 there es (step_sound shape here e m.0 m.1.0 is_sound m.1.1.0) rest m.1.1.1
    (free_event shape here m.0 e m.1.0 is_sound m.1.1.0 begins.0 free)

opening_free : (shape : Shape) (threads : ℕ)
    → IsFree (clock_at shape.k shape.n) (word_at (opening shape threads)) (place_of (opening shape threads))
unfolding opening word_at place_of value_of
opening_free shape threads =
    let none : (t : ℕ) (r : Running) → get_or (replicate threads None) t None ≡ Some r
    → ⊥ = λ t r at. idle threads t r at in
    record {
      once = λ i j a b d e ne some same. some (ap value_of (all_zero (2 + shape.n * shape.k) i));
      apart = λ t r x at. absurd (none t r at);
      alone = λ t u r s x at. absurd (none t r at);
      some = λ t r x at. absurd (none t r at);
      knows = λ t r at. absurd (none t r at);
    }
  where
    all_zero : (n i : ℕ) → get_or {A = ℕ} (replicate n 0) i 0 ≡ 0
    all_zero zero i = refl
    all_zero (suc n) zero = refl
    all_zero (suc n) (suc i) = all_zero n i

    idle : (n t : ℕ) (r : Running) → get_or (replicate n None) t None ≡ Some r → ⊥
    idle zero t r at = cc
    idle (suc n) zero r at = cc
    idle (suc n) (suc t) r at = idle n t r at

-- The law
pub items_are_tokens : (shape : Shape) (threads : ℕ) → ItemsAreTokens shape threads
items_are_tokens shape threads events here is begins =
    (free_along shape (opening shape threads) here events (sound shape threads [] (opening shape threads) refl)
    begins is
    (opening_free shape threads)).once
