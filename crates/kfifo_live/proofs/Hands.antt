-- What a step of a thread does to the tokens, its own and those of others.
use Rattle.std.proofs.Common.{◌≡◌, ◌≢◌, ◌⊎◌, ℕ, zero, suc, ◌-◌, ◌<◌, ◌≤◌, List, [], ◌∷◌, length, Option, Some, Bool}
use Rattle.std.proofs.Common.{true, false, refl, sym, ap, ◌∙◌, subst, inl, inr, arith, cond, eq-eqb, ne_eqb}
use Rattle.std.specs.Prelude.{◌==◌, slice_set}
use Rattle.std.proofs.lemmas.Bool.{cases_eq}
use Rattle.std.proofs.lemmas.Bool.Decides.{nat_tests}
use mathlib.Core.Option.{some, none, some-ne-none}
use lib.ListN.{get_elem?}
use Rattle.atomic_table.specs.Table.{Valid, put_back, homes_after, carried_after}
use Rattle.atomic_table.proofs.Lists.{set_here, set_else}
use Rattle.std.proofs.lemmas.List.{length-set}
use Rattle.kfifo_live.proofs.Types.{EnqueuePhase, Hand, Next, Running, Shape}
use Rattle.kfifo_words.specs.Words.{value_of, version_of}
use Rattle.kfifo_words.specs.Ring.{clock_at}
use Rattle.kfifo_machine.specs.declared.place.EnqueuePhase.TheVariants as E
use Rattle.kfifo_machine.specs.declared.place.DequeuePhase.{DequeuePhase}
use Rattle.kfifo_machine.specs.declared.place.DequeuePhase.TheVariants as D
use Rattle.kfifo_machine.specs.declared.place.Running.TheVariants as R
use Rattle.kfifo_machine.specs.declared.place.Next.TheVariants.{Goes, Answers}
use Rattle.kfifo_machine.specs.Program.{access, accessed, advance, emptied, enqueue_advance, filled_with}
use Rattle.kfifo_machine.specs.Machine.{place_after}
use Rattle.kfifo_machine.specs.Places.{IsPlace}
use Rattle.kfifo_machine.proofs.EndsUndisturbed.{slots_stay}
use Rattle.kfifo_machine.proofs.RoundsUndisturbed.{words_by}
use Rattle.kfifo_live.specs.Hands.{Gifts, Homes, Where, Home, Out, In, Move, Stays, Lays, Lifts, Takes, move, out_at}
use Rattle.kfifo_live.specs.Hands.{own_item, out_next, beside, AllHome, PutFits, GiftFits, CallFits, HandFits, SlotsFit}
use Rattle.kfifo_live.specs.Hands.{where_after, hand_after, slot_of, act_of, IsGift}
use Rattle.kfifo_live.proofs.Balance.{Knows}
use Rattle.kfifo_live.proofs.OtherHands.{Laid, Lifted, Quiet, this_word, lost_word, won_move, lost_move, turns}
use Rattle.kfifo_live.proofs.OtherHands.{out_after, enqueue_out, dequeue_out, NextGift, held_on, put_on, Out-injective}
use Rattle.kfifo_live.proofs.OtherHands.{In-not-Out, In-not-Home, Out-not-Home, In-injective, home_on, other_hand}
use Rattle.kfifo_live.proofs.OtherHands.{slot_on}

-- where the step of a call leads, its thread has its token
abbrev NotEnqueue : Next → Type 0
NotEnqueue (Goes (R.Enqueue item start left phase)) = ⊥
NotEnqueue next = Unit {0}

dequeue_goes : (shape : Shape) (start left : ℕ) (phase : DequeuePhase) (word : ℕ)
    → NotEnqueue (advance shape (R.Dequeue start left phase) word)
dequeue_goes shape start left phase word = grind (arith, nat_tests)

next_enqueue : {T : Type 0} (bare : Bool) (v : ℕ → ℕ) (gifts : Gifts T) (hand : Hand T) (own : ℕ) (next : Next)
    → out_next own next ≡ hand.out
    → IsGift bare hand.payload → NextGift v gifts hand.payload next
    → CallFits bare v gifts hand (place_after next)
next_enqueue bare v gifts hand own (Goes (R.Enqueue item start left phase)) out payload fits = (sym out, payload, fits)
next_enqueue bare v gifts hand own (Goes (R.Dequeue start left phase)) out payload fits = sym out
next_enqueue bare v gifts hand own (Answers answer) out payload fits = tt

next_dequeue : {T : Type 0} (bare : Bool) (v : ℕ → ℕ) (gifts : Gifts T) (hand : Hand T) (own : ℕ) (next : Next)
    → out_next own next ≡ hand.out
    → NotEnqueue next → CallFits bare v gifts hand (place_after next)
next_dequeue bare v gifts hand own (Goes (R.Enqueue item start left phase)) out never = absurd never
next_dequeue bare v gifts hand own (Goes (R.Dequeue start left phase)) out never = sym out
next_dequeue bare v gifts hand own (Answers answer) out never = tt

pub out-hand_after : {T : Type 0} (m : Move) (gifts : Gifts T) (hand : Hand T) → (hand_after m gifts hand).out
    ≡ out_after hand.out m
unfolding out_after
out-hand_after Stays gifts hand = refl
out-hand_after (Lays index) gifts hand = refl
out-hand_after (Lifts item) gifts hand = refl
out-hand_after (Takes item) gifts hand = refl

-- an enqueue's step keeps what the seat has written beside it
pub enqueue_payload : {T : Type 0} (item start left : ℕ) (phase : EnqueuePhase) (word : ℕ) (gifts : Gifts T)
    (hand : Hand T)
    → (hand_after (move (R.Enqueue item start left phase) word) gifts hand).payload ≡ hand.payload
enqueue_payload item start left E.LoadEnds word gifts hand = refl
enqueue_payload item start left (E.ScanTail ends offset) word gifts hand = refl
enqueue_payload item start left (E.Recheck ends seen) word gifts hand = refl
enqueue_payload item start left (E.Put ends index empty) word gifts hand = by_test (word == empty)
  where
    by_test : (b : Bool) → (hand_after (cond b (Lays index) Stays) gifts hand).payload ≡ hand.payload
    by_test true = refl
    by_test false = refl
enqueue_payload item start left (E.ReloadSlot ends index filled) word gifts hand = refl
enqueue_payload item start left (E.ReloadEnds ends index filled) word gifts hand = refl
enqueue_payload item start left (E.HoldHead ends index filled held) word gifts hand = refl
enqueue_payload item start left (E.Undo index filled worn) word gifts hand = by_test (word == filled)
  where
    by_test : (b : Bool) → (hand_after (cond b (Lifts item) Stays) gifts hand).payload ≡ hand.payload
    by_test true = refl
    by_test false = refl
enqueue_payload item start left (E.ScanHead ends offset) word gifts hand = refl
enqueue_payload item start left (E.ConfirmFull ends) word gifts hand = refl
enqueue_payload item start left (E.MoveHead ends) word gifts hand = refl
enqueue_payload item start left (E.MoveTail ends) word gifts hand = refl

module _ {T : Type 0} (shape : Shape) (w : ℕ → ℕ) (gifts : Gifts T) (payload : Option T) where
  put_same : (v : ℕ → ℕ) (item index filled : ℕ) → v index ≡ w index → PutFits w gifts payload item index filled
      → PutFits v gifts payload item index filled
  put_same v item index filled same fits =
      (let e = ap version_of same in let le = fits.0 in omega arith, λ is. fits.1 (sym same ∙ is))

  undo_on : (item start left index filled word : ℕ) (worn : Bool) (v : ℕ → ℕ) → word ≡ filled
      → beside item gifts ≡ payload
      → NextGift v gifts payload (enqueue_advance shape item start left (E.Undo index filled worn) word)
  undo_on item start left index filled word worn v won is = grind (arith, nat_tests)

  put_won : (item start left ends index empty word : ℕ) (v : ℕ → ℕ) → word ≡ empty → v index ≡ filled_with item empty
      → beside item gifts ≡ payload
      → NextGift v gifts payload (enqueue_advance shape item start left (E.Put ends index empty) word)
  put_won item start left ends index empty word v won now is =
      let e : enqueue_advance shape item start left (E.Put ends index empty) word
      ≡ Goes (R.Enqueue item start left (E.ReloadSlot ends index (filled_with item empty))) =
      grind (arith, nat_tests) in
      let same = ap version_of now in
      let le : version_of (filled_with item empty) ≤ version_of (v index) = omega arith in
      let fits : PutFits v gifts payload item index (filled_with item empty) = (le, λ stays. is) in
      subst (λ (next : Next). NextGift v gifts payload next) (sym e) fits

  gift_on : (item start left : ℕ) (phase : EnqueuePhase) → IsPlace shape (R.Enqueue item start left phase)
      → GiftFits w gifts payload item phase
      → NextGift (words_by (access shape (R.Enqueue item start left phase)) w) gifts payload
      (enqueue_advance shape item start left phase (w (accessed (access shape (R.Enqueue item start left phase)))))
  gift_on item start left E.LoadEnds place fits = held_on shape w gifts payload item start left E.LoadEnds w (w 0) refl
      refl place.0 fits
  gift_on item start left (E.ScanTail ends offset) place fits =
      held_on shape w gifts payload item start left (E.ScanTail ends offset) w _ refl refl place.0 fits
  gift_on item start left (E.Recheck ends seen) place fits =
      held_on shape w gifts payload item start left (E.Recheck ends seen) w _ refl refl place.0 fits
  gift_on item start left (E.Put ends index empty) place fits =
      elim (cases_eq (w index) empty) [
        | inl won ↦ put_won item start left ends index empty (w index) _ won
            (this_word w index empty (filled_with item empty) won) fits
        | inr lost ↦ held_on shape w gifts payload item start left (E.Put ends index empty) _ (w index)
            (lost_move (w index) empty (Lays index) lost) refl place.0 fits
      ]
  gift_on item start left (E.ReloadSlot ends index filled) place fits =
      put_on shape w gifts payload item start left (E.ReloadSlot ends index filled) w _ refl refl place.0
      (λ i f p. p) fits
  gift_on item start left (E.ReloadEnds ends index filled) place fits =
      put_on shape w gifts payload item start left (E.ReloadEnds ends index filled) w _ refl refl place.0
      (λ i f p. p) fits
  gift_on item start left (E.HoldHead ends index filled held) place fits =
      let v = words_by (access shape (R.Enqueue item start left (E.HoldHead ends index filled held))) w in
      put_on shape v gifts payload item start left (E.HoldHead ends index filled held) v _ refl refl place.0
      (λ i f p. p)
      (put_same v item index filled (slots_stay w held _ index place.4.4.above) fits)
  gift_on item start left (E.Undo index filled worn) place fits =
      elim (cases_eq (w index) filled) [
        | inl won ↦ undo_on item start left index filled (w index) worn _ won (fits.1 won)
        | inr lost ↦
            let v = words_by (access shape (R.Enqueue item start left (E.Undo index filled worn))) w in
            put_on shape v gifts payload item start left (E.Undo index filled worn) v (w index)
            (lost_move (w index) filled (Lifts item) lost) refl place.0 (λ i f p. p)
            (put_same v item index filled (lost_word w index filled (emptied filled) index lost) fits)
      ]
  gift_on item start left (E.ScanHead ends offset) place fits =
      held_on shape w gifts payload item start left (E.ScanHead ends offset) w _ refl refl place.0 fits
  gift_on item start left (E.ConfirmFull ends) place fits =
      held_on shape w gifts payload item start left (E.ConfirmFull ends) w _ refl refl place.0 fits
  gift_on item start left (E.MoveHead ends) place fits =
      held_on shape w gifts payload item start left (E.MoveHead ends) _ (w 0) refl refl place.0 fits
  gift_on item start left (E.MoveTail ends) place fits =
      held_on shape w gifts payload item start left (E.MoveTail ends) _ (w 0) refl refl place.0 fits

pub stands_on : {T : Type 0} (bare : Bool) (shape : Shape) (w : ℕ → ℕ) (gifts : Gifts T) (hand : Hand T) (r : Running)
    → IsPlace shape r
    → CallFits bare w gifts hand (Some r)
    → CallFits bare (words_by (access shape r) w) gifts (hand_after (move r (w (accessed (access shape r)))) gifts hand)
    (place_after (advance shape r (w (accessed (access shape r)))))
stands_on {T} bare shape w gifts hand (R.Enqueue item start left phase) place fits =
    let r = R.Enqueue item start left phase in
    let word = w (accessed (access shape r)) in
    let same = enqueue_payload item start left phase word gifts hand in
    let after = hand_after (move r word) gifts hand in
    next_enqueue bare (words_by (access shape r) w) gifts after item (enqueue_advance shape item start left phase word)
    (enqueue_out shape item start left phase word ∙ ap (λ out. out_after out (move r word)) (sym fits.0)
    ∙ sym (out-hand_after (move r word) gifts hand))
    (subst (IsGift bare) (sym same) fits.1)
    (subst (λ (p : Option T). NextGift (words_by (access shape r) w) gifts p
    (enqueue_advance shape item start left phase word)) (sym same)
    (gift_on shape w gifts hand.payload item start left phase place fits.2))
stands_on {T} bare shape w gifts hand (R.Dequeue start left phase) place fits =
    let r = R.Dequeue start left phase in
    let word = w (accessed (access shape r)) in
    next_dequeue bare (words_by (access shape r) w) gifts (hand_after (move r word) gifts hand) 0 (advance shape r word)
    (dequeue_out shape start left phase word ∙ ap (λ out. out_after out (move r word)) (sym fits)
    ∙ sym (out-hand_after (move r word) gifts hand))
    (dequeue_goes shape start left phase word)

-- what the thread has of the token that is out
pub out_gift : {T : Type 0} (bare : Bool) (w : ℕ → ℕ) (gifts : Gifts T) (hand : Hand T) (r : Running)
    → CallFits bare w gifts hand (Some r) → 0 < own_item r
    → out_at r ≡ own_item r
    → (beside (own_item r) gifts ≡ hand.payload) × IsGift bare hand.payload
out_gift bare w gifts hand (R.Enqueue item start left E.LoadEnds) fits positive out = (fits.2, fits.1)
out_gift bare w gifts hand (R.Enqueue item start left (E.ScanTail ends offset)) fits positive out = (fits.2, fits.1)
out_gift bare w gifts hand (R.Enqueue item start left (E.Recheck ends seen)) fits positive out = (fits.2, fits.1)
out_gift bare w gifts hand (R.Enqueue item start left (E.Put ends index empty)) fits positive out = (fits.2, fits.1)
out_gift bare w gifts hand (R.Enqueue item start left (E.ReloadSlot ends index filled)) fits positive out =
    absurd (omega arith)
out_gift bare w gifts hand (R.Enqueue item start left (E.ReloadEnds ends index filled)) fits positive out =
    absurd (omega arith)
out_gift bare w gifts hand (R.Enqueue item start left (E.HoldHead ends index filled held)) fits positive out =
    absurd (omega arith)
out_gift bare w gifts hand (R.Enqueue item start left (E.Undo index filled worn)) fits positive out =
    absurd (omega arith)
out_gift bare w gifts hand (R.Enqueue item start left (E.ScanHead ends offset)) fits positive out = (fits.2, fits.1)
out_gift bare w gifts hand (R.Enqueue item start left (E.ConfirmFull ends)) fits positive out = (fits.2, fits.1)
out_gift bare w gifts hand (R.Enqueue item start left (E.MoveHead ends)) fits positive out = (fits.2, fits.1)
out_gift bare w gifts hand (R.Enqueue item start left (E.MoveTail ends)) fits positive out = (fits.2, fits.1)
out_gift bare w gifts hand (R.Dequeue start left phase) fits positive out = absurd (omega arith)

pub out_is : {T : Type 0} (bare : Bool) (w : ℕ → ℕ) (gifts : Gifts T) (hand : Hand T) (r : Running)
    → CallFits bare w gifts hand (Some r) → hand.out ≡ out_at r
out_is bare w gifts hand (R.Enqueue item start left phase) fits = fits.0
out_is bare w gifts hand (R.Dequeue start left phase) fits = fits

-- a won undo finds the thread's own payload
undo_gift : {T : Type 0} (bare : Bool) (shape : Shape) (w : ℕ → ℕ) (gifts : Gifts T) (hand : Hand T) (r : Running)
    (x : ℕ)
    → CallFits bare w gifts hand (Some r) → move r (w (accessed (access shape r))) ≡ Lifts x
    → beside x gifts ≡ hand.payload
undo_gift bare shape w gifts hand (R.Enqueue item start left E.LoadEnds) x fits is = absurd (cc)
undo_gift bare shape w gifts hand (R.Enqueue item start left (E.ScanTail ends offset)) x fits is = absurd (cc)
undo_gift bare shape w gifts hand (R.Enqueue item start left (E.Recheck ends seen)) x fits is = absurd (cc)
undo_gift bare shape w gifts hand (R.Enqueue item start left (E.Put ends index empty)) x fits is =
    absurd (by_test (w index == empty) is)
  where
    by_test : (b : Bool) → cond b (Lays index) Stays ≡ Lifts x → ⊥
    by_test true e = cc
    by_test false e = cc
undo_gift bare shape w gifts hand (R.Enqueue item start left (E.ReloadSlot ends index filled)) x fits is = absurd (cc)
undo_gift bare shape w gifts hand (R.Enqueue item start left (E.ReloadEnds ends index filled)) x fits is = absurd (cc)
undo_gift bare shape w gifts hand (R.Enqueue item start left (E.HoldHead ends index filled held)) x fits is =
    absurd (cc)
undo_gift bare shape w gifts hand (R.Enqueue item start left (E.Undo index filled worn)) x fits is =
    elim (cases_eq (w index) filled) [
      | inl won ↦
          let same : item ≡ x = Lifts-injective item x (sym (won_move (w index) filled (Lifts item) won) ∙ is) in
          ap (λ n. beside n gifts) (sym same) ∙ fits.2.1 won
      | inr lost ↦ absurd (Stays-not-Lifts x (sym (lost_move (w index) filled (Lifts item) lost) ∙ is))
    ]
  where
    Lifts-injective : (m n : ℕ) → Lifts m ≡ Lifts n → m ≡ n
    Lifts-injective m n e = cc

    Stays-not-Lifts : (n : ℕ) → Stays ≡ Lifts n → ⊥
    Stays-not-Lifts n e = cc
undo_gift bare shape w gifts hand (R.Enqueue item start left (E.ScanHead ends offset)) x fits is = absurd (cc)
undo_gift bare shape w gifts hand (R.Enqueue item start left (E.ConfirmFull ends)) x fits is = absurd (cc)
undo_gift bare shape w gifts hand (R.Enqueue item start left (E.MoveHead ends)) x fits is = absurd (cc)
undo_gift bare shape w gifts hand (R.Enqueue item start left (E.MoveTail ends)) x fits is = absurd (cc)
undo_gift bare shape w gifts hand (R.Dequeue start left D.LoadEnds) x fits is = absurd (cc)
undo_gift bare shape w gifts hand (R.Dequeue start left (D.ScanHead ends offset)) x fits is = absurd (cc)
undo_gift bare shape w gifts hand (R.Dequeue start left (D.Recheck ends seen)) x fits is = absurd (cc)
undo_gift bare shape w gifts hand (R.Dequeue start left (D.MoveTail ends index filled)) x fits is = absurd (cc)
undo_gift bare shape w gifts hand (R.Dequeue start left (D.Take ends index filled)) x fits is =
    absurd (by_test (w index == filled) is)
  where
    by_test : (b : Bool) → cond b (Takes (value_of filled)) Stays ≡ Lifts x → ⊥
    by_test true e = cc
    by_test false e = cc
undo_gift bare shape w gifts hand (R.Dequeue start left (D.MoveHead ends)) x fits is = absurd (cc)

-- what a step of a thread leaves of the tokens, by its move
pub record After {T : Type 0} (bare : Bool) (shape : Shape) (w v : ℕ → ℕ) (at : ℕ → Where) (gifts gifts' : Gifts T)
    (homes : Homes T) (thread : ℕ)
    (r : Running) (hand : Hand T) (held : List (ℕ × Option T)) (m : Move) : Type 0 where
  pub valid : Valid homes held (act_of 1 m gifts')
  pub slots : SlotsFit bare (clock_at shape.k shape.n) v (where_after thread (own_item r) m at) gifts'
      (homes_after homes held (act_of 1 m gifts'))
  pub home : AllHome (where_after thread (own_item r) m at) (homes_after homes held (act_of 1 m gifts')) thread
      (hand_after m gifts' hand).at_home
  pub out : (hand_after m gifts' hand).out ≢ 0
      → (where_after thread (own_item r) m at (hand_after m gifts' hand).out ≡ Out thread)
      × ((hand_after m gifts' hand).out ≤ length (homes_after homes held (act_of 1 m gifts')))
  pub others : (u : ℕ) (place : Option Running) (hand : Hand T) → u ≢ thread
      → ((s : Running) → place ≡ Some s → IsPlace shape s)
      → ((s : Running) → place ≡ Some s → Knows s)
      → HandFits bare w place at gifts homes u hand
      → HandFits bare v place (where_after thread (own_item r) m at) gifts'
      (homes_after homes held (act_of 1 m gifts')) u hand
  pub taken : (x : ℕ) → m ≡ Takes x → (0 < x) × IsGift bare (beside x gifts')
  pub carries : carried_after held (act_of 1 m gifts')
      ≡ slot_of (hand_after m gifts' hand).out (hand_after m gifts' hand).payload

Stays-not-Takes : (x : ℕ) → Stays ≡ Takes x → ⊥
Stays-not-Takes x e = cc

Lays-not-Takes : (i x : ℕ) → Lays i ≡ Takes x → ⊥
Lays-not-Takes i x e = cc

Lifts-not-Takes : (i x : ℕ) → Lifts i ≡ Takes x → ⊥
Lifts-not-Takes i x e = cc

Takes-injective : (i x : ℕ) → Takes i ≡ Takes x → i ≡ x
Takes-injective i x e = cc

pub within_list : {A : Type 0} (l : List A) (j : ℕ) (b : A) → get_elem? l j ≡ some b → j < length l
within_list [] j b e = absurd (some-ne-none b (sym e))
within_list (x ∷ xs) zero b e = omega arith
within_list (x ∷ xs) (suc j) b e = let h = within_list xs j b e in omega arith

slot-some : {T : Type 0} (out : ℕ) (payload : Option T) → 0 < out → slot_of out payload ≡ (out - 1, payload) ∷ []
slot-some zero payload positive = absurd (omega arith)
slot-some (suc out) payload positive = ap (λ n. (n, payload) ∷ []) (let e : out ≡ suc out - 1 = omega arith in e)

module _ {T : Type 0} (bare : Bool) (shape : Shape) (w v : ℕ → ℕ) (at : ℕ → Where) (gifts gifts' : Gifts T)
    (homes : Homes T) (thread : ℕ) (r : Running) (hand : Hand T) (held : List (ℕ × Option T))
    (same_gift : (x : ℕ) → at x ≢ Out thread → beside x gifts' ≡ beside x gifts)
    (rises : (i : ℕ) → (v i ≡ w i) ⊎ (version_of (w i) < version_of (v i)))
    (slots : SlotsFit bare (clock_at shape.k shape.n) w at gifts homes)
    (home : AllHome at homes thread hand.at_home)
    (out : hand.out ≢ 0 → (at hand.out ≡ Out thread) × (hand.out ≤ length homes))
    (stands : CallFits bare w gifts' hand (Some r))
    (held_is : held ≡ slot_of hand.out hand.payload) where
  quiet : ((i : ℕ) → 0 < i → i < clock_at shape.k shape.n → v i ≡ w i)
      → After bare shape w v at gifts gifts' homes thread r hand held Stays
  quiet same = record {
    valid = tt;
    slots = λ i above below filled. slot_on bare shape w v at at gifts gifts' homes homes thread same_gift rises
        slots refl
        (λ x t j p e. (refl, refl)) (λ x u ne e. refl) i above below (same i above below) (λ x p e. (refl, refl))
        filled;
    home = home;
    out = out;
    others = λ u place other ne is_place knows fits.
        other_hand bare shape w v at at gifts gifts' homes homes thread same_gift rises slots refl
        (λ x t j p e. (refl, refl)) (λ x u ne e. refl)
        u place other ne is_place knows fits;
    taken = λ x e. absurd (Stays-not-Takes x e);
    carries = held_is;
  }

  laid : (index : ℕ) → 0 < own_item r → out_at r ≡ own_item r → value_of (v index) ≡ own_item r
      → ((i : ℕ) → i ≢ index → v i ≡ w i)
      → After bare shape w v at gifts gifts' homes thread r hand held (Lays index)
  laid index positive mine put same = record {
    valid = tt;
    slots = λ i above below filled. slots_laid i above below filled;
    home = home_on bare shape w v at at' gifts gifts' homes homes' thread same_gift rises slots size stays_home
        stays_out thread hand.at_home home;
    out = λ some_out. absurd (some_out refl);
    others = λ u place other ne is_place knows fits.
        other_hand bare shape w v at at' gifts gifts' homes homes' thread same_gift rises slots size stays_home
        stays_out u place other ne
        is_place knows fits;
    taken = λ x e. absurd (Lays-not-Takes index x e);
    carries = ap (λ (xs : List (ℕ × Option T)). carried_after xs (act_of 1 (Lays index) gifts')) held_now;
  }
    where
      own : ℕ
      own = own_item r

      out_own : hand.out ≡ own
      out_own = out_is bare w gifts' hand r stands ∙ mine

      own_out : (at own ≡ Out thread) × (own ≤ length homes)
      own_out = subst (λ (x : ℕ). (at x ≡ Out thread) × (x ≤ length homes)) out_own
          (out (λ none_out. absurd (let e = out_own in let p = positive in omega arith)))

      held_now : held ≡ (own - 1, hand.payload) ∷ []
      held_now = held_is ∙ ap (λ x. slot_of x hand.payload) out_own ∙ slot-some own hand.payload positive

      at' : ℕ → Where
      at' = where_after thread own (Lays index) at

      homes' : Homes T
      homes' = homes_after homes held (act_of 1 (Lays index) gifts')

      homes_are : homes' ≡ slice_set homes (own - 1) (some hand.payload)
      homes_are = ap (λ (xs : List (ℕ × Option T)). put_back homes xs) held_now

      size : length homes' ≡ length homes
      size = ap length homes_are ∙ length-set homes (own - 1) (some hand.payload)

      at_other : (x : ℕ) → x ≢ own → at' x ≡ at x
      at_other x ne = ap (λ b. cond b (In index) (at x)) (ne_eqb x own ne)

      home_other : (x : ℕ) → 0 < x → x ≢ own → get_elem? homes' (x - 1) ≡ get_elem? homes (x - 1)
      home_other x p ne = ap (λ (hs : Homes T). get_elem? hs (x - 1)) homes_are
          ∙ set_else homes (own - 1) (x - 1) (some hand.payload) (λ e. ne (omega arith))

      apart : (x : ℕ) (y : Where) → at x ≡ y → y ≢ Out thread → x ≢ own
      apart x y e ne same_token = ne (sym e ∙ ap at same_token ∙ own_out.0)

      stays_home : (x t j : ℕ) → 0 < x → at x ≡ Home t j → (at' x ≡ at x)
          × (get_elem? homes' (x - 1) ≡ get_elem? homes (x - 1))
      stays_home x t j p e = let ne = apart x (Home t j) e (λ h. Out-not-Home thread t j (sym h)) in
          (at_other x ne, home_other x p ne)

      stays_out : (x u : ℕ) → u ≢ thread → at x ≡ Out u → at' x ≡ at x
      stays_out x u ne e = at_other x (apart x (Out u) e (λ h. ne (Out-injective u thread h)))

      stays_in : (i x : ℕ) → 0 < x → at x ≡ In i → (at' x ≡ at x) × (get_elem? homes' (x - 1) ≡ get_elem? homes (x - 1))
      stays_in i x p e = let ne = apart x (In i) e (λ h. In-not-Out i thread h) in (at_other x ne, home_other x p ne)

      slots_laid : SlotsFit bare (clock_at shape.k shape.n) v at' gifts' homes'
      slots_laid i above below filled =
          elim (cases_eq i index) [
            | inl here ↦
                let is : value_of (v i) ≡ own = ap (λ n. value_of (v n)) here ∙ put in
                let g = out_gift bare w gifts' hand r stands positive mine in
                let there : at' own ≡ In i = ap (λ b. cond b (In index) (at own)) (eq-eqb own own refl)
                ∙ ap In (sym here) in
                let le = own_out.1 in
                let stored : get_elem? homes' (own - 1) ≡ some (some (beside own gifts')) =
                ap (λ (hs : Homes T). get_elem? hs (own - 1)) homes_are
                ∙ set_here homes (own - 1) (some hand.payload) (omega arith)
                ∙ ap (λ (p : Option T). some (some p)) (sym g.0) in
                subst (λ (x : ℕ). (at' x ≡ In i) × IsGift bare (beside x gifts')
                × (get_elem? homes' (x - 1) ≡ some (some (beside x gifts')))) (sym is)
                (there, subst (IsGift bare) (sym g.0) g.1, stored)
            | inr else ↦ slot_on bare shape w v at at' gifts gifts' homes homes' thread same_gift rises slots size
                stays_home stays_out i above below (same i else) (stays_in i) filled
          ]

  lifted : (m : Move) (index x : ℕ) → (m ≡ Lifts x) ⊎ (m ≡ Takes x) → 0 < index → index < clock_at shape.k shape.n
      → value_of (w index) ≡ x
      → 0 < x → value_of (v index) ≡ 0 → ((i : ℕ) → i ≢ index → v i ≡ w i)
      → out_at r ≡ 0 → ((m ≡ Lifts x) → beside x gifts' ≡ hand.payload)
      → After bare shape w v at gifts gifts' homes thread r hand held m
  lifted m index x kind above below value positive gone same none_out own_gift =
      elim kind [
        | inl e ↦ subst (After bare shape w v at gifts gifts' homes thread r hand held) (sym e) (of_lift (own_gift e))
        | inr e ↦ subst (After bare shape w v at gifts gifts' homes thread r hand held) (sym e) of_take
      ]
    where
      there : (at x ≡ In index) × IsGift bare (beside x gifts)
          × (get_elem? homes (x - 1) ≡ some (some (beside x gifts)))
      there = subst (λ (y : ℕ). (at y ≡ In index) × IsGift bare (beside y gifts)
          × (get_elem? homes (y - 1) ≡ some (some (beside y gifts)))) value
          (slots index above below (λ none_there. absurd (omega arith)))

      now_gift : beside x gifts' ≡ beside x gifts
      now_gift = same_gift x (λ e. In-not-Out index thread (sym there.0 ∙ e))

      held_now : held ≡ []
      held_now = held_is ∙ ap (λ n. slot_of n hand.payload) (out_is bare w gifts' hand r stands ∙ none_out)

      at' : ℕ → Where
      at' y = cond (y == x) (Out thread) (at y)

      homes' : Homes T
      homes' = slice_set homes (x - 1) none

      size : length homes' ≡ length homes
      size = length-set homes (x - 1) none

      at_other : (y : ℕ) → y ≢ x → at' y ≡ at y
      at_other y ne = ap (λ b. cond b (Out thread) (at y)) (ne_eqb y x ne)

      home_other : (y : ℕ) → 0 < y → y ≢ x → get_elem? homes' (y - 1) ≡ get_elem? homes (y - 1)
      home_other y p ne = set_else homes (x - 1) (y - 1) none (λ e. ne (omega arith))

      apart : (y : ℕ) (z : Where) → at y ≡ z → z ≢ In index → y ≢ x
      apart y z e ne same_token = ne (sym e ∙ ap at same_token ∙ there.0)

      stays_home : (y t j : ℕ) → 0 < y → at y ≡ Home t j → (at' y ≡ at y)
          × (get_elem? homes' (y - 1) ≡ get_elem? homes (y - 1))
      stays_home y t j p e = let ne = apart y (Home t j) e (λ h. In-not-Home index t j (sym h)) in
          (at_other y ne, home_other y p ne)

      stays_out : (y u : ℕ) → u ≢ thread → at y ≡ Out u → at' y ≡ at y
      stays_out y u ne e = at_other y (apart y (Out u) e (λ h. In-not-Out index u (sym h)))

      slots_lifted : SlotsFit bare (clock_at shape.k shape.n) v at' gifts' homes'
      slots_lifted i low high filled =
          elim (cases_eq i index) [
            | inl here ↦ absurd (filled (ap (λ n. value_of (v n)) here ∙ gone))
            | inr else ↦ slot_on bare shape w v at at' gifts gifts' homes homes' thread same_gift rises slots size
                stays_home stays_out i low high (same i else)
                (λ y p e. let ne = apart y (In i) e (λ h. else (In-injective i index h)) in
                (at_other y ne, home_other y p ne)) filled
          ]

      out_now : (at' x ≡ Out thread) × (x ≤ length homes')
      out_now = (
        ap (λ b. cond b (Out thread) (at x)) (eq-eqb x x refl),
        (let inside = within_list homes (x - 1) _ there.2 in omega (arith, inside, size, positive)),
      )

      slot_now : (payload : Option T) → beside x gifts' ≡ payload → (x - 1, beside x gifts') ∷ held ≡ slot_of x payload
      slot_now payload is = (λ i. (x - 1, is i) ∷ held_now i) ∙ sym (slot-some x payload positive)

      valid_now : get_elem? homes (x - 1) ≡ some (some (beside x gifts'))
      valid_now = there.2 ∙ ap (λ (p : Option T). some (some p)) (sym now_gift)

      of_take : After bare shape w v at gifts gifts' homes thread r hand held (Takes x)
      of_take = record {
        valid = valid_now;
        slots = slots_lifted;
        home = home_on bare shape w v at at' gifts gifts' homes homes' thread same_gift rises slots size stays_home
            stays_out thread hand.at_home home;
        out = λ some_out. out_now;
        others = λ u place other ne is_place knows fits.
            other_hand bare shape w v at at' gifts gifts' homes homes' thread same_gift rises slots size stays_home
            stays_out u place other ne
            is_place knows fits;
        taken = λ y e. subst (λ (z : ℕ). (0 < z) × IsGift bare (beside z gifts')) (Takes-injective x y e)
            (positive, subst (IsGift bare) (sym now_gift) there.1);
        carries = slot_now (beside x gifts') refl;
      }

      of_lift : beside x gifts' ≡ hand.payload → After bare shape w v at gifts gifts' homes thread r hand held (Lifts x)
      of_lift own = record {
        valid = valid_now;
        slots = slots_lifted;
        home = home_on bare shape w v at at' gifts gifts' homes homes' thread same_gift rises slots size stays_home
            stays_out thread hand.at_home home;
        out = λ some_out. out_now;
        others = λ u place other ne is_place knows fits.
            other_hand bare shape w v at at' gifts gifts' homes homes' thread same_gift rises slots size stays_home
            stays_out u place other ne
            is_place knows fits;
        taken = λ y e. absurd (Lifts-not-Takes x y e);
        carries = slot_now hand.payload own;
      }

-- The step of a thread leaves each token in one place, with its payload
pub after_step : {T : Type 0} (bare : Bool) (shape : Shape) (w : ℕ → ℕ) (at : ℕ → Where) (gifts gifts' : Gifts T)
    (homes : Homes T) (thread : ℕ)
    (r : Running) (hand : Hand T) (held : List (ℕ × Option T))
    → ((x : ℕ) → at x ≢ Out thread → beside x gifts' ≡ beside x gifts)
    → ((i : ℕ) → (words_by (access shape r) w i ≡ w i)
    ⊎ (version_of (w i) < version_of (words_by (access shape r) w i)))
    → SlotsFit bare (clock_at shape.k shape.n) w at gifts homes → AllHome at homes thread hand.at_home
    → (hand.out ≢ 0 → (at hand.out ≡ Out thread) × (hand.out ≤ length homes)) → CallFits bare w gifts' hand (Some r)
    → held ≡ slot_of hand.out hand.payload
    → IsPlace shape r → Knows r
    → After bare shape w (words_by (access shape r) w) at gifts gifts' homes thread r hand held
    (move r (w (accessed (access shape r))))
after_step bare shape w at gifts gifts' homes thread r hand held same_gift rises slots home out stands held_is place
    knows =
    let v = words_by (access shape r) w in
    elim (turns shape w r place knows) [
      | Quiet e same ↦ subst (After bare shape w v at gifts gifts' homes thread r hand held) (sym e)
          (quiet bare shape w v at gifts gifts' homes thread r hand held same_gift rises slots home out stands held_is
          same)
      | Laid index e positive mine put same ↦ subst (After bare shape w v at gifts gifts' homes thread r hand held)
          (sym e)
          (laid bare shape w v at gifts gifts' homes thread r hand held same_gift rises slots home out stands held_is
          index positive mine put
          same)
      | Lifted index x kind above below value positive none_out gone same ↦
          lifted bare shape w v at gifts gifts' homes thread r hand held same_gift rises slots home out stands held_is
          (move r (w (accessed (access shape r)))) index x kind above below value positive gone same none_out
          (λ e. undo_gift bare shape w gifts' hand r x stands e)
    ]
