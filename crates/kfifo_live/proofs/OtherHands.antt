-- What a step of a thread leaves to the others: their tokens and slots.
use Rattle.std.proofs.Common.{◌≡◌, ◌≢◌, ◌⊎◌, ℕ, zero, suc, ◌-◌, ◌<◌, List, [], ◌∷◌, ◌++◌, length, Option, Some, None}
use Rattle.std.proofs.Common.{Bool, refl, sym, ap, ◌∙◌, subst, inl, inr, arith, cond, eq-eqb, ne_eqb}
use Rattle.std.specs.Prelude.{◌==◌}
use Rattle.std.proofs.lemmas.Bool.{cases_eq}
use Rattle.std.proofs.lemmas.Bool.Decides.{nat_tests}
use mathlib.Core.Option.{some}
use lib.ListN.{get_elem?}
use Rattle.kfifo_live.proofs.Types.{EnqueuePhase, Hand, Next, Running, Shape}
use Rattle.kfifo_words.specs.Words.{value_of, version_of}
use Rattle.kfifo_words.specs.Ring.{clock_at}
use Rattle.kfifo_machine.specs.declared.place.EnqueuePhase.TheVariants as E
use Rattle.kfifo_machine.specs.declared.place.DequeuePhase.{DequeuePhase}
use Rattle.kfifo_machine.specs.declared.place.DequeuePhase.TheVariants as D
use Rattle.kfifo_machine.specs.declared.place.Running.TheVariants as R
use Rattle.kfifo_machine.specs.declared.place.Next.TheVariants.{Goes, Answers}
use Rattle.kfifo_machine.specs.declared.place.Access.TheVariants.{Exchange}
use Rattle.kfifo_machine.specs.Program.{access, accessed, advance, emptied, enqueue_advance, filled_with}
use Rattle.kfifo_machine.specs.Places.{IsPlace}
use Rattle.kfifo_machine.proofs.EndsUndisturbed.{slots_stay}
use Rattle.kfifo_machine.proofs.RoundsUndisturbed.{words_by}
use Rattle.kfifo_machine.proofs.Tokens.{EnqueueKnows, value-emptied, value-filled_with}
use Rattle.kfifo_live.specs.Hands.{Gifts, Homes, Where, Home, Out, In, Move, Stays, Lays, Lifts, Takes, move, out_in}
use Rattle.kfifo_live.specs.Hands.{out_at, own_item, out_next, last_gift, beside, AllHome, PutFits, GiftFits, CallFits}
use Rattle.kfifo_live.specs.Hands.{HandFits, SlotsFit, IsGift}
use Rattle.kfifo_live.proofs.Balance.{DequeueKnows, Knows}

-- the last gift of an item, after one more
last_gift-snoc : {T : Type 0} (item x : ℕ) (found p : Option T) (gifts : Gifts T)
    → last_gift item found (gifts ++ (x, p) ∷ []) ≡ cond (x == item) p (last_gift item found gifts)
last_gift-snoc item x found p [] = refl
last_gift-snoc item x found p (g ∷ gs) = last_gift-snoc item x (cond (g.0 == item) g.1 found) p gs

pub beside-same : {T : Type 0} (x : ℕ) (p : Option T) (gifts : Gifts T) → beside x (gifts ++ (x, p) ∷ []) ≡ p
beside-same x p gifts = last_gift-snoc x x None p gifts ∙ ap (λ b. cond b p (beside x gifts)) (eq-eqb x x refl)

pub beside-other : {T : Type 0} (item x : ℕ) (p : Option T) (gifts : Gifts T) → x ≢ item
    → beside item (gifts ++ (x, p) ∷ []) ≡ beside item gifts
beside-other item x p gifts ne = last_gift-snoc item x None p gifts
    ∙ ap (λ b. cond b p (beside item gifts)) (ne_eqb x item ne)

-- what a step does to the slots and the tokens
pub data Turn (c : ℕ) (w v : ℕ → ℕ) (r : Running) (m : Move) : Type 0 where
  Quiet : m ≡ Stays → ((i : ℕ) → 0 < i → i < c → v i ≡ w i) → Turn c w v r m
  Laid : (index : ℕ) → m ≡ Lays index → 0 < own_item r → out_at r ≡ own_item r → value_of (v index) ≡ own_item r
      → ((i : ℕ) → i ≢ index → v i ≡ w i) → Turn c w v r m
  Lifted : (index x : ℕ) → (m ≡ Lifts x) ⊎ (m ≡ Takes x) → 0 < index → index < c → value_of (w index) ≡ x → 0 < x
      → out_at r ≡ 0
      → value_of (v index) ≡ 0 → ((i : ℕ) → i ≢ index → v i ≡ w i) → Turn c w v r m

other_word : (w : ℕ → ℕ) (index from to i : ℕ) → i ≢ index → words_by (Exchange index from to) w i ≡ w i
other_word w index from to i ne = grind (arith, nat_tests)

pub this_word : (w : ℕ → ℕ) (index from to : ℕ) → w index ≡ from → words_by (Exchange index from to) w index ≡ to
this_word w index from to won = grind (arith, nat_tests)

pub lost_word : (w : ℕ → ℕ) (index from to i : ℕ) → w index ≢ from → words_by (Exchange index from to) w i ≡ w i
lost_word w index from to i lost = grind (arith, nat_tests)

pub won_move : (word from : ℕ) (m : Move) → word ≡ from → cond (word == from) m Stays ≡ m
won_move word from m won = ap (λ b. cond b m Stays) (eq-eqb word from won)

pub lost_move : (word from : ℕ) (m : Move) → word ≢ from → cond (word == from) m Stays ≡ Stays
lost_move word from m lost = ap (λ b. cond b m Stays) (ne_eqb word from lost)

above_zero : (n : ℕ) → n ≢ 0 → 0 < n
above_zero zero ne = absurd (ne refl)
above_zero (suc n) ne = omega arith

module _ (shape : Shape) (w : ℕ → ℕ) where
  abbrev pub Turns : Running → Type 0
  Turns r = Turn (clock_at shape.k shape.n) w (words_by (access shape r) w) r (move r (w (accessed (access shape r))))

  turns_enqueue : (item start left : ℕ) (phase : EnqueuePhase) → IsPlace shape (R.Enqueue item start left phase)
      → EnqueueKnows item phase
      → Turns (R.Enqueue item start left phase)
  turns_enqueue item start left E.LoadEnds place knows = Quiet refl (λ i a b. refl)
  turns_enqueue item start left (E.ScanTail ends offset) place knows = Quiet refl (λ i a b. refl)
  turns_enqueue item start left (E.Recheck ends seen) place knows = Quiet refl (λ i a b. refl)
  turns_enqueue item start left (E.Put ends index empty) place knows =
      elim (cases_eq (w index) empty) [
        | inl won ↦ Laid index (won_move (w index) empty (Lays index) won) place.0 refl
            (ap value_of (this_word w index empty (filled_with item empty) won) ∙ value-filled_with item empty place.1)
            (λ i ne. other_word w index empty (filled_with item empty) i ne)
        | inr lost ↦
            Quiet (lost_move (w index) empty (Lays index) lost)
            (λ i a b. lost_word w index empty (filled_with item empty) i lost)
      ]
  turns_enqueue item start left (E.ReloadSlot ends index filled) place knows = Quiet refl (λ i a b. refl)
  turns_enqueue item start left (E.ReloadEnds ends index filled) place knows = Quiet refl (λ i a b. refl)
  turns_enqueue item start left (E.HoldHead ends index filled held) place knows =
      Quiet refl (λ i a b. slots_stay w held _ i a)
  turns_enqueue item start left (E.Undo index filled worn) place knows =
      elim (cases_eq (w index) filled) [
        | inl won ↦ Lifted index item (inl (won_move (w index) filled (Lifts item) won)) place.4.1.above place.4.1.below
            (ap value_of won ∙ knows) place.0 refl
            (ap value_of (this_word w index filled (emptied filled) won) ∙ value-emptied filled)
            (λ i ne. other_word w index filled (emptied filled) i ne)
        | inr lost ↦
            Quiet (lost_move (w index) filled (Lifts item) lost) (λ i a b. lost_word w index filled (emptied filled) i
            lost)
      ]
  turns_enqueue item start left (E.ScanHead ends offset) place knows = Quiet refl (λ i a b. refl)
  turns_enqueue item start left (E.ConfirmFull ends) place knows = Quiet refl (λ i a b. refl)
  turns_enqueue item start left (E.MoveHead ends) place knows = Quiet refl (λ i a b. slots_stay w ends _ i a)
  turns_enqueue item start left (E.MoveTail ends) place knows = Quiet refl (λ i a b. slots_stay w ends _ i a)

  turns_dequeue : (start left : ℕ) (phase : DequeuePhase) → IsPlace shape (R.Dequeue start left phase)
      → DequeueKnows phase
      → Turns (R.Dequeue start left phase)
  turns_dequeue start left D.LoadEnds place knows = Quiet refl (λ i a b. refl)
  turns_dequeue start left (D.ScanHead ends offset) place knows = Quiet refl (λ i a b. refl)
  turns_dequeue start left (D.Recheck ends seen) place knows = Quiet refl (λ i a b. refl)
  turns_dequeue start left (D.MoveTail ends index filled) place knows = Quiet refl (λ i a b. slots_stay w ends _ i a)
  turns_dequeue start left (D.Take ends index filled) place knows =
      elim (cases_eq (w index) filled) [
        | inl won ↦ Lifted index (value_of filled) (inr (won_move (w index) filled (Takes (value_of filled)) won))
            place.2.1.above place.2.1.below (ap value_of won) (above_zero (value_of filled) knows) refl
            (ap value_of (this_word w index filled (emptied filled) won) ∙ value-emptied filled)
            (λ i ne. other_word w index filled (emptied filled) i ne)
        | inr lost ↦ Quiet (lost_move (w index) filled (Takes (value_of filled)) lost)
            (λ i a b. lost_word w index filled (emptied filled) i lost)
      ]
  turns_dequeue start left (D.MoveHead ends) place knows = Quiet refl (λ i a b. slots_stay w ends _ i a)

  pub turns : (r : Running) → IsPlace shape r → Knows r → Turns r
  turns (R.Enqueue item start left phase) place knows = turns_enqueue item start left phase place knows
  turns (R.Dequeue start left phase) place knows = turns_dequeue start left phase place knows

-- the token that is out, along the program
unfoldable pub out_after : ℕ → Move → ℕ
out_after out Stays = out
out_after out (Lays index) = 0
out_after out (Lifts item) = item
out_after out (Takes item) = item

pub enqueue_out : (shape : Shape) (item start left : ℕ) (phase : EnqueuePhase) (word : ℕ)
    → out_next item (enqueue_advance shape item start left phase word)
    ≡ out_after (out_in item phase) (move (R.Enqueue item start left phase) word)
unfolding out_after
enqueue_out shape item start left phase word = grind (arith, nat_tests)

pub dequeue_out : (shape : Shape) (start left : ℕ) (phase : DequeuePhase) (word : ℕ)
    → out_next 0 (advance shape (R.Dequeue start left phase) word)
    ≡ out_after 0 (move (R.Dequeue start left phase) word)
unfolding out_after
dequeue_out shape start left phase word = grind (arith, nat_tests)

-- the gift of an enqueue, along the program
abbrev pub NextGift : {T : Type 0} → (ℕ → ℕ) → Gifts T → Option T → Next → Type 0
NextGift words gifts payload (Goes (R.Enqueue item start left phase)) = GiftFits words gifts payload item phase
NextGift words gifts payload (Goes (R.Dequeue start left phase)) = Unit {0}
NextGift words gifts payload (Answers answer) = Unit {0}

module _ {T : Type 0} (shape : Shape) (w : ℕ → ℕ) (gifts : Gifts T) (payload : Option T) (item start left : ℕ) where
  pub held_on : (phase : EnqueuePhase) (v : ℕ → ℕ) (word : ℕ) → move (R.Enqueue item start left phase) word ≡ Stays
      → out_in item phase ≡ item → 0 < item → beside item gifts ≡ payload
      → NextGift v gifts payload (enqueue_advance shape item start left phase word)
  held_on phase v word stays out positive is = grind (arith, nat_tests)

-- an item that was put
module _ {T : Type 0} (shape : Shape) (w : ℕ → ℕ) (gifts : Gifts T) (payload : Option T) (item start left : ℕ) where
  pub put_on : (phase : EnqueuePhase) (v : ℕ → ℕ) (word : ℕ) → move (R.Enqueue item start left phase) word ≡ Stays
      → out_in item phase ≡ 0
      → 0 < item
      → ((index filled : ℕ) → PutFits w gifts payload item index filled → PutFits v gifts payload item index filled)
      → GiftFits w gifts payload item phase
      → NextGift v gifts payload (enqueue_advance shape item start left phase word)
  put_on phase v word stays out positive same fits = grind (arith, nat_tests)

pub Out-injective : (t u : ℕ) → Out t ≡ Out u → t ≡ u
Out-injective t u e = cc

pub In-not-Out : (i u : ℕ) → In i ≡ Out u → ⊥
In-not-Out i u e = cc

pub In-not-Home : (i u j : ℕ) → In i ≡ Home u j → ⊥
In-not-Home i u j e = cc

pub Out-not-Home : (i u j : ℕ) → Out i ≡ Home u j → ⊥
Out-not-Home i u j e = cc

pub In-injective : (i j : ℕ) → In i ≡ In j → i ≡ j
In-injective i j e = cc

module _ {T : Type 0} (bare : Bool) (shape : Shape) (w v : ℕ → ℕ) (at at' : ℕ → Where) (gifts gifts' : Gifts T)
    (homes homes' : Homes T) (thread : ℕ)
    (same_gift : (x : ℕ) → at x ≢ Out thread → beside x gifts' ≡ beside x gifts)
    (rises : (i : ℕ) → (v i ≡ w i) ⊎ (version_of (w i) < version_of (v i)))
    (slots : SlotsFit bare (clock_at shape.k shape.n) w at gifts homes)
    (size : length homes' ≡ length homes)
    (stays_home : (x t j : ℕ) → 0 < x → at x ≡ Home t j → (at' x ≡ at x)
    × (get_elem? homes' (x - 1) ≡ get_elem? homes (x - 1)))
    (stays_out : (x u : ℕ) → u ≢ thread → at x ≡ Out u → at' x ≡ at x) where
  pub home_on : (t : ℕ) (xs : List ℕ) → AllHome at homes t xs → AllHome at' homes' t xs
  home_on t [] a = tt
  home_on t (x ∷ xs) a =
      let s = stays_home x t (length xs) a.0.0 a.0.1 in
      ((a.0.0, s.0 ∙ a.0.1, s.1 ∙ a.0.2), home_on t xs a.1)

  gift_held : (u item : ℕ) (payload : Option T) → u ≢ thread → at item ≡ Out u → beside item gifts ≡ payload
      → beside item gifts' ≡ payload
  gift_held u item payload ne there is = same_gift item (λ e. ne (Out-injective u thread (sym there ∙ e))) ∙ is

  gift_put : (item index filled : ℕ) (payload : Option T) → 0 < item → value_of filled ≡ item → 0 < index
      → index < clock_at shape.k shape.n
      → PutFits w gifts payload item index filled → PutFits v gifts' payload item index filled
  gift_put item index filled payload positive value above below fits =
      elim (rises index) [
        | inl same ↦ (
          (let e = ap version_of same in let le = fits.0 in omega arith),
          λ is.
              let was : w index ≡ filled = sym same ∙ is in
              let stands : value_of (w index) ≡ item = ap value_of was ∙ value in
              let there : at item ≡ In index = ap at (sym stands)
              ∙ (slots index above below (λ none. absurd (omega arith))).0 in
              same_gift item (λ e. In-not-Out index thread (sym there ∙ e)) ∙ fits.1 was,
        )
        | inr more ↦ (
          (let le = fits.0 in omega arith),
          λ is. absurd (let e = ap version_of is in let le = fits.0 in omega arith),
        )
      ]

  gift_other : (u item start left : ℕ) (phase : EnqueuePhase) (payload : Option T) → u ≢ thread
      → IsPlace shape (R.Enqueue item start left phase) → EnqueueKnows item phase
      → (out_in item phase ≢ 0 → at (out_in item phase) ≡ Out u) → GiftFits w gifts payload item phase
      → GiftFits v gifts' payload item phase
  gift_other u item start left E.LoadEnds payload ne place knows out fits =
      gift_held u item payload ne (out (λ none. absurd (let positive = place.0 in omega arith))) fits
  gift_other u item start left (E.ScanTail ends offset) payload ne place knows out fits =
      gift_held u item payload ne (out (λ none. absurd (let positive = place.0 in omega arith))) fits
  gift_other u item start left (E.Recheck ends seen) payload ne place knows out fits =
      gift_held u item payload ne (out (λ none. absurd (let positive = place.0 in omega arith))) fits
  gift_other u item start left (E.Put ends index empty) payload ne place knows out fits =
      gift_held u item payload ne (out (λ none. absurd (let positive = place.0 in omega arith))) fits
  gift_other u item start left (E.ReloadSlot ends index filled) payload ne place knows out fits =
      gift_put item index filled payload place.0 knows place.4.2.above place.4.2.below fits
  gift_other u item start left (E.ReloadEnds ends index filled) payload ne place knows out fits =
      gift_put item index filled payload place.0 knows place.4.2.above place.4.2.below fits
  gift_other u item start left (E.HoldHead ends index filled held) payload ne place knows out fits =
      gift_put item index filled payload place.0 knows place.4.4.above place.4.4.below fits
  gift_other u item start left (E.Undo index filled worn) payload ne place knows out fits =
      gift_put item index filled payload place.0 knows place.4.1.above place.4.1.below fits
  gift_other u item start left (E.ScanHead ends offset) payload ne place knows out fits =
      gift_held u item payload ne (out (λ none. absurd (let positive = place.0 in omega arith))) fits
  gift_other u item start left (E.ConfirmFull ends) payload ne place knows out fits =
      gift_held u item payload ne (out (λ none. absurd (let positive = place.0 in omega arith))) fits
  gift_other u item start left (E.MoveHead ends) payload ne place knows out fits =
      gift_held u item payload ne (out (λ none. absurd (let positive = place.0 in omega arith))) fits
  gift_other u item start left (E.MoveTail ends) payload ne place knows out fits =
      gift_held u item payload ne (out (λ none. absurd (let positive = place.0 in omega arith))) fits

  calls_other : (u : ℕ) (place : Option Running) (hand : Hand T) → u ≢ thread
      → ((r : Running) → place ≡ Some r → IsPlace shape r)
      → ((r : Running) → place ≡ Some r → Knows r) → (hand.out ≢ 0 → at hand.out ≡ Out u)
      → CallFits bare w gifts hand place → CallFits bare v gifts' hand place
  calls_other u None hand ne is_place knows out fits = tt
  calls_other u (Some (R.Dequeue start left phase)) hand ne is_place knows out fits = fits
  calls_other u (Some (R.Enqueue item start left phase)) hand ne is_place knows out fits = (
    fits.0,
    fits.1,
    gift_other u item start left phase hand.payload ne (is_place (R.Enqueue item start left phase) refl)
        (knows (R.Enqueue item start left phase) refl)
        (λ some_out. ap at (sym fits.0) ∙ out (λ none_out. some_out (sym fits.0 ∙ none_out))) fits.2,
  )

  -- the hand of another thread
  pub other_hand : (u : ℕ) (place : Option Running) (hand : Hand T) → u ≢ thread
      → ((r : Running) → place ≡ Some r → IsPlace shape r)
      → ((r : Running) → place ≡ Some r → Knows r)
      → HandFits bare w place at gifts homes u hand → HandFits bare v place at' gifts' homes' u hand
  other_hand u place hand ne is_place knows fits = record {
    home = home_on u hand.at_home fits.home;
    out = λ some_out. let o = fits.out some_out in (stays_out hand.out u ne o.0 ∙ o.0, (let le = o.1 in omega arith));
    stands = calls_other u place hand ne is_place knows (λ some_out. (fits.out some_out).0) fits.stands;
  }

  -- a slot whose word and token stay
  pub slot_on : (i : ℕ) → 0 < i → i < clock_at shape.k shape.n → v i ≡ w i
      → ((x : ℕ) → 0 < x → at x ≡ In i → (at' x ≡ at x) × (get_elem? homes' (x - 1) ≡ get_elem? homes (x - 1)))
      → value_of (v i) ≢ 0 → (at' (value_of (v i)) ≡ In i) × IsGift bare (beside (value_of (v i)) gifts')
      × (get_elem? homes' (value_of (v i) - 1) ≡ some (some (beside (value_of (v i)) gifts')))
  slot_on i above below same stays filled = subst
      (λ (x : ℕ). (at' x ≡ In i) × IsGift bare (beside x gifts')
      × (get_elem? homes' (x - 1) ≡ some (some (beside x gifts')))) (ap value_of (sym same)) of_old
    where
      of_old : (at' (value_of (w i)) ≡ In i) × IsGift bare (beside (value_of (w i)) gifts')
          × (get_elem? homes' (value_of (w i) - 1) ≡ some (some (beside (value_of (w i)) gifts')))
      of_old =
          let x = value_of (w i) in
          let filled_before : x ≢ 0 = λ none. filled (ap value_of same ∙ none) in
          let s = slots i above below filled_before in
          let stay = stays x (above_zero x filled_before) s.0 in
          let g = same_gift x (λ e. In-not-Out i thread (sym s.0 ∙ e)) in
          (stay.0 ∙ s.0, subst (IsGift bare) (sym g) s.1, stay.1 ∙ s.2 ∙ ap (λ (p : Option T). some (some p)) (sym g))
