-- What the step of a thread leaves of the tokens of a queue, be there any or none.
use Rattle.std.proofs.Common.{◌≡◌, ◌≢◌, ◌⊎◌, ℕ, zero, suc, ◌<◌, ◌≤◌, List, [], ◌∷◌, ◌++◌, length, Option, Some, None}
use Rattle.std.proofs.Common.{Ok, Bool, true, false, refl, sym, ap, ◌∙◌, subst, inl, inr, arith, cond}
use Rattle.std.proofs.lemmas.Bool.{cases_eq}
use Rattle.std.proofs.lemmas.List.{append-nil}
use Rattle.atomic_table.specs.Table.{Act, keeps, Valid, homes_after, carried_after}
use Rattle.kfifo_live.proofs.Types.{Begin, Event, Hand, Opening, Running, Shape}
use Rattle.kfifo_words.specs.Words.{version_of}
use Rattle.kfifo_words.specs.Ring.{clock_at}
use Rattle.kfifo_machine.specs.declared.event.Begin.TheVariants as B
use Rattle.kfifo_machine.specs.declared.place.EnqueuePhase.TheVariants as E
use Rattle.kfifo_machine.specs.declared.place.DequeuePhase.TheVariants as D
use Rattle.kfifo_machine.specs.declared.place.Running.TheVariants as R
use Rattle.kfifo_machine.specs.Program.{access, accessed, advance}
use Rattle.kfifo_machine.specs.Machine.{World, moved, found, word_at, place_of, place_after, outcome_of, begun}
use Rattle.kfifo_machine.specs.Machine.{may_begin, step}
use Rattle.kfifo_machine.specs.Runs.{event, going}
use Rattle.kfifo_machine.specs.Places.{IsPlace}
use Rattle.kfifo_machine.proofs.LostRounds.{word-moved}
use Rattle.kfifo_machine.proofs.RoundsUndisturbed.{words_by}
use Rattle.kfifo_machine.proofs.Schedules.{Some-injective, other_place, steps_on}
use Rattle.kfifo_machine.proofs.Sound.{IsSound, sound, going_place, place_is}
use Rattle.kfifo_machine.proofs.Versions.{no_going_seal, no_going_tick, one_word}
use Rattle.kfifo_machine.proofs.Budget.{own_place}
use Rattle.kfifo_live.specs.Schedule.{world_after}
use Rattle.kfifo_live.specs.Hands.{Gifts, Homes, Where, Out, Takes, move, gift, carried, beside, begun_hand, hand_after}
use Rattle.kfifo_live.specs.Hands.{slot_of, carrying, Carries, BeginsWith, IsGift, CallFits, HandFits, SlotsFit}
use Rattle.kfifo_live.specs.Hands.{AllHome, act_of, own_item, out_at, where_after}
use Rattle.kfifo_live.proofs.Balance.{Knows, know_after, going_knows}
use Rattle.kfifo_live.proofs.Hands.{After, after_step, out_is, stands_on}
use Rattle.kfifo_live.proofs.OtherHands.{beside-same, beside-other}

pub record Turned {T : Type 0} (o : Opening) (world : World) (at : ℕ → Where) (gifts : Gifts T) (homes : Homes T)
    (thread : ℕ) (begin : Option Begin) (r : Running) (hand : Hand T) (held : List (ℕ × Option T)) : Type 0 where
  pub act : Act (Option T)
  pub at_now : ℕ → Where
  pub valid : Valid homes held act
  pub slots : 0 < o.tokens → SlotsFit o.bare (clock_at o.shape.k o.shape.n) (word_at (moved o.shape world thread r))
      at_now (gifts ++ gift begin held) (homes_after homes held act)
  pub own : 0 < o.tokens
      → HandFits o.bare (word_at (moved o.shape world thread r)) (place_of (moved o.shape world thread r) thread) at_now
      (gifts ++ gift begin held) (homes_after homes held act) thread
      (hand_after (move r (found o.shape world r)) (gifts ++ gift begin held) (begun_hand begin held hand))
  pub others : 0 < o.tokens → (u : ℕ) (other : Hand T) → u ≢ thread
      → HandFits o.bare (word_at world) (place_of world u) at gifts homes u other
      → HandFits o.bare (word_at (moved o.shape world thread r)) (place_of (moved o.shape world thread r) u) at_now
      (gifts ++ gift begin held)
      (homes_after homes held act) u other
  pub taken : 0 < o.tokens → (x : ℕ) → move r (found o.shape world r) ≡ Takes x → (0 < x)
      × IsGift o.bare (beside x (gifts ++ gift begin held))
  pub out : 0 < o.tokens → (begun_hand begin held hand).out ≡ out_at r
  pub carries : carried_after held act
      ≡ carrying o.tokens (hand_after (move r (found o.shape world r)) (gifts ++ gift begin held)
      (begun_hand begin held hand)).out
      (hand_after (move r (found o.shape world r)) (gifts ++ gift begin held) (begun_hand begin held hand)).payload

-- where there are no tokens a seat holds no slot
carries_none : {T : Type 0} (place : Option Running) (n : ℕ) (hand : Hand T) (held : List (ℕ × Option T)) → n ≡ 0
    → Carries place n hand held → held ≡ []
carries_none None n hand held none c = c.1 ∙ ap (λ k. carrying k hand.out c.0) none
carries_none (Some r) n hand held none c = c ∙ ap (λ k. carrying k hand.out hand.payload) none

-- where the step goes from, the thread has its token
module _ {T : Type 0} (bare : Bool) (shape : Shape) (w : ℕ → ℕ) (gifts : Gifts T) (hand : Hand T)
    (held : List (ℕ × Option T)) (r : Running) where
  starts_call : (place : Option Running) (begin : Option Begin) → going shape place begin ≡ Some r
      → CallFits bare w gifts hand place
      → BeginsWith bare begin hand held
      → CallFits bare w (gifts ++ gift begin held) (begun_hand begin held hand) (Some r)
  starts_call None None goes fits begins = absurd (cc)
  starts_call (Some q) (Some begin) goes fits begins = absurd (cc)
  starts_call (Some q) None goes fits begins =
      subst (λ (x : Gifts T × Running). CallFits bare w x.0 hand (Some x.1))
      (λ i. (sym (append-nil gifts) i, Some-injective q r goes i)) fits
  starts_call None (Some (B.Enqueue item start turns)) goes fits begins =
      let is = begun_enqueue (may_begin shape (B.Enqueue item start turns)) goes in
      subst (λ (x : Running). CallFits bare w (gifts ++ (item, carried held) ∷ [])
      (begun_hand (Some (B.Enqueue item start turns)) held hand)
      (Some x)) (sym is) (begins.0, begins.1, beside-same item (carried held) gifts)
    where
      begun_enqueue : (may : Bool) → cond may (begun (B.Enqueue item start turns)) None ≡ Some r
          → r ≡ R.Enqueue item start turns E.LoadEnds
      begun_enqueue true e = sym (Some-injective _ _ e)
      begun_enqueue false e = absurd (cc)
  starts_call None (Some (B.Dequeue start turns)) goes fits begins =
      let is = begun_dequeue (may_begin shape (B.Dequeue start turns)) goes in
      subst (λ (x : Running). CallFits bare w (gifts ++ []) hand (Some x)) (sym is) begins
    where
      begun_dequeue : (may : Bool) → cond may (begun (B.Dequeue start turns)) None ≡ Some r
          → r ≡ R.Dequeue start turns D.LoadEnds
      begun_dequeue true e = sym (Some-injective _ _ e)
      begun_dequeue false e = absurd (cc)
  starts_call None (Some B.Tick) goes fits begins = absurd (cc)
  starts_call None (Some B.Seal) goes fits begins = absurd (cc)

  starts_held : (place : Option Running) (begin : Option Begin) (tokens : ℕ) → going shape place begin ≡ Some r
      → 0 < tokens
      → IsPlace shape r → Carries place tokens hand held → BeginsWith bare begin hand held
      → held ≡ slot_of (begun_hand begin held hand).out (begun_hand begin held hand).payload
  starts_held place begin zero goes some is_place c begins = absurd (omega arith)
  starts_held None None (suc n) goes some is_place c begins = absurd (cc)
  starts_held (Some q) (Some begin) (suc n) goes some is_place c begins = absurd (cc)
  starts_held (Some q) None (suc n) goes some is_place c begins = c
  starts_held None (Some (B.Enqueue item start turns)) (suc n) goes some is_place c begins =
      c.1 ∙ slot_again hand.out c.0 ∙ ap (λ xs. slot_of hand.out (carried xs)) (sym c.1)
    where
      slot_again : (out : ℕ) (value : Option T) → slot_of out value ≡ slot_of out (carried (slot_of out value))
      slot_again zero value = refl
      slot_again (suc out) value = refl
  starts_held None (Some (B.Dequeue start turns)) (suc n) goes some is_place c begins =
      c.1 ∙ ap (λ out. slot_of out c.0) begins ∙ sym (ap (λ out. slot_of out hand.payload) begins)
  starts_held None (Some B.Tick) (suc n) goes some is_place c begins = absurd (cc)
  starts_held None (Some B.Seal) (suc n) goes some is_place c begins = absurd (cc)

-- what begins with a token leaves the gifts of others
same_gifts : {T : Type 0} (bare : Bool) (gifts : Gifts T) (hand : Hand T) (held : List (ℕ × Option T)) (at : ℕ → Where)
    (thread : ℕ)
    (begin : Option Begin) → ((item start turns : ℕ) → begin ≡ Some (B.Enqueue item start turns) → 0 < item)
    → BeginsWith bare begin hand held
    → (hand.out ≢ 0 → at hand.out ≡ Out thread) → (x : ℕ) → at x ≢ Out thread → beside x (gifts ++ gift begin held)
    ≡ beside x gifts
same_gifts bare gifts hand held at thread None positive begins out x ne = ap (beside x) (append-nil gifts)
same_gifts bare gifts hand held at thread (Some (B.Enqueue item start turns)) positive begins out x ne =
    beside-other x item (carried held) gifts (λ same.
    ne (ap at (sym same ∙ sym begins.0) ∙ out
    (λ none_out. absurd (let e = begins.0 in let p = positive item start turns refl in omega arith))))
same_gifts bare gifts hand held at thread (Some (B.Dequeue start turns)) positive begins out x ne =
    ap (beside x) (append-nil gifts)
same_gifts bare gifts hand held at thread (Some B.Tick) positive begins out x ne = ap (beside x) (append-nil gifts)
same_gifts bare gifts hand held at thread (Some B.Seal) positive begins out x ne = ap (beside x) (append-nil gifts)

pub begun_item : (shape : Shape) (place : Option Running) (begin : Option Begin) (r : Running)
    → going shape place begin ≡ Some r
    → IsPlace shape r → (item start turns : ℕ) → begin ≡ Some (B.Enqueue item start turns) → 0 < item
begun_item shape place begin r goes is_place item start turns is =
    of_place place (ap (going shape place) (sym is) ∙ goes)
  where
    of_may : (may : Bool) → cond may (begun (B.Enqueue item start turns)) None ≡ Some r → 0 < item
    of_may true e = (subst (IsPlace shape) (sym (Some-injective _ _ e)) is_place).0
    of_may false e = absurd (cc)

    of_place : (place : Option Running) → going shape place (Some (B.Enqueue item start turns)) ≡ Some r → 0 < item
    of_place None e = of_may (may_begin shape (B.Enqueue item start turns)) e
    of_place (Some q) e = absurd (cc)

-- a call begins with the tokens that the thread had
pub same_home : {T : Type 0} (begin : Option Begin) (held : List (ℕ × Option T)) (hand : Hand T)
    → ((begun_hand begin held hand).at_home ≡ hand.at_home) × ((begun_hand begin held hand).out ≡ hand.out)
same_home None held hand = (refl, refl)
same_home (Some (B.Enqueue item start turns)) held hand = (refl, refl)
same_home (Some (B.Dequeue start turns)) held hand = (refl, refl)
same_home (Some B.Tick) held hand = (refl, refl)
same_home (Some B.Seal) held hand = (refl, refl)

found-word : (shape : Shape) (here : World) (r : Running)
    → found shape here r ≡ word_at here (accessed (access shape r))
unfolding found word_at
found-word shape here r = refl

module _ {T : Type 0} (o : Opening) (all : List Event) (world : World) (at : ℕ → Where) (gifts : Gifts T)
    (homes : Homes T) (thread : ℕ)
    (place : Option Running) (begin : Option Begin) (r : Running) (hand : Hand T) (held : List (ℕ × Option T))
    (reached : world_after o all ≡ Some world) (within : thread < length world.places)
    (stood : place_of world thread ≡ place)
    (goes : going o.shape place begin ≡ Some r)
    (slots : 0 < o.tokens → SlotsFit o.bare (clock_at o.shape.k o.shape.n) (word_at world) at gifts homes)
    (fits : 0 < o.tokens → HandFits o.bare (word_at world) place at gifts homes thread hand)
    (carries : Carries place o.tokens hand held) (begins : 0 < o.tokens → BeginsWith o.bare begin hand held) where
  is_sound : IsSound o.shape world
  is_sound = sound o.shape o.threads all world reached

  goes_now : going o.shape (place_of world thread) begin ≡ Some r
  goes_now = ap (λ p. going o.shape p begin) stood ∙ goes

  is_r : IsPlace o.shape r
  is_r = going_place o.shape (place_of world thread) begin r (λ q there. place_is o.shape world thread q is_sound there)
      goes_now

  knows_r : Knows r
  knows_r = going_knows o.shape (place_of world thread) begin r
      (λ q there. know_after o all world reached thread q there) goes_now

  made : step o.shape world (event thread begin)
      ≡ Ok (moved o.shape world thread r, outcome_of (advance o.shape r (found o.shape world r)))
  made = steps_on o.shape world (event thread begin) r within goes_now

  words_are : word_at (moved o.shape world thread r) ≡ words_by (access o.shape r) (word_at world)
  words_are = λ k i. word-moved o.shape world thread r i is_sound is_r k

  rises : (i : ℕ) → (words_by (access o.shape r) (word_at world) i ≡ word_at world i)
      ⊎ (version_of (word_at world i) < version_of (words_by (access o.shape r) (word_at world) i))
  rises i =
      let one = one_word o.shape world (event thread begin) (moved o.shape world thread r) _ is_sound made in
      let now : word_at (moved o.shape world thread r) i ≡ words_by (access o.shape r) (word_at world) i =
      ap (λ (f : ℕ → ℕ). f i) words_are in
      elim (cases_eq (word_at (moved o.shape world thread r) i) (word_at world i)) [
        | inl same ↦ inl (sym now ∙ same)
        | inr ne ↦ elim (one.only_so i ne) [
          | inl won ↦ inr (let up = (one.won i _ won).1 in let e = ap version_of now in omega arith)
          | inr (inl tick) ↦ absurd (no_going_tick o.shape (place_of world thread) begin r tick.begins goes_now)
          | inr (inr seal) ↦ absurd (no_going_seal o.shape (place_of world thread) begin r seal.begins goes_now)
        ]
      ]

  abbrev hand_now : Hand T
  hand_now = begun_hand begin held hand

  after : 0 < o.tokens → After o.bare o.shape (word_at world) (words_by (access o.shape r) (word_at world)) at gifts
      (gifts ++ gift begin held) homes thread r hand_now held (move r (word_at world (accessed (access o.shape r))))
  after some_tokens =
      let f = fits some_tokens in
      let b = begins some_tokens in
      let h = same_home begin held hand in
      after_step o.bare o.shape (word_at world) at gifts (gifts ++ gift begin held) homes thread r hand_now held
      (same_gifts o.bare gifts hand held at thread begin (begun_item o.shape place begin r goes is_r) b
      (λ some_out. (f.out some_out).0))
      rises (slots some_tokens) (subst (AllHome at homes thread) (sym h.0) f.home)
      (subst (λ (out : ℕ). out ≢ 0 → (at out ≡ Out thread) × (out ≤ length homes)) (sym h.1) f.out)
      (starts_call o.bare o.shape (word_at world) gifts hand held r place begin goes f.stands b)
      (starts_held o.bare o.shape (word_at world) gifts hand held r place begin o.tokens goes some_tokens is_r
      carries b)
      is_r knows_r

  calls : 0 < o.tokens → CallFits o.bare (words_by (access o.shape r) (word_at world)) (gifts ++ gift begin held)
      (hand_after (move r (word_at world (accessed (access o.shape r)))) (gifts ++ gift begin held) hand_now)
      (place_after (advance o.shape r (word_at world (accessed (access o.shape r)))))
  calls some_tokens =
      stands_on o.bare o.shape (word_at world) (gifts ++ gift begin held) hand_now r is_r
      (starts_call o.bare o.shape (word_at world) gifts hand held r place begin goes (fits some_tokens).stands
      (begins some_tokens))

  -- The step of a thread, be there tokens or none
  pub turned : (tokens : ℕ) → o.tokens ≡ tokens → Turned o world at gifts homes thread begin r hand held
  turned zero none_there = record {
    act = keeps;
    at_now = at;
    valid = tt;
    slots = λ some_tokens. absurd (omega arith);
    own = λ some_tokens. absurd (omega arith);
    others = λ some_tokens u other ne f. absurd (omega arith);
    taken = λ some_tokens x e. absurd (omega arith);
    out = λ some_tokens. absurd (omega arith);
    carries = carries_none place o.tokens hand held none_there carries
        ∙ sym (ap (λ (n : ℕ). carrying n (hand_after (move r (found o.shape world r)) (gifts ++ gift begin held)
        hand_now).out
        (hand_after (move r (found o.shape world r)) (gifts ++ gift begin held) hand_now).payload) none_there);
  }
  turned (suc tokens) are =
      let some_tokens : 0 < o.tokens = omega arith in
      let gifts' = gifts ++ gift begin held in
      let word = found-word o.shape world r in
      let a = subst (λ (n : ℕ). After o.bare o.shape (word_at world) (words_by (access o.shape r) (word_at world)) at
      gifts gifts' homes thread r
      hand_now held (move r n)) (sym word) (after some_tokens) in
      let m = move r (found o.shape world r) in
      let act = act_of 1 m gifts' in
      let at_now = where_after thread (own_item r) m at in
      let end = moved o.shape world thread r in
      record {
        act = act;
        at_now = at_now;
        valid = a.valid;
        slots = λ positive. subst (λ (f : ℕ → ℕ). SlotsFit o.bare (clock_at o.shape.k o.shape.n) f at_now gifts'
            (homes_after homes held act)) (sym words_are) a.slots;
        own = λ positive. record {
          home = a.home;
          out = a.out;
          stands =
              subst (λ (p : Option Running). CallFits o.bare (word_at end) gifts' (hand_after m gifts' hand_now) p)
              (sym (own_place o.shape world thread r within))
              (subst (λ (x : (ℕ → ℕ) × ℕ). CallFits o.bare x.0 gifts' (hand_after (move r x.1) gifts' hand_now)
              (place_after (advance o.shape r x.1))) (λ i. (sym words_are i, sym word i)) (calls some_tokens));
        };
        others = λ positive u other ne f.
            let g = a.others u (place_of world u) other ne (λ s there. place_is o.shape world u s is_sound there)
            (λ s there. know_after o all world reached u s there) f in
            let still = other_place o.shape world (event thread begin) end _ u ne made in
            subst (λ (x : (ℕ → ℕ) × Option Running). HandFits o.bare x.0 x.1 at_now gifts' (homes_after homes held act)
            u other)
            (λ i. (sym words_are i, sym still i)) g;
        taken = λ positive. a.taken;
        out = λ positive. out_is o.bare (word_at world) gifts' hand_now r
            (starts_call o.bare o.shape (word_at world) gifts hand held r place begin goes (fits some_tokens).stands
            (begins some_tokens));
        carries = a.carries
            ∙ sym (ap (λ (n : ℕ). carrying n (hand_after m gifts' hand_now).out (hand_after m gifts' hand_now).payload)
            are);
      }
