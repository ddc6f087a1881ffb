-- What a thread has in hand between the moves of a call with a token, and what an enqueue and a dequeue do to it.
use Rattle.std.specs.Prelude.{◌≡◌, ◌<◌, ℕ, List, [], ◌∷◌, Option, None, Result, Ok, Err}
use Rattle.atomic_table.specs.declared.shared.Seat.{Seat}
use Rattle.atomic_table.specs.Table.{Me}
use Rattle.kfifo_model.specs.declared.calls.Answer.{Answer}
use Rattle.kfifo_model.specs.declared.calls.Answer.TheVariants as A
use Rattle.kfifo_machine.specs.declared.place.Next.TheVariants.{Answers}
use Rattle.kfifo_live.specs.declared.in_hand.Refusal.{Refusal}
use Rattle.kfifo_live.specs.declared.in_hand.Refusal.TheVariants as R
use Rattle.kfifo_live.specs.declared.payload.Taken.{Taken}
use Rattle.kfifo_live.specs.declared.payload.Taken.TheVariants as K
use Rattle.kfifo_live.specs.declared.view.View.{View}
use Rattle.kfifo_live.specs.Hands.{IsGift, beside, carrying, out_next}
use Rattle.kfifo_live.specs.Schedule.{GiftsFit, IsSmall, part, seen_of, gifts_of, hand_of}
use Rattle.kfifo_live.specs.Step.{IsAt}
use Rattle.kfifo_live.specs.Payloads.{PayPassView, pay_pass_view, EnqueuesWith, DequeuesWith, TookWhatWasPut}

-- the answer of an enqueue, by what it returns
abbrev pub put_by : Result (Unit {0}) Refusal → Answer
put_by (Ok done) = A.Done
put_by (Err R.Full) = A.Full
put_by (Err R.Busy) = A.Busy
put_by (Err R.Worn) = A.Worn

-- and of a dequeue
abbrev pub got_by : Taken ℕ → Answer
got_by (K.Got token) = A.Got token
got_by K.Empty = A.Empty
got_by K.Busy = A.Busy
got_by K.Worn = A.Worn

module _ {T : Type 0} where
  -- A thread that is in no call of the machine has these tokens at home, and this one out, or 0. Its seat holds the
  -- slot of that, with this in it
  pub record HasInHand (thread : ℕ) (home : List ℕ) (token : ℕ) (payload : Option T) (me : Me (Option T) (View T))
      : Type 0 where
    pub alone : me.0.parts ≡ part thread (seen_of me.0) (gifts_of me.0) (hand_of me.0) ∷ []
    pub idle : IsAt None me
    pub few : IsSmall me.0.opened
    pub some_tokens : 0 < me.0.opened.tokens
    pub at_home : (hand_of me.0).at_home ≡ home
    pub out : (hand_of me.0).out ≡ token
    pub held : me.1 ≡ carrying me.0.opened.tokens token payload
    pub in_turn : GiftsFit me.0.opened (seen_of me.0) (gifts_of me.0)

  -- the pass of a thread, as its seat has it
  abbrev pub pass_in : ℕ → Seat (Option T) (View T) → PayPassView T
  pass_in thread seat = pay_pass_view seat.table_id thread seat.me.0

  -- An enqueue of the token that a thread has out, with this in its slot: Done leaves the thread with neither, and
  -- another answer with both
  pub record PutsToken (thread : ℕ) (home : List ℕ) (token : ℕ) (payload : Option T) (start turns : ℕ) (answer : Answer)
      (old new : Seat (Option T) (View T)) : Type 0 where
    pub enqueue : EnqueuesWith token start turns answer payload (pass_in thread old) (pass_in thread new)
    pub opened : new.me.0.opened ≡ old.me.0.opened
    pub hand : HasInHand thread home (out_next token (Answers answer)) payload new.me

  -- A dequeue: a token that was taken is then out, and its slot has what was put beside it
  pub record GetsToken (thread : ℕ) (home : List ℕ) (start turns : ℕ) (answer : Answer)
      (old new : Seat (Option T) (View T)) : Type 0 where
    pub dequeue : DequeuesWith start turns answer (pass_in thread old) (pass_in thread new)
    pub opened : new.me.0.opened ≡ old.me.0.opened
    pub payload : Option T
    pub hand : HasInHand thread home (out_next 0 (Answers answer)) payload new.me
    pub taken : (token : ℕ) → answer ≡ A.Got token → (0 < token) × IsGift new.me.0.opened.bare payload
        × (beside token (gifts_of new.me.0) ≡ payload) × TookWhatWasPut token payload (pass_in thread new)
