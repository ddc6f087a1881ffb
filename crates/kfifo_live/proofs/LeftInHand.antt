-- Where a step leaves its thread's token.
use Rattle.std.proofs.Common.{◌≡◌, ℕ, ◌<◌, Option, Bool}
use Rattle.std.proofs.Common.{refl, sym, ap, ◌∙◌, subst, arith}
use Rattle.std.proofs.lemmas.Bool.Decides.{nat_tests}
use Rattle.kfifo_live.proofs.Types.{EnqueuePhase, Hand, Next, Running, Shape}
use Rattle.kfifo_machine.specs.declared.place.DequeuePhase.{DequeuePhase}
use Rattle.kfifo_machine.specs.declared.place.Running.TheVariants as R
use Rattle.kfifo_machine.specs.declared.place.Next.TheVariants.{Goes, Answers}
use Rattle.kfifo_model.specs.declared.calls.Answer.TheVariants.{Got}
use Rattle.kfifo_machine.specs.Program.{advance, enqueue_advance}
use Rattle.kfifo_machine.specs.Places.{IsPlace}
use Rattle.kfifo_live.specs.Hands.{FitsOwn, Gifts, Move, Stays, Lays, Lifts, Takes, move, out_at}
use Rattle.kfifo_live.specs.Hands.{own_item, beside, Leaves}
use Rattle.kfifo_live.specs.Hands.{hand_after, IsGift}
use Rattle.kfifo_live.proofs.OtherHands.{out_after, enqueue_out, dequeue_out}
use Rattle.kfifo_live.proofs.Hands.{enqueue_payload, out-hand_after}

-- where one step leaves its thread's token
abbrev NotGot : Next → Type 0
NotGot (Answers (Got item)) = ⊥
NotGot next = Unit {0}

enqueue_fits : (shape : Shape) (item start left : ℕ) (phase : EnqueuePhase) (word : ℕ) → 0 < item
    → FitsOwn item (enqueue_advance shape item start left phase word)
enqueue_fits shape item start left phase word positive = grind (arith, nat_tests)

dequeue_fits : (shape : Shape) (start left : ℕ) (phase : DequeuePhase) (word : ℕ)
    → FitsOwn 0 (advance shape (R.Dequeue start left phase) word)
dequeue_fits shape start left phase word = grind (arith, nat_tests)

abbrev SameOwn : ℕ → Next → Type 0
SameOwn own (Goes place) = own_item place ≡ own
SameOwn own (Answers answer) = Unit {0}

abbrev GotMove : Move → Next → Type 0
GotMove m (Answers (Got item)) = m ≡ Takes item
GotMove m next = Unit {0}

enqueue_not_got : (shape : Shape) (item start left : ℕ) (phase : EnqueuePhase) (word : ℕ)
    → NotGot (enqueue_advance shape item start left phase word)
enqueue_not_got shape item start left phase word = grind (arith, nat_tests)

enqueue_own : (shape : Shape) (item start left : ℕ) (phase : EnqueuePhase) (word : ℕ)
    → SameOwn item (enqueue_advance shape item start left phase word)
enqueue_own shape item start left phase word = grind (arith, nat_tests)

dequeue_own : (shape : Shape) (start left : ℕ) (phase : DequeuePhase) (word : ℕ)
    → SameOwn 0 (advance shape (R.Dequeue start left phase) word)
dequeue_own shape start left phase word = grind (arith, nat_tests)

dequeue_got : (shape : Shape) (start left : ℕ) (phase : DequeuePhase) (word : ℕ)
    → GotMove (move (R.Dequeue start left phase) word) (advance shape (R.Dequeue start left phase) word)
dequeue_got shape start left phase word = grind (arith, nat_tests)

pub leaves_step : {T : Type 0} (bare : Bool) (shape : Shape) (r : Running) (word : ℕ) (gifts : Gifts T) (hand : Hand T)
    (payload : Option T)
    → IsPlace shape r → hand.out ≡ out_at r → (0 < own_item r → hand.payload ≡ payload)
    → ((x : ℕ) → move r word ≡ Takes x → (0 < x) × IsGift bare (beside x gifts))
    → Leaves bare (own_item r) payload gifts (hand_after (move r word) gifts hand) (advance shape r word)
leaves_step bare shape (R.Enqueue item start left phase) word gifts hand payload place out is takes_some =
    let r = R.Enqueue item start left phase in
    record {
      out = out-hand_after (move r word) gifts hand ∙ ap (λ o. out_after o (move r word)) out
          ∙ sym (enqueue_out shape item start left phase word);
      kept = λ positive. enqueue_payload item start left phase word gifts hand ∙ is positive;
      taken = λ got e. absurd (subst NotGot e (enqueue_not_got shape item start left phase word));
      fits = enqueue_fits shape item start left phase word place.0;
      same_own = λ place e. subst (SameOwn item) e (enqueue_own shape item start left phase word);
    }
leaves_step bare shape (R.Dequeue start left phase) word gifts hand payload place out is takes_some =
    let r = R.Dequeue start left phase in
    record {
      out = out-hand_after (move r word) gifts hand ∙ ap (λ o. out_after o (move r word)) out
          ∙ sym (dequeue_out shape start left phase word);
      kept = λ positive. absurd (omega arith);
      taken = λ got e.
          let m = subst (GotMove (move r word)) e (dequeue_got shape start left phase word) in
          let some = takes_some got m in
          (some.0, ap (λ m. (hand_after m gifts hand).payload) m, some.1);
      fits = dequeue_fits shape start left phase word;
      same_own = λ place e. subst (SameOwn 0) e (dequeue_own shape start left phase word);
    }

-- a step leaves the tokens at home
pub home_step : {T : Type 0} (m : Move) (gifts : Gifts T) (hand : Hand T) → (hand_after m gifts hand).at_home
    ≡ hand.at_home
home_step Stays gifts hand = refl
home_step (Lays index) gifts hand = refl
home_step (Lifts item) gifts hand = refl
home_step (Takes item) gifts hand = refl
