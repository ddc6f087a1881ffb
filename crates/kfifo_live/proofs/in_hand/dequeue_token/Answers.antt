-- The answer of the dequeue is one of these, and leaves the token that it took out with the thread.
use Rattle.std.proofs.Common.{◌≡◌, ℕ, arith, refl, subst}
use Rattle.kfifo_live.proofs.Types.{Answer}
use Rattle.kfifo_model.specs.declared.calls.Answer.TheVariants as A
use Rattle.kfifo_machine.specs.declared.place.Next.TheVariants.{Answers}
use Rattle.kfifo_live.specs.Hands.{FitsOwn}
use Rattle.kfifo_live.specs.InHand.{GetsToken}
use Rattle.kfifo_live.proofs.TokenMoves.{fits_got, gets_token}
use Rattle.kfifo_live.proofs.in_hand.dequeue_token.Goals as goal

pub unreachable-requires : goal.unreachable-requires
unreachable-requires g c =
    none_of c.dequeue.result (fits_got c.args.seat.now c.dequeue.new.seat c.requires.hand.2 c.dequeue.ensures.leads)
    c.in_default.not-Got c.in_default.not-Empty c.in_default.not-Busy c.in_default.not-Worn
  where
    none_of : (a : Answer) → FitsOwn 0 (Answers a) → ((x : ℕ) → a ≡ A.Got x → ⊥) → (a ≡ A.Empty → ⊥) → (a ≡ A.Busy → ⊥)
        → (a ≡ A.Worn → ⊥)
        → ⊥
    none_of A.Done fits got empty busy worn = omega arith
    none_of A.Full fits got empty busy worn = omega arith
    none_of (A.Got x) fits got empty busy worn = got x refl
    none_of A.Empty fits got empty busy worn = empty refl
    none_of A.Busy fits got empty busy worn = busy refl
    none_of A.Worn fits got empty busy worn = worn refl

pub returns-in-Got-clause-gets : goal.returns-in-Got-clause-gets
returns-in-Got-clause-gets g c thread home h =
    subst (λ a. GetsToken thread home c.args.start c.args.turns a c.args.seat.now c.dequeue.new.seat) c.in-Got.is
    (gets_token _ _ h c.dequeue.ensures.leads)

pub returns-in-Empty-clause-gets : goal.returns-in-Empty-clause-gets
returns-in-Empty-clause-gets g c thread home h =
    subst (λ a. GetsToken thread home c.args.start c.args.turns a c.args.seat.now c.dequeue.new.seat) c.in-Empty.is
    (gets_token _ _ h c.dequeue.ensures.leads)

pub returns-in-Busy-clause-gets : goal.returns-in-Busy-clause-gets
returns-in-Busy-clause-gets g c thread home h =
    subst (λ a. GetsToken thread home c.args.start c.args.turns a c.args.seat.now c.dequeue.new.seat) c.in-Busy.is
    (gets_token _ _ h c.dequeue.ensures.leads)

pub returns-in-Worn-clause-gets : goal.returns-in-Worn-clause-gets
returns-in-Worn-clause-gets g c thread home h =
    subst (λ a. GetsToken thread home c.args.start c.args.turns a c.args.seat.now c.dequeue.new.seat) c.in-Worn.is
    (gets_token _ _ h c.dequeue.ensures.leads)
