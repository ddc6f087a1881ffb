-- The answer of the enqueue is one of these, and leaves the token with the thread or not.
use Rattle.std.proofs.Common.{◌≡◌, ℕ, ◌<◌, arith, refl, subst}
use Rattle.kfifo_live.proofs.Types.{Answer}
use Rattle.kfifo_model.specs.declared.calls.Answer.TheVariants as A
use Rattle.kfifo_machine.specs.declared.place.Next.TheVariants.{Answers}
use Rattle.kfifo_live.specs.Hands.{FitsOwn}
use Rattle.kfifo_live.specs.InHand.{PutsToken}
use Rattle.kfifo_live.proofs.TokenMoves.{fits_put, puts_token}
use Rattle.kfifo_live.proofs.in_hand.enqueue_token.Goals as goal

pub unreachable-requires : goal.unreachable-requires
unreachable-requires g c =
    let some : 0 < c.args.token = c.requires.token.0 in
    none_of c.args.token some c.enqueue.result (fits_put c.args.seat.now c.enqueue.new.seat some c.requires.hand.3
    c.enqueue.ensures.leads)
    c.in_default.not-Done c.in_default.not-Full c.in_default.not-Busy c.in_default.not-Worn
  where
    none_of : (token : ℕ) → 0 < token → (a : Answer) → FitsOwn token (Answers a) → (a ≡ A.Done → ⊥) → (a ≡ A.Full → ⊥)
        → (a ≡ A.Busy → ⊥)
        → (a ≡ A.Worn → ⊥) → ⊥
    none_of token some A.Done fits done full busy worn = done refl
    none_of token some A.Full fits done full busy worn = full refl
    none_of token some (A.Got x) fits done full busy worn = omega arith
    none_of token some A.Empty fits done full busy worn = omega arith
    none_of token some A.Busy fits done full busy worn = busy refl
    none_of token some A.Worn fits done full busy worn = worn refl

pub returns-in-Done-clause-puts : goal.returns-in-Done-clause-puts
returns-in-Done-clause-puts g c thread home payload h =
    subst (λ a. PutsToken thread home c.args.token payload c.args.start c.args.turns a c.args.seat.now
    c.enqueue.new.seat) c.in-Done.is
    (puts_token _ _ c.requires.token.0 h c.enqueue.ensures.leads)

pub returns-in-Full-clause-puts : goal.returns-in-Full-clause-puts
returns-in-Full-clause-puts g c thread home payload h =
    subst (λ a. PutsToken thread home c.args.token payload c.args.start c.args.turns a c.args.seat.now
    c.enqueue.new.seat) c.in-Full.is
    (puts_token _ _ c.requires.token.0 h c.enqueue.ensures.leads)

pub returns-in-Busy-clause-puts : goal.returns-in-Busy-clause-puts
returns-in-Busy-clause-puts g c thread home payload h =
    subst (λ a. PutsToken thread home c.args.token payload c.args.start c.args.turns a c.args.seat.now
    c.enqueue.new.seat) c.in-Busy.is
    (puts_token _ _ c.requires.token.0 h c.enqueue.ensures.leads)

pub returns-in-Worn-clause-puts : goal.returns-in-Worn-clause-puts
returns-in-Worn-clause-puts g c thread home payload h =
    subst (λ a. PutsToken thread home c.args.token payload c.args.start c.args.turns a c.args.seat.now
    c.enqueue.new.seat) c.in-Worn.is
    (puts_token _ _ c.requires.token.0 h c.enqueue.ensures.leads)
