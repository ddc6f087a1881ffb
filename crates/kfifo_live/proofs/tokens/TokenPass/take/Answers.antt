-- A dequeue, and the token that was taken, with nothing in its slot.
use Rattle.std.proofs.Common.{◌≡◌, [], Option, None, ap, sym, subst, refl, ◌∙◌}
use Rattle.kfifo_live.proofs.Types.{Opening}
use Rattle.kfifo_live.specs.InHand.{HasInHand}
use Rattle.kfifo_live.specs.Pass.{queue_of}
use Rattle.kfifo_live.specs.Payloads.{PayPassView, pay_pass_view}
use Rattle.kfifo_live.proofs.Passes.{promised}
use Rattle.kfifo_live.proofs.TokenMoves.{pass_of_hand, taken_none}
use Rattle.kfifo_live.proofs.TokenCalls.{dequeues, gets_with, same_seat, token_pass}
use Rattle.kfifo_live.proofs.tokens.TokenPass.take.Goals as goal

pub lay_aside-requires : goal.lay_aside-requires
lay_aside-requires g c =
    let did = c.in-Got.ensures.gets _ _ c.self.invariant.0 in
    let some = (did.taken c.in-Got.number refl).0 in
    let none = taken_none did
    (ap (λ (o : Opening). o.bare) (ap (λ (k : PayPassView g.row.T.Denot). k.pass.opened) c.self.view_is
    ∙ c.requires.of.1) ∙ c.requires.bare) in
    let hand = subst (λ (x : Option g.row.T.Denot). HasInHand c.self.inside.thread [] c.in-Got.number x
    c.dequeue_token.new.seat.me) none did.hand in
    let opened = did.opened in
    record {
      table = c.dequeue_token.ensures.same ∙ ap (λ (k : PayPassView g.row.T.Denot). k.pass.table) c.self.view_is
          ∙ c.requires.of.0;
      opened = opened ∙ ap (λ (k : PayPassView g.row.T.Denot). k.pass.opened) c.self.view_is ∙ c.requires.of.1;
      hand = (some, (_, hand));
    }

pub invariant_of-self : goal.invariant_of-self
invariant_of-self g c =
    let did = c.in-Got.ensures.gets _ _ c.self.invariant.0 in
    let some = (did.taken c.in-Got.number refl).0 in
    let none = taken_none did
    (ap (λ (o : Opening). o.bare) (ap (λ (k : PayPassView g.row.T.Denot). k.pass.opened) c.self.view_is
    ∙ c.requires.of.1) ∙ c.requires.bare) in
    let hand = subst (λ (x : Option g.row.T.Denot). HasInHand c.self.inside.thread [] c.in-Got.number x
    c.dequeue_token.new.seat.me) none did.hand in
    let opened = did.opened in
    let aside = c.lay_aside.ensures in
    token_pass c.self.invariant (aside.hand _ hand) (aside.same.1 ∙ opened)

pub returns-in-Got : goal.returns-in-Got
returns-in-Got g c =
    let did = c.in-Got.ensures.gets _ _ c.self.invariant.0 in
    let some = (did.taken c.in-Got.number refl).0 in
    let none = taken_none did
    (ap (λ (o : Opening). o.bare) (ap (λ (k : PayPassView g.row.T.Denot). k.pass.opened) c.self.view_is
    ∙ c.requires.of.1) ∙ c.requires.bare) in
    let hand = subst (λ (x : Option g.row.T.Denot). HasInHand c.self.inside.thread [] c.in-Got.number x
    c.dequeue_token.new.seat.me) none did.hand in
    let opened = did.opened in
    let aside = c.lay_aside.ensures in
    let after = same_seat c.self.inside.thread c.dequeue_token.new.seat c.lay_aside.new.seat aside.same.0 aside.same.1
    aside.same.2 aside.same.3 in
    let is = none in
    let was : pay_pass_view c.self.inside.seat.table_id c.self.inside.thread c.self.inside.seat.me.0 ≡ c.args.self.now =
    c.self.view_is in
    let view = pay_pass_view c.lay_aside.new.seat.table_id c.self.inside.thread c.lay_aside.new.seat.me.0 in
    record {
      same = (
        aside.same.0 ∙ c.dequeue_token.ensures.same ∙ ap (λ k. k.pass.table) was,
        aside.same.1 ∙ opened ∙ ap (λ k. k.pass.opened) was,
        ap (λ k. k.pass.thread) was,
      );
      takes = gets_with {was = c.args.self.now} {now = view} c.lay_aside.result None did is
          (aside.token ∙ (λ i. record {
            queue = queue_of (sym c.requires.of.0 i) (sym c.requires.of.1 i);
            number = c.in-Got.number;
          })) was after
          ((aside.hand _ hand).at_home ∙ sym c.self.invariant.0.at_home);
      promise = promised _ c.lay_aside.new.seat.me (pass_of_hand (invariant_of-self g c).0);
    }

pub invariant_of-self-in-Empty : goal.invariant_of-self-in-Empty
invariant_of-self-in-Empty g c =
    let did = c.in-Empty.ensures.gets _ _ c.self.invariant.0 in
    token_pass c.self.invariant did.hand did.opened

pub returns-in-Empty : goal.returns-in-Empty
returns-in-Empty g c =
    let did = c.in-Empty.ensures.gets _ _ c.self.invariant.0 in
    let was : pay_pass_view c.self.inside.seat.table_id c.self.inside.thread c.self.inside.seat.me.0 ≡ c.args.self.now =
    c.self.view_is in
    let view = pay_pass_view c.dequeue_token.new.seat.table_id c.self.inside.thread c.dequeue_token.new.seat.me.0 in
    record {
      same = (
        c.dequeue_token.ensures.same ∙ ap (λ k. k.pass.table) was,
        did.opened ∙ ap (λ k. k.pass.opened) was,
        ap (λ k. k.pass.thread) was,
      );
      takes = dequeues {was = c.args.self.now} {now = view} did was (refl, refl)
          (did.hand.at_home ∙ sym c.self.invariant.0.at_home);
      promise = promised _ c.dequeue_token.new.seat.me (pass_of_hand (invariant_of-self-in-Empty g c).0);
    }

pub invariant_of-self-in-Busy : goal.invariant_of-self-in-Busy
invariant_of-self-in-Busy g c =
    let did = c.in-Busy.ensures.gets _ _ c.self.invariant.0 in
    token_pass c.self.invariant did.hand did.opened

pub returns-in-Busy : goal.returns-in-Busy
returns-in-Busy g c =
    let did = c.in-Busy.ensures.gets _ _ c.self.invariant.0 in
    let was : pay_pass_view c.self.inside.seat.table_id c.self.inside.thread c.self.inside.seat.me.0 ≡ c.args.self.now =
    c.self.view_is in
    let view = pay_pass_view c.dequeue_token.new.seat.table_id c.self.inside.thread c.dequeue_token.new.seat.me.0 in
    record {
      same = (
        c.dequeue_token.ensures.same ∙ ap (λ k. k.pass.table) was,
        did.opened ∙ ap (λ k. k.pass.opened) was,
        ap (λ k. k.pass.thread) was,
      );
      takes = dequeues {was = c.args.self.now} {now = view} did was (refl, refl)
          (did.hand.at_home ∙ sym c.self.invariant.0.at_home);
      promise = promised _ c.dequeue_token.new.seat.me (pass_of_hand (invariant_of-self-in-Busy g c).0);
    }

pub invariant_of-self-in-Worn : goal.invariant_of-self-in-Worn
invariant_of-self-in-Worn g c =
    let did = c.in-Worn.ensures.gets _ _ c.self.invariant.0 in
    token_pass c.self.invariant did.hand did.opened

pub returns-in-Worn : goal.returns-in-Worn
returns-in-Worn g c =
    let did = c.in-Worn.ensures.gets _ _ c.self.invariant.0 in
    let was : pay_pass_view c.self.inside.seat.table_id c.self.inside.thread c.self.inside.seat.me.0 ≡ c.args.self.now =
    c.self.view_is in
    let view = pay_pass_view c.dequeue_token.new.seat.table_id c.self.inside.thread c.dequeue_token.new.seat.me.0 in
    record {
      same = (
        c.dequeue_token.ensures.same ∙ ap (λ k. k.pass.table) was,
        did.opened ∙ ap (λ k. k.pass.opened) was,
        ap (λ k. k.pass.thread) was,
      );
      takes = dequeues {was = c.args.self.now} {now = view} did was (refl, refl)
          (did.hand.at_home ∙ sym c.self.invariant.0.at_home);
      promise = promised _ c.dequeue_token.new.seat.me (pass_of_hand (invariant_of-self-in-Worn g c).0);
    }
