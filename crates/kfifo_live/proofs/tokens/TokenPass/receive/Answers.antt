-- A dequeue, and the token that was taken, with its payload.
use Rattle.std.proofs.Common.{◌≡◌, ◌-◌, [], ◌∷◌, None, Some, ap, sym, refl, ◌∙◌}
use Rattle.kfifo_live.proofs.Types.{Opening, View}
use Rattle.kfifo_live.specs.Pass.{queue_of}
use Rattle.kfifo_live.specs.Schedule.{gifts_of, seen_of}
use Rattle.kfifo_live.specs.Payloads.{PayPassView, pay_pass_view}
use Rattle.kfifo_live.proofs.Passes.{promised}
use Rattle.kfifo_live.proofs.TokenMoves.{one_payload, pass_of_hand, slot_held, taken_payload, with_slot}
use Rattle.kfifo_live.proofs.TokenCalls.{dequeues, gets_with, same_seat, token_pass}
use Rattle.kfifo_live.proofs.tokens.TokenPass.receive.Goals as goal

pub empty_slot-payload-requires-clause-token : goal.empty_slot-payload-requires-clause-token
empty_slot-payload-requires-clause-token g c =
    ((c.in-Got.ensures.gets _ _ c.self.invariant.0).taken c.in-Got.number refl).0

pub empty_slot-payload-requires-clause-holds : goal.empty_slot-payload-requires-clause-holds
empty_slot-payload-requires-clause-holds g c =
    let did = c.in-Got.ensures.gets _ _ c.self.invariant.0 in
    let found = taken_payload did
    (ap (λ (o : Opening). o.bare) (ap (λ (k : PayPassView g.row.T.Denot). k.pass.opened) c.self.view_is
    ∙ c.requires.of.1) ∙ c.requires.payloads) in
    (found.0, slot_held (did.taken c.in-Got.number refl).0 did.hand ∙ ap (λ x. (c.in-Got.number - 1, x) ∷ []) found.1)

pub lay_aside-requires : goal.lay_aside-requires
lay_aside-requires g c =
    let did = c.in-Got.ensures.gets _ _ c.self.invariant.0 in
    let some = (did.taken c.in-Got.number refl).0 in
    let empty = c.empty_slot-payload.ensures in
    let hand = with_slot None some did.hand empty.same.1 empty.holds in
    let opened = ap (λ (v : View g.row.T.Denot). v.opened) empty.same.1 ∙ did.opened in
    record {
      table = empty.same.0 ∙ c.dequeue_token.ensures.same ∙ ap (λ (k : PayPassView g.row.T.Denot). k.pass.table)
          c.self.view_is ∙ c.requires.of.0;
      opened = opened ∙ ap (λ (k : PayPassView g.row.T.Denot). k.pass.opened) c.self.view_is ∙ c.requires.of.1;
      hand = (some, (_, hand));
    }

pub invariant_of-self : goal.invariant_of-self
invariant_of-self g c =
    let did = c.in-Got.ensures.gets _ _ c.self.invariant.0 in
    let some = (did.taken c.in-Got.number refl).0 in
    let empty = c.empty_slot-payload.ensures in
    let hand = with_slot None some did.hand empty.same.1 empty.holds in
    let opened = ap (λ (v : View g.row.T.Denot). v.opened) empty.same.1 ∙ did.opened in
    let aside = c.lay_aside.ensures in
    token_pass c.self.invariant (aside.hand _ hand) (aside.same.1 ∙ opened)

pub returns-in-Got : goal.returns-in-Got
returns-in-Got g c =
    let did = c.in-Got.ensures.gets _ _ c.self.invariant.0 in
    let some = (did.taken c.in-Got.number refl).0 in
    let empty = c.empty_slot-payload.ensures in
    let hand = with_slot None some did.hand empty.same.1 empty.holds in
    let opened = ap (λ (v : View g.row.T.Denot). v.opened) empty.same.1 ∙ did.opened in
    let aside = c.lay_aside.ensures in
    let after = same_seat c.self.inside.thread c.dequeue_token.new.seat c.lay_aside.new.seat
    (aside.same.0 ∙ empty.same.0)
    (aside.same.1 ∙ ap (λ (v : View g.row.T.Denot). v.opened) empty.same.1)
    (aside.same.2 ∙ ap (λ (v : View g.row.T.Denot). seen_of v) empty.same.1)
    (aside.same.3 ∙ ap (λ (v : View g.row.T.Denot). gifts_of v) empty.same.1) in
    let found = taken_payload did
    (ap (λ (o : Opening). o.bare) (ap (λ (k : PayPassView g.row.T.Denot). k.pass.opened) c.self.view_is
    ∙ c.requires.of.1) ∙ c.requires.payloads) in
    let is = found.1 ∙ ap Some (one_payload (c.in-Got.number - 1) found.0 c.empty_slot-payload.result
    (slot_held some did.hand ∙ ap (λ x. (c.in-Got.number - 1, x) ∷ []) found.1) empty.payload) in
    let was : pay_pass_view c.self.inside.seat.table_id c.self.inside.thread c.self.inside.seat.me.0 ≡ c.args.self.now =
    c.self.view_is in
    let view = pay_pass_view c.lay_aside.new.seat.table_id c.self.inside.thread c.lay_aside.new.seat.me.0 in
    record {
      same = (
        aside.same.0 ∙ empty.same.0 ∙ c.dequeue_token.ensures.same ∙ ap (λ k. k.pass.table) was,
        aside.same.1 ∙ opened ∙ ap (λ k. k.pass.opened) was,
        ap (λ k. k.pass.thread) was,
      );
      receives = gets_with {was = c.args.self.now} {now = view} c.lay_aside.result (Some c.empty_slot-payload.result)
          did is
          (aside.token ∙ (λ i. record {
            queue = queue_of (sym c.requires.of.0 i) (sym c.requires.of.1 i);
            number = c.in-Got.number;
          })) was after
          ((aside.hand _ hand).at_home ∙ sym c.self.invariant.0.at_home);
      promise = promised _ c.lay_aside.new.seat.me (pass_of_hand (invariant_of-self g c).0);
    }

pub invariant_of-self-in-Empty : goal.invariant_of-self-in-Empty
invariant_of-self-in-Empty g c =
    let did = c.in-Empty.ensures.gets _ _ c.self.invariant.0 in
    token_pass c.self.invariant did.hand did.opened

pub returns-in-Empty : goal.returns-in-Empty
returns-in-Empty g c =
    let did = c.in-Empty.ensures.gets _ _ c.self.invariant.0 in
    let was : pay_pass_view c.self.inside.seat.table_id c.self.inside.thread c.self.inside.seat.me.0 ≡ c.args.self.now =
    c.self.view_is in
    let view = pay_pass_view c.dequeue_token.new.seat.table_id c.self.inside.thread c.dequeue_token.new.seat.me.0 in
    record {
      same = (
        c.dequeue_token.ensures.same ∙ ap (λ k. k.pass.table) was,
        did.opened ∙ ap (λ k. k.pass.opened) was,
        ap (λ k. k.pass.thread) was,
      );
      receives = dequeues {was = c.args.self.now} {now = view} did was (refl, refl)
          (did.hand.at_home ∙ sym c.self.invariant.0.at_home);
      promise = promised _ c.dequeue_token.new.seat.me (pass_of_hand (invariant_of-self-in-Empty g c).0);
    }

pub invariant_of-self-in-Busy : goal.invariant_of-self-in-Busy
invariant_of-self-in-Busy g c =
    let did = c.in-Busy.ensures.gets _ _ c.self.invariant.0 in
    token_pass c.self.invariant did.hand did.opened

pub returns-in-Busy : goal.returns-in-Busy
returns-in-Busy g c =
    let did = c.in-Busy.ensures.gets _ _ c.self.invariant.0 in
    let was : pay_pass_view c.self.inside.seat.table_id c.self.inside.thread c.self.inside.seat.me.0 ≡ c.args.self.now =
    c.self.view_is in
    let view = pay_pass_view c.dequeue_token.new.seat.table_id c.self.inside.thread c.dequeue_token.new.seat.me.0 in
    record {
      same = (
        c.dequeue_token.ensures.same ∙ ap (λ k. k.pass.table) was,
        did.opened ∙ ap (λ k. k.pass.opened) was,
        ap (λ k. k.pass.thread) was,
      );
      receives = dequeues {was = c.args.self.now} {now = view} did was (refl, refl)
          (did.hand.at_home ∙ sym c.self.invariant.0.at_home);
      promise = promised _ c.dequeue_token.new.seat.me (pass_of_hand (invariant_of-self-in-Busy g c).0);
    }

pub invariant_of-self-in-Worn : goal.invariant_of-self-in-Worn
invariant_of-self-in-Worn g c =
    let did = c.in-Worn.ensures.gets _ _ c.self.invariant.0 in
    token_pass c.self.invariant did.hand did.opened

pub returns-in-Worn : goal.returns-in-Worn
returns-in-Worn g c =
    let did = c.in-Worn.ensures.gets _ _ c.self.invariant.0 in
    let was : pay_pass_view c.self.inside.seat.table_id c.self.inside.thread c.self.inside.seat.me.0 ≡ c.args.self.now =
    c.self.view_is in
    let view = pay_pass_view c.dequeue_token.new.seat.table_id c.self.inside.thread c.dequeue_token.new.seat.me.0 in
    record {
      same = (
        c.dequeue_token.ensures.same ∙ ap (λ k. k.pass.table) was,
        did.opened ∙ ap (λ k. k.pass.opened) was,
        ap (λ k. k.pass.thread) was,
      );
      receives = dequeues {was = c.args.self.now} {now = view} did was (refl, refl)
          (did.hand.at_home ∙ sym c.self.invariant.0.at_home);
      promise = promised _ c.dequeue_token.new.seat.me (pass_of_hand (invariant_of-self-in-Worn g c).0);
    }
