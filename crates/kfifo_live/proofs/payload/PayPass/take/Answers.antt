-- A dequeue, and the payload of the token that was taken.
use Rattle.std.proofs.Common.{◌-◌, [], ◌∷◌, reverse, None, Some, ap, sym, subst, refl, ◌∙◌}
use Rattle.std.proofs.lemmas.List.{reverse-append}
use Rattle.kfifo_live.proofs.Types.{Hand, View}
use Rattle.kfifo_live.specs.declared.payload.Taken.TheVariants as K
use Rattle.kfifo_live.specs.Hands.{beside}
use Rattle.kfifo_live.specs.InHand.{pass_in}
use Rattle.kfifo_live.specs.Schedule.{gifts_of, hand_of, seen_of, with_seen}
use Rattle.kfifo_live.specs.Payloads.{PayPassView, TakesOut, TookWhatWasPut, pay_pass_view}
use Rattle.kfifo_live.proofs.Passes.{promised}
use Rattle.kfifo_live.proofs.TokenMoves.{dequeues_as, laid, one_payload, pay_hand, pay_pass, same_pass, slot_held}
use Rattle.kfifo_live.proofs.TokenMoves.{taken_payload, took_as, with_slot}
use Rattle.kfifo_live.proofs.payload.PayPass.take.Goals as goal

pub empty_slot-payload-requires-clause-token : goal.empty_slot-payload-requires-clause-token
empty_slot-payload-requires-clause-token g c =
    ((c.in-Got.ensures.gets _ _ (pay_hand c.self.invariant)).taken c.in-Got.token refl).0

pub empty_slot-payload-requires-clause-holds : goal.empty_slot-payload-requires-clause-holds
empty_slot-payload-requires-clause-holds g c =
    let did = c.in-Got.ensures.gets _ _ (pay_hand c.self.invariant) in
    let some = (did.taken c.in-Got.token refl).0 in
    let found = taken_payload did c.self.invariant.with_payloads in
    (found.0, slot_held some did.hand ∙ ap (λ x. (c.in-Got.token - 1, x) ∷ []) found.1)

pub keep_token-requires-clause-idle : goal.keep_token-requires-clause-idle
keep_token-requires-clause-idle g c =
    let did = c.in-Got.ensures.gets _ _ (pay_hand c.self.invariant) in
    let emptied = with_slot None (did.taken c.in-Got.token refl).0 did.hand c.empty_slot-payload.ensures.same.1
    c.empty_slot-payload.ensures.holds in
    (emptied.idle, emptied.some_tokens)

pub keep_token-requires-clause-token : goal.keep_token-requires-clause-token
keep_token-requires-clause-token g c =
    let did = c.in-Got.ensures.gets _ _ (pay_hand c.self.invariant) in
    let emptied = with_slot None (did.taken c.in-Got.token refl).0 did.hand c.empty_slot-payload.ensures.same.1
    c.empty_slot-payload.ensures.holds in
    ((did.taken c.in-Got.token refl).0, emptied.out)

pub keep_token-requires-clause-stacked : goal.keep_token-requires-clause-stacked
keep_token-requires-clause-stacked g c =
    let did = c.in-Got.ensures.gets _ _ (pay_hand c.self.invariant) in
    let emptied = with_slot None (did.taken c.in-Got.token refl).0 did.hand c.empty_slot-payload.ensures.same.1
    c.empty_slot-payload.ensures.holds in
    emptied.at_home

pub invariant_of-self : goal.invariant_of-self
invariant_of-self g c =
    let did = c.in-Got.ensures.gets _ _ (pay_hand c.self.invariant) in
    let empty = c.empty_slot-payload.ensures in
    let emptied = with_slot None (did.taken c.in-Got.token refl).0 did.hand empty.same.1 empty.holds in
    let k = c.keep_token.ensures in
    let opened = ap (λ (v : View g.row.T.Denot). v.opened) k.laid.0
    ∙ ap (λ (v : View g.row.T.Denot). v.opened) empty.same.1 ∙ did.opened in
    pay_pass c.self.invariant (laid (c.in-Got.token ∷ (hand_of c.empty_slot-payload.new.seat.me.0).at_home) emptied
    k.laid.0 k.laid.1) opened
    (ap (λ xs. c.in-Got.token ∷ xs) emptied.at_home
    ∙ sym (ap reverse k.stacked ∙ reverse-append c.self.inside.at_home.items (c.in-Got.token ∷ []))) k.same.1

pub returns-in-Got-clause-same : goal.returns-in-Got-clause-same
returns-in-Got-clause-same g c =
    let did = c.in-Got.ensures.gets _ _ (pay_hand c.self.invariant) in
    let empty = c.empty_slot-payload.ensures in
    let k = c.keep_token.ensures in
    let opened = ap (λ (v : View g.row.T.Denot). v.opened) k.laid.0
    ∙ ap (λ (v : View g.row.T.Denot). v.opened) empty.same.1 ∙ did.opened in (
      k.same.0 ∙ empty.same.0 ∙ c.dequeue_token.ensures.same ∙ ap (λ (k : PayPassView g.row.T.Denot). k.pass.table)
          c.self.view_is,
      opened ∙ ap (λ (k : PayPassView g.row.T.Denot). k.pass.opened) c.self.view_is,
      ap (λ (k : PayPassView g.row.T.Denot). k.pass.thread) c.self.view_is,
    )

pub returns-in-Got-clause-takes : goal.returns-in-Got-clause-takes
returns-in-Got-clause-takes g c =
    let did = c.in-Got.ensures.gets _ _ (pay_hand c.self.invariant) in
    let taken = did.taken c.in-Got.token refl in
    let empty = c.empty_slot-payload.ensures in
    let emptied = with_slot None taken.0 did.hand empty.same.1 empty.holds in
    let k = c.keep_token.ensures in
    let found = taken_payload did c.self.invariant.with_payloads in
    let is = found.1 ∙ ap Some (one_payload (c.in-Got.token - 1) found.0 c.empty_slot-payload.result
    (slot_held taken.0 did.hand ∙ ap (λ x. (c.in-Got.token - 1, x) ∷ []) found.1) empty.payload) in
    let hand : Hand g.row.T.Denot =
    record {
      at_home = c.in-Got.token ∷ (hand_of c.empty_slot-payload.new.seat.me.0).at_home;
      out = 0;
      payload = None;
    } in
    let same = same_pass c.self.inside.thread c.dequeue_token.new.seat c.keep_token.new.seat {hand = hand}
    (k.same.0 ∙ empty.same.0)
    (k.laid.0 ∙ (λ i. with_seen (empty.same.1 i) (seen_of (empty.same.1 i)) (gifts_of (empty.same.1 i)) hand)) in
    let view = pay_pass_view c.keep_token.new.seat.table_id c.self.inside.thread c.keep_token.new.seat.me.0 in
    subst (λ (x : PayPassView g.row.T.Denot). TakesOut c.args.start c.args.turns (K.Got c.empty_slot-payload.result) x
    view) c.self.view_is (
      c.in-Got.token,
      ap (λ (v : View g.row.T.Denot). (hand_of v).at_home) k.laid.0
          ∙ ap (λ xs. c.in-Got.token ∷ xs) (emptied.at_home ∙ sym c.self.invariant.stacked),
      ap (beside c.in-Got.token) same.1 ∙ taken.2 ∙ is,
      took_as same.0 same.1
          (subst (λ x. TookWhatWasPut c.in-Got.token x (pass_in c.self.inside.thread c.dequeue_token.new.seat)) is
          taken.3),
      dequeues_as (refl, same.0) (refl, same.1) did.dequeue,
    )

pub returns-in-Got-clause-promise : goal.returns-in-Got-clause-promise
returns-in-Got-clause-promise g c = promised _ c.keep_token.new.seat.me (invariant_of-self g c).pass

pub invariant_of-self-in-Empty : goal.invariant_of-self-in-Empty
invariant_of-self-in-Empty g c =
    let did = c.in-Empty.ensures.gets _ _ (pay_hand c.self.invariant) in
    pay_pass c.self.invariant did.hand did.opened refl refl

pub returns-in-Empty : goal.returns-in-Empty
returns-in-Empty g c =
    let did = c.in-Empty.ensures.gets _ _ (pay_hand c.self.invariant) in
    let view = pay_pass_view c.dequeue_token.new.seat.table_id c.self.inside.thread c.dequeue_token.new.seat.me.0 in
    record {
      same = (
        c.dequeue_token.ensures.same ∙ ap (λ (k : PayPassView g.row.T.Denot). k.pass.table) c.self.view_is,
        did.opened ∙ ap (λ (k : PayPassView g.row.T.Denot). k.pass.opened) c.self.view_is,
        ap (λ (k : PayPassView g.row.T.Denot). k.pass.thread) c.self.view_is,
      );
      takes = subst (λ (x : PayPassView g.row.T.Denot). TakesOut c.args.start c.args.turns K.Empty x view)
          c.self.view_is
          (did.hand.at_home ∙ sym c.self.invariant.stacked, dequeues_as (refl, refl) (refl, refl) did.dequeue);
      promise = promised _ c.dequeue_token.new.seat.me (invariant_of-self-in-Empty g c).pass;
    }

pub invariant_of-self-in-Busy : goal.invariant_of-self-in-Busy
invariant_of-self-in-Busy g c =
    let did = c.in-Busy.ensures.gets _ _ (pay_hand c.self.invariant) in
    pay_pass c.self.invariant did.hand did.opened refl refl

pub returns-in-Busy : goal.returns-in-Busy
returns-in-Busy g c =
    let did = c.in-Busy.ensures.gets _ _ (pay_hand c.self.invariant) in
    let view = pay_pass_view c.dequeue_token.new.seat.table_id c.self.inside.thread c.dequeue_token.new.seat.me.0 in
    record {
      same = (
        c.dequeue_token.ensures.same ∙ ap (λ (k : PayPassView g.row.T.Denot). k.pass.table) c.self.view_is,
        did.opened ∙ ap (λ (k : PayPassView g.row.T.Denot). k.pass.opened) c.self.view_is,
        ap (λ (k : PayPassView g.row.T.Denot). k.pass.thread) c.self.view_is,
      );
      takes = subst (λ (x : PayPassView g.row.T.Denot). TakesOut c.args.start c.args.turns K.Busy x view) c.self.view_is
          (did.hand.at_home ∙ sym c.self.invariant.stacked, dequeues_as (refl, refl) (refl, refl) did.dequeue);
      promise = promised _ c.dequeue_token.new.seat.me (invariant_of-self-in-Busy g c).pass;
    }

pub invariant_of-self-in-Worn : goal.invariant_of-self-in-Worn
invariant_of-self-in-Worn g c =
    let did = c.in-Worn.ensures.gets _ _ (pay_hand c.self.invariant) in
    pay_pass c.self.invariant did.hand did.opened refl refl

pub returns-in-Worn : goal.returns-in-Worn
returns-in-Worn g c =
    let did = c.in-Worn.ensures.gets _ _ (pay_hand c.self.invariant) in
    let view = pay_pass_view c.dequeue_token.new.seat.table_id c.self.inside.thread c.dequeue_token.new.seat.me.0 in
    record {
      same = (
        c.dequeue_token.ensures.same ∙ ap (λ (k : PayPassView g.row.T.Denot). k.pass.table) c.self.view_is,
        did.opened ∙ ap (λ (k : PayPassView g.row.T.Denot). k.pass.opened) c.self.view_is,
        ap (λ (k : PayPassView g.row.T.Denot). k.pass.thread) c.self.view_is,
      );
      takes = subst (λ (x : PayPassView g.row.T.Denot). TakesOut c.args.start c.args.turns K.Worn x view) c.self.view_is
          (did.hand.at_home ∙ sym c.self.invariant.stacked, dequeues_as (refl, refl) (refl, refl) did.dequeue);
      promise = promised _ c.dequeue_token.new.seat.me (invariant_of-self-in-Worn g c).pass;
    }
