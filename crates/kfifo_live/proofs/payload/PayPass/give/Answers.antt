-- The payload goes into the slot of the next token, and an enqueue puts the token; a refusal takes both back.
use Rattle.std.proofs.Common.{◌≡◌, ◌-◌, ◌*◌, [], ◌∷◌, reverse, Err, None, Some, ap, arith, sym, subst, refl, ◌∙◌}
use Rattle.std.proofs.lemmas.List.{reverse-append}
use Rattle.kfifo_live.proofs.Types.{Hand, Opening, View}
use Rattle.kfifo_live.specs.declared.in_hand.Refusal.{Refusal}
use Rattle.kfifo_live.specs.declared.in_hand.Refusal.TheVariants as R
use Rattle.kfifo_live.specs.declared.payload.Given.{Given}
use Rattle.kfifo_live.specs.declared.payload.Given.TheVariants as G
use Rattle.kfifo_live.specs.Hands.{IsGift}
use Rattle.kfifo_live.specs.InHand.{put_by}
use Rattle.kfifo_live.specs.Schedule.{gifts_of, hand_of, seen_of, with_seen}
use Rattle.kfifo_live.specs.Pass.{OpenQueue}
use Rattle.kfifo_live.specs.Payloads.{Gives, PayPassView, Refuses, pay_opening, pay_pass_view}
use Rattle.kfifo_live.proofs.Passes.{promised}
use Rattle.kfifo_live.proofs.TokenMoves.{gives_first, gives_named, gives_out, kept_out, laid, one_payload, pay_pass}
use Rattle.kfifo_live.proofs.TokenMoves.{slot_held, enqueues_as, same_pass, with_slot}
use Rattle.kfifo_live.proofs.payload.PayPass.give.Goals as goal
use Rattle.kfifo_live.proofs.payload.PayPass.give.Goals.{in-Full, in-Busy, in-Worn}

pub returns-in_default-clause-promise : goal.returns-in_default-clause-promise
returns-in_default-clause-promise g c = promised _ c.self.inside.seat.me c.self.invariant.pass

pub enqueue_token-requires-clause-hand : goal.enqueue_token-requires-clause-hand
enqueue_token-requires-clause-hand g c =
    let out = gives_out c.pop.new.self.items c.self.inside.seat c.draw_token.new.seat c.fill_slot.new.seat
    c.self.invariant c.in-Some.ensures.items c.draw_token.ensures.draws c.fill_slot.ensures.same
    c.fill_slot.ensures.holds in
    let kind = ap (λ (v : View g.row.T.Denot). v.opened.bare)
    (c.fill_slot.ensures.same.1 ∙ c.draw_token.ensures.draws.afterwards)
    ∙ c.self.invariant.with_payloads in
    (_, _, _, out, subst (λ b. IsGift b (Some c.args.payload)) (sym kind) (c.args.payload, refl))

pub invariant_of-self-in_default-enqueue_token : goal.invariant_of-self-in_default-enqueue_token
invariant_of-self-in_default-enqueue_token g c =
    let out = gives_out c.pop.new.self.items c.self.inside.seat c.draw_token.new.seat c.fill_slot.new.seat
    c.self.invariant c.in-Some.ensures.items c.draw_token.ensures.draws c.fill_slot.ensures.same
    c.fill_slot.ensures.holds in
    let did = c.in_default-enqueue_token.ensures.puts _ _ _ out in
    let opened =
    ap (λ (v : View g.row.T.Denot). v.opened)
    (c.fill_slot.ensures.same.1 ∙ c.draw_token.ensures.draws.afterwards) in
    pay_pass c.self.invariant did.hand (did.opened ∙ opened) refl c.pop.ensures.capacity

pub returns-in_default-enqueue_token-clause-same : goal.returns-in_default-enqueue_token-clause-same
returns-in_default-enqueue_token-clause-same g c =
    let out = gives_out c.pop.new.self.items c.self.inside.seat c.draw_token.new.seat c.fill_slot.new.seat
    c.self.invariant c.in-Some.ensures.items c.draw_token.ensures.draws c.fill_slot.ensures.same
    c.fill_slot.ensures.holds in
    let did = c.in_default-enqueue_token.ensures.puts _ _ _ out in
    let opened =
    ap (λ (v : View g.row.T.Denot). v.opened)
    (c.fill_slot.ensures.same.1 ∙ c.draw_token.ensures.draws.afterwards) in (
      c.enqueue_token.ensures.same ∙ c.fill_slot.ensures.same.0 ∙ c.draw_token.ensures.same
          ∙ ap (λ (k : PayPassView g.row.T.Denot). k.pass.table) c.self.view_is,
      did.opened ∙ opened ∙ ap (λ (k : PayPassView g.row.T.Denot). k.pass.opened) c.self.view_is,
      ap (λ (k : PayPassView g.row.T.Denot). k.pass.thread) c.self.view_is,
    )

pub returns-in_default-enqueue_token-clause-gives : goal.returns-in_default-enqueue_token-clause-gives
returns-in_default-enqueue_token-clause-gives g c =
    let out = gives_out c.pop.new.self.items c.self.inside.seat c.draw_token.new.seat c.fill_slot.new.seat
    c.self.invariant c.in-Some.ensures.items c.draw_token.ensures.draws c.fill_slot.ensures.same
    c.fill_slot.ensures.holds in
    let did = c.in_default-enqueue_token.ensures.puts _ _ _ out in
    let first = gives_first c.pop.new.self.items c.self.inside.seat c.draw_token.new.seat c.fill_slot.new.seat
    c.self.invariant c.in-Some.ensures.items c.draw_token.ensures.draws c.fill_slot.ensures.same
    c.fill_slot.ensures.holds in
    let same = same_pass c.self.inside.thread c.self.inside.seat c.fill_slot.new.seat
    (c.fill_slot.ensures.same.0 ∙ c.draw_token.ensures.same)
    (c.fill_slot.ensures.same.1 ∙ c.draw_token.ensures.draws.afterwards) in
    subst (λ (k : PayPassView g.row.T.Denot). Gives c.args.start c.args.turns c.args.payload G.Done k
    (pay_pass_view c.enqueue_token.new.seat.table_id c.self.inside.thread c.enqueue_token.new.seat.me.0))
    c.self.view_is (
      c.in-Some.token,
      first ∙ ap (λ xs. c.in-Some.token ∷ xs) (sym did.hand.at_home),
      enqueues_as (sym same.0, refl)
          (sym same.1, refl) did.enqueue,
    )

pub returns-in_default-enqueue_token-clause-promise : goal.returns-in_default-enqueue_token-clause-promise
returns-in_default-enqueue_token-clause-promise g c =
    promised _ c.enqueue_token.new.seat.me (invariant_of-self-in_default-enqueue_token g c).pass

pub empty_slot-back-requires-clause-holds : goal.empty_slot-back-requires-clause-holds
empty_slot-back-requires-clause-holds g c =
    let out = gives_out c.pop.new.self.items c.self.inside.seat c.draw_token.new.seat c.fill_slot.new.seat
    c.self.invariant c.in-Some.ensures.items c.draw_token.ensures.draws c.fill_slot.ensures.same
    c.fill_slot.ensures.holds in
    let named = gives_named c.pop.new.self.items c.self.inside.seat c.draw_token.new.seat c.fill_slot.new.seat
    c.self.invariant c.in-Some.ensures.items c.draw_token.ensures.draws c.fill_slot.ensures.same
    c.fill_slot.ensures.holds in
    (c.args.payload, slot_held named.0 (kept_out c.in-Err.refusal (c.in-Err.ensures.puts _ _ _ out)))

pub keep_token-requires : goal.keep_token-requires
keep_token-requires g c =
    let p = c.self.invariant in
    let out = gives_out c.pop.new.self.items c.self.inside.seat c.draw_token.new.seat c.fill_slot.new.seat p
    c.in-Some.ensures.items c.draw_token.ensures.draws c.fill_slot.ensures.same
    c.fill_slot.ensures.holds in
    let named = gives_named c.pop.new.self.items c.self.inside.seat c.draw_token.new.seat c.fill_slot.new.seat p
    c.in-Some.ensures.items c.draw_token.ensures.draws c.fill_slot.ensures.same
    c.fill_slot.ensures.holds in
    let emptied = with_slot None named.0 (kept_out c.in-Err.refusal (c.in-Err.ensures.puts _ _ _ out))
    c.empty_slot-back.ensures.same.1
    c.empty_slot-back.ensures.holds in
    let opened : c.self.inside.seat.me.0.opened ≡ pay_opening c.queue.inside.shape c.queue.inside.threads
    c.queue.inside.tokens =
    ap (λ (k : PayPassView g.row.T.Denot). k.pass.opened) c.self.view_is ∙ c.requires.of.1
    ∙ sym (ap (λ (q : OpenQueue). q.opened) c.queue.view_is) in
    let table : c.self.inside.seat.table_id ≡ c.queue.inside.table.shared.table_id =
    ap (λ (k : PayPassView g.row.T.Denot). k.pass.table) c.self.view_is ∙ c.requires.of.0
    ∙ sym (ap (λ (q : OpenQueue). q.table) c.queue.view_is) in
    let all : c.self.inside.seat.me.0.opened.threads * c.self.inside.seat.me.0.opened.tokens
    ≡ c.queue.inside.threads * c.queue.inside.tokens = ap (λ (o : Opening). o.threads * o.tokens) opened in
    let size = c.queue.invariant.1 in
    let slots = c.queue.invariant.2 in
    let room = p.has_room in
    let capacity = c.pop.ensures.capacity in
    record {
      table = (
        c.empty_slot-back.ensures.same.0 ∙ c.enqueue_token.ensures.same ∙ c.fill_slot.ensures.same.0
            ∙ c.draw_token.ensures.same ∙ table,
        (omega (arith, size)),
      );
      idle = (emptied.idle, emptied.some_tokens);
      token = (named.0, emptied.out);
      holds = c.empty_slot-back.ensures.holds;
      stacked = emptied.at_home;
      room = omega (arith, all, slots, room, capacity);
    }

pub invariant_of-self-2 : goal.invariant_of-self-2
invariant_of-self-2 g c =
    let p = c.self.invariant in
    let out = gives_out c.pop.new.self.items c.self.inside.seat c.draw_token.new.seat c.fill_slot.new.seat p
    c.in-Some.ensures.items c.draw_token.ensures.draws c.fill_slot.ensures.same
    c.fill_slot.ensures.holds in
    let named = gives_named c.pop.new.self.items c.self.inside.seat c.draw_token.new.seat c.fill_slot.new.seat p
    c.in-Some.ensures.items c.draw_token.ensures.draws c.fill_slot.ensures.same
    c.fill_slot.ensures.holds in
    let did = c.in-Err.ensures.puts _ _ _ out in
    let emptied = with_slot None named.0 (kept_out c.in-Err.refusal did) c.empty_slot-back.ensures.same.1
    c.empty_slot-back.ensures.holds in
    let k = c.keep_token.ensures in
    let opened = ap (λ (v : View g.row.T.Denot). v.opened) k.laid.0
    ∙ ap (λ (v : View g.row.T.Denot). v.opened) c.empty_slot-back.ensures.same.1
    ∙ did.opened
    ∙ ap (λ (v : View g.row.T.Denot). v.opened) (c.fill_slot.ensures.same.1 ∙ c.draw_token.ensures.draws.afterwards) in
    pay_pass p (laid (c.in-Some.token ∷ (hand_of c.empty_slot-back.new.seat.me.0).at_home) emptied k.laid.0 k.laid.1)
    opened
    (ap (λ xs. c.in-Some.token ∷ xs) emptied.at_home
    ∙ sym (ap reverse k.stacked ∙ reverse-append c.pop.new.self.items (c.in-Some.token ∷ []))) (k.same.1
    ∙ c.pop.ensures.capacity)

pub returns : goal.returns
returns g c =
    let p = c.self.invariant in
    let out = gives_out c.pop.new.self.items c.self.inside.seat c.draw_token.new.seat c.fill_slot.new.seat p
    c.in-Some.ensures.items c.draw_token.ensures.draws c.fill_slot.ensures.same
    c.fill_slot.ensures.holds in
    let named = gives_named c.pop.new.self.items c.self.inside.seat c.draw_token.new.seat c.fill_slot.new.seat p
    c.in-Some.ensures.items c.draw_token.ensures.draws c.fill_slot.ensures.same
    c.fill_slot.ensures.holds in
    let first = gives_first c.pop.new.self.items c.self.inside.seat c.draw_token.new.seat c.fill_slot.new.seat p
    c.in-Some.ensures.items c.draw_token.ensures.draws c.fill_slot.ensures.same
    c.fill_slot.ensures.holds in
    let same = same_pass c.self.inside.thread c.self.inside.seat c.fill_slot.new.seat
    (c.fill_slot.ensures.same.0 ∙ c.draw_token.ensures.same)
    (c.fill_slot.ensures.same.1 ∙ c.draw_token.ensures.draws.afterwards) in
    let did = c.in-Err.ensures.puts _ _ _ out in
    let kept = kept_out c.in-Err.refusal did in
    let empty = c.empty_slot-back.ensures in
    let emptied = with_slot None named.0 kept empty.same.1 empty.holds in
    let k = c.keep_token.ensures in
    let hand : Hand g.row.T.Denot =
    record {
      at_home = c.in-Some.token ∷ (hand_of c.empty_slot-back.new.seat.me.0).at_home;
      out = 0;
      payload = None;
    } in
    let now = same_pass c.self.inside.thread c.enqueue_token.new.seat c.keep_token.new.seat {hand = hand}
    (k.same.0 ∙ empty.same.0)
    (k.laid.0 ∙ (λ i. with_seen (empty.same.1 i) (seen_of (empty.same.1 i)) (gifts_of (empty.same.1 i)) hand)) in
    let view = pay_pass_view c.keep_token.new.seat.table_id c.self.inside.thread c.keep_token.new.seat.me.0 in
    let refuses : (refusal : Refusal) → c.in-Err.refusal ≡ refusal
    → Refuses c.args.start c.args.turns (put_by (Err refusal)) c.args.payload c.empty_slot-back.result c.args.self.now
    view =
    λ refusal is. subst (λ (x : PayPassView g.row.T.Denot × Refusal). Refuses c.args.start c.args.turns
    (put_by (Err x.1)) c.args.payload
    c.empty_slot-back.result x.0 view) (λ i. (c.self.view_is i, is i)) record {
      same = one_payload (c.in-Some.token - 1) c.empty_slot-back.result c.args.payload empty.payload
          (slot_held named.0 kept);
      token = c.in-Some.token;
      others = reverse c.pop.new.self.items;
      first = first;
      kept = ap (λ (v : View g.row.T.Denot). (hand_of v).at_home) k.laid.0
          ∙ ap (λ xs. c.in-Some.token ∷ xs) emptied.at_home ∙ sym first;
      enqueue = enqueues_as (sym same.0, now.0) (sym same.1, now.1) did.enqueue;
    } in
    let Did : Given g.row.T.Denot
    → Type 0 = λ x. Gives c.args.start c.args.turns c.args.payload x c.args.self.now view in
    let pass = invariant_of-self-2 g c in
    let opened = ap (λ (v : View g.row.T.Denot). v.opened) k.laid.0
    ∙ ap (λ (v : View g.row.T.Denot). v.opened) empty.same.1
    ∙ did.opened
    ∙ ap (λ (v : View g.row.T.Denot). v.opened) (c.fill_slot.ensures.same.1 ∙ c.draw_token.ensures.draws.afterwards) in
    record {
      same = (
        k.same.0 ∙ empty.same.0 ∙ c.enqueue_token.ensures.same ∙ c.fill_slot.ensures.same.0 ∙ c.draw_token.ensures.same
            ∙ ap (λ (k : PayPassView g.row.T.Denot). k.pass.table) c.self.view_is,
        opened ∙ ap (λ (k : PayPassView g.row.T.Denot). k.pass.opened) c.self.view_is,
        ap (λ (k : PayPassView g.row.T.Denot). k.pass.thread) c.self.view_is,
      );
      gives =
          elim c.match-refusal.branch [
            | in-Full w ↦ subst Did (sym w.result-is) (refuses R.Full w.in-Full.is)
            | in-Busy w ↦ subst Did (sym w.result-is) (refuses R.Busy w.in-Busy.is)
            | in-Worn w ↦ subst Did (sym w.result-is) (refuses R.Worn w.in-Worn.is)
          ];
      promise = promised _ c.keep_token.new.seat.me pass.pass;
    }
