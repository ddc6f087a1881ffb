-- The payload goes into the slot of the token, and an enqueue puts it; a refusal takes both back.
use Rattle.std.proofs.Common.{◌≡◌, ◌-◌, Err, None, Some, ap, sym, subst, refl, ◌∙◌}
use Rattle.kfifo_live.proofs.Types.{Opening, View}
use Rattle.kfifo_live.specs.declared.in_hand.Refusal.{Refusal}
use Rattle.kfifo_live.specs.declared.in_hand.Refusal.TheVariants as R
use Rattle.kfifo_live.specs.declared.payload.token.Published.{Published}
use Rattle.kfifo_live.specs.Hands.{IsGift}
use Rattle.kfifo_live.specs.InHand.{put_by}
use Rattle.kfifo_live.specs.Schedule.{gifts_of, seen_of}
use Rattle.kfifo_live.specs.Payloads.{PayPassView, pay_pass_view}
use Rattle.kfifo_live.specs.Tokens.{Enqueues, GivesWith, HandsBoth}
use Rattle.kfifo_live.proofs.Passes.{promised}
use Rattle.kfifo_live.proofs.TokenMoves.{kept_out, one_payload, pass_of_hand, slot_held, with_slot}
use Rattle.kfifo_live.proofs.TokenCalls.{enqueues, same_seat, token_pass}
use Rattle.kfifo_live.proofs.tokens.TokenPass.give.Goals as goal
use Rattle.kfifo_live.proofs.tokens.TokenPass.give.Goals.{in-Full, in-Busy, in-Worn}

pub fill_slot-requires-clause-holds : goal.fill_slot-requires-clause-holds
fill_slot-requires-clause-holds g c =
    slot_held c.hold_out-number.ensures.names.0 (c.hold_out-number.ensures.hand _ c.self.invariant.0)

pub enqueue_token-requires-clause-hand : goal.enqueue_token-requires-clause-hand
enqueue_token-requires-clause-hand g c =
    let held = c.hold_out-number.ensures.hand _ c.self.invariant.0 in
    let out = with_slot (Some c.args.payload) c.hold_out-number.ensures.names.0 held c.fill_slot.ensures.same.1
    c.fill_slot.ensures.holds in
    let opened = ap (λ (v : View g.row.T.Denot). v.opened) c.fill_slot.ensures.same.1
    ∙ c.hold_out-number.ensures.same.1 in
    let kind = ap (λ (o : Opening). o.bare) (opened ∙ ap (λ (k : PayPassView g.row.T.Denot). k.pass.opened)
    c.self.view_is ∙ c.requires.of.1) ∙ c.requires.payloads in
    (_, _, _, out, subst (λ b. IsGift b (Some c.args.payload)) (sym kind) (c.args.payload, refl))

pub invariant_of-self : goal.invariant_of-self
invariant_of-self g c =
    let held = c.hold_out-number.ensures.hand _ c.self.invariant.0 in
    let out = with_slot (Some c.args.payload) c.hold_out-number.ensures.names.0 held c.fill_slot.ensures.same.1
    c.fill_slot.ensures.holds in
    let opened = ap (λ (v : View g.row.T.Denot). v.opened) c.fill_slot.ensures.same.1
    ∙ c.hold_out-number.ensures.same.1 in
    let did = c.in_default.ensures.puts _ _ _ out in
    token_pass c.self.invariant did.hand (did.opened ∙ opened)

pub returns-in_default : goal.returns-in_default
returns-in_default g c =
    let held = c.hold_out-number.ensures.hand _ c.self.invariant.0 in
    let out = with_slot (Some c.args.payload) c.hold_out-number.ensures.names.0 held c.fill_slot.ensures.same.1
    c.fill_slot.ensures.holds in
    let opened = ap (λ (v : View g.row.T.Denot). v.opened) c.fill_slot.ensures.same.1
    ∙ c.hold_out-number.ensures.same.1 in
    let did = c.in_default.ensures.puts _ _ _ out in
    let hold = c.hold_out-number.ensures.same in
    let before = same_seat c.self.inside.thread c.self.inside.seat c.fill_slot.new.seat
    (c.fill_slot.ensures.same.0 ∙ c.hold_out-number.ensures.same.0) opened
    (ap (λ (v : View g.row.T.Denot). seen_of v) c.fill_slot.ensures.same.1 ∙ hold.2)
    (ap (λ (v : View g.row.T.Denot). gifts_of v) c.fill_slot.ensures.same.1 ∙ hold.3) in
    let was : pay_pass_view c.self.inside.seat.table_id c.self.inside.thread c.self.inside.seat.me.0 ≡ c.args.self.now =
    c.self.view_is in
    let view = pay_pass_view c.enqueue_token.new.seat.table_id c.self.inside.thread c.enqueue_token.new.seat.me.0 in
    record {
      same = (
        c.enqueue_token.ensures.same ∙ c.fill_slot.ensures.same.0 ∙ c.hold_out-number.ensures.same.0
            ∙ ap (λ k. k.pass.table) was,
        did.opened ∙ opened ∙ ap (λ k. k.pass.opened) was,
        ap (λ k. k.pass.thread) was,
      );
      gives = enqueues c.self.inside.seat {now = view} did c.hold_out-number.ensures.number was before (refl, refl)
          (did.hand.at_home ∙ sym c.self.invariant.0.at_home);
      promise = promised _ c.enqueue_token.new.seat.me (pass_of_hand (invariant_of-self g c).0);
    }

pub empty_slot-unsent-requires-clause-holds : goal.empty_slot-unsent-requires-clause-holds
empty_slot-unsent-requires-clause-holds g c =
    let held = c.hold_out-number.ensures.hand _ c.self.invariant.0 in
    let out = with_slot (Some c.args.payload) c.hold_out-number.ensures.names.0 held c.fill_slot.ensures.same.1
    c.fill_slot.ensures.holds in
    let opened = ap (λ (v : View g.row.T.Denot). v.opened) c.fill_slot.ensures.same.1
    ∙ c.hold_out-number.ensures.same.1 in (
      c.args.payload,
      slot_held c.hold_out-number.ensures.names.0
          (kept_out c.in-Err.refusal (c.in-Err.ensures.puts _ _ _ out)),
    )

pub lay_aside-back-requires : goal.lay_aside-back-requires
lay_aside-back-requires g c =
    let held = c.hold_out-number.ensures.hand _ c.self.invariant.0 in
    let out = with_slot (Some c.args.payload) c.hold_out-number.ensures.names.0 held c.fill_slot.ensures.same.1
    c.fill_slot.ensures.holds in
    let opened = ap (λ (v : View g.row.T.Denot). v.opened) c.fill_slot.ensures.same.1
    ∙ c.hold_out-number.ensures.same.1 in
    let did = c.in-Err.ensures.puts _ _ _ out in
    let kept = kept_out c.in-Err.refusal did in
    let empty = c.empty_slot-unsent.ensures in
    let emptied = with_slot None c.hold_out-number.ensures.names.0 kept empty.same.1 empty.holds in
    let later = ap (λ (v : View g.row.T.Denot). v.opened) empty.same.1 ∙ did.opened ∙ opened in
    record {
      table = empty.same.0 ∙ c.enqueue_token.ensures.same ∙ c.fill_slot.ensures.same.0
          ∙ c.hold_out-number.ensures.same.0 ∙ ap (λ (k : PayPassView g.row.T.Denot). k.pass.table) c.self.view_is
          ∙ c.requires.of.0;
      opened = later ∙ ap (λ (k : PayPassView g.row.T.Denot). k.pass.opened) c.self.view_is ∙ c.requires.of.1;
      hand = (c.hold_out-number.ensures.names.0, (_, emptied));
    }

pub invariant_of-self-2 : goal.invariant_of-self-2
invariant_of-self-2 g c =
    let held = c.hold_out-number.ensures.hand _ c.self.invariant.0 in
    let out = with_slot (Some c.args.payload) c.hold_out-number.ensures.names.0 held c.fill_slot.ensures.same.1
    c.fill_slot.ensures.holds in
    let opened = ap (λ (v : View g.row.T.Denot). v.opened) c.fill_slot.ensures.same.1
    ∙ c.hold_out-number.ensures.same.1 in
    let did = c.in-Err.ensures.puts _ _ _ out in
    let kept = kept_out c.in-Err.refusal did in
    let empty = c.empty_slot-unsent.ensures in
    let emptied = with_slot None c.hold_out-number.ensures.names.0 kept empty.same.1 empty.holds in
    let later = ap (λ (v : View g.row.T.Denot). v.opened) empty.same.1 ∙ did.opened ∙ opened in
    let aside = c.lay_aside-back.ensures in
    token_pass c.self.invariant (aside.hand _ emptied) (aside.same.1 ∙ later)

pub returns : goal.returns
returns g c =
    let held = c.hold_out-number.ensures.hand _ c.self.invariant.0 in
    let out = with_slot (Some c.args.payload) c.hold_out-number.ensures.names.0 held c.fill_slot.ensures.same.1
    c.fill_slot.ensures.holds in
    let opened = ap (λ (v : View g.row.T.Denot). v.opened) c.fill_slot.ensures.same.1
    ∙ c.hold_out-number.ensures.same.1 in
    let did = c.in-Err.ensures.puts _ _ _ out in
    let kept = kept_out c.in-Err.refusal did in
    let empty = c.empty_slot-unsent.ensures in
    let emptied = with_slot None c.hold_out-number.ensures.names.0 kept empty.same.1 empty.holds in
    let later = ap (λ (v : View g.row.T.Denot). v.opened) empty.same.1 ∙ did.opened ∙ opened in
    let hold = c.hold_out-number.ensures.same in
    let before = same_seat c.self.inside.thread c.self.inside.seat c.fill_slot.new.seat
    (c.fill_slot.ensures.same.0 ∙ c.hold_out-number.ensures.same.0) opened
    (ap (λ (v : View g.row.T.Denot). seen_of v) c.fill_slot.ensures.same.1 ∙ hold.2)
    (ap (λ (v : View g.row.T.Denot). gifts_of v) c.fill_slot.ensures.same.1 ∙ hold.3) in
    let was : pay_pass_view c.self.inside.seat.table_id c.self.inside.thread c.self.inside.seat.me.0 ≡ c.args.self.now =
    c.self.view_is in
    let aside = c.lay_aside-back.ensures in
    let view = pay_pass_view c.lay_aside-back.new.seat.table_id c.self.inside.thread c.lay_aside-back.new.seat.me.0 in
    let after = same_seat c.self.inside.thread c.enqueue_token.new.seat c.lay_aside-back.new.seat
    (aside.same.0 ∙ empty.same.0)
    (aside.same.1 ∙ ap (λ (v : View g.row.T.Denot). v.opened) empty.same.1)
    (aside.same.2 ∙ ap (λ (v : View g.row.T.Denot). seen_of v) empty.same.1)
    (aside.same.3 ∙ ap (λ (v : View g.row.T.Denot). gifts_of v) empty.same.1) in
    let back : c.lay_aside-back.result ≡ c.args.token =
    aside.token ∙ (λ i. record { queue = sym c.requires.token i; number = c.hold_out-number.ensures.number i }) in
    let unsent = one_payload (c.hold_out-number.result - 1) c.empty_slot-unsent.result c.args.payload empty.payload
    (slot_held c.hold_out-number.ensures.names.0 kept) in
    let refuses : (refusal : Refusal) → c.in-Err.refusal ≡ refusal
    → HandsBoth c.args.token c.args.payload c.args.start c.args.turns (put_by (Err refusal)) c.empty_slot-unsent.result
    c.lay_aside-back.result c.args.self.now view =
    λ refusal is. (
      unsent,
      (
        back,
        subst (λ x. Enqueues c.args.token.number (Some c.args.payload) c.args.start c.args.turns (put_by (Err x))
            c.args.self.now view) is (enqueues c.self.inside.seat {now = view} did c.hold_out-number.ensures.number was
            before after
            ((aside.hand _ emptied).at_home ∙ sym c.self.invariant.0.at_home)),
      ),
    ) in
    let Did : Published g.row.T.Denot
    → Type 0 = λ x. GivesWith c.args.token c.args.payload c.args.start c.args.turns x c.args.self.now view in
    record {
      same = (
        aside.same.0 ∙ empty.same.0 ∙ c.enqueue_token.ensures.same ∙ c.fill_slot.ensures.same.0
            ∙ c.hold_out-number.ensures.same.0 ∙ ap (λ k. k.pass.table) was,
        aside.same.1 ∙ later ∙ ap (λ k. k.pass.opened) was,
        ap (λ k. k.pass.thread) was,
      );
      gives =
          elim c.match-refusal.branch [
            | in-Full w ↦ subst Did (sym w.result-is) (refuses R.Full w.in-Full.is)
            | in-Busy w ↦ subst Did (sym w.result-is) (refuses R.Busy w.in-Busy.is)
            | in-Worn w ↦ subst Did (sym w.result-is) (refuses R.Worn w.in-Worn.is)
          ];
      promise = promised _ c.lay_aside-back.new.seat.me (pass_of_hand (invariant_of-self-2 g c).0);
    }
