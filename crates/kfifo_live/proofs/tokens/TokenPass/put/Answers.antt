-- An enqueue of a token with nothing in its slot; a refusal takes the token back.
use Rattle.std.proofs.Common.{◌≡◌, Err, None, ap, sym, subst, refl, ◌∙◌}
use Rattle.kfifo_live.proofs.Types.{Opening}
use Rattle.kfifo_live.specs.declared.in_hand.Refusal.{Refusal}
use Rattle.kfifo_live.specs.declared.in_hand.Refusal.TheVariants as R
use Rattle.kfifo_live.specs.declared.tokens.Put.{Put}
use Rattle.kfifo_live.specs.Hands.{IsGift}
use Rattle.kfifo_live.specs.InHand.{put_by}
use Rattle.kfifo_live.specs.Payloads.{PayPassView, pay_pass_view}
use Rattle.kfifo_live.specs.Tokens.{Enqueues, HandsBack, Puts}
use Rattle.kfifo_live.proofs.Passes.{promised}
use Rattle.kfifo_live.proofs.TokenMoves.{kept_out, pass_of_hand}
use Rattle.kfifo_live.proofs.TokenCalls.{enqueues, same_seat, token_pass}
use Rattle.kfifo_live.proofs.tokens.TokenPass.put.Goals as goal
use Rattle.kfifo_live.proofs.tokens.TokenPass.put.Goals.{in-Full, in-Busy, in-Worn}

pub enqueue_token-requires-clause-hand : goal.enqueue_token-requires-clause-hand
enqueue_token-requires-clause-hand g c =
    let out = c.hold_out-number.ensures.hand _ c.self.invariant.0 in
    let opened = c.hold_out-number.ensures.same.1 in
    let kind = ap (λ (o : Opening). o.bare) (opened ∙ ap (λ (k : PayPassView g.row.T.Denot). k.pass.opened)
    c.self.view_is ∙ c.requires.of.1) ∙ c.requires.bare in
    (_, _, _, out, subst (λ b. IsGift b None) (sym kind) refl)

pub invariant_of-self : goal.invariant_of-self
invariant_of-self g c =
    let out = c.hold_out-number.ensures.hand _ c.self.invariant.0 in
    let opened = c.hold_out-number.ensures.same.1 in
    let did = c.in_default.ensures.puts _ _ _ out in
    token_pass c.self.invariant did.hand (did.opened ∙ opened)

pub returns-in_default : goal.returns-in_default
returns-in_default g c =
    let out = c.hold_out-number.ensures.hand _ c.self.invariant.0 in
    let opened = c.hold_out-number.ensures.same.1 in
    let did = c.in_default.ensures.puts _ _ _ out in
    let hold = c.hold_out-number.ensures.same in
    let before = same_seat c.self.inside.thread c.self.inside.seat c.hold_out-number.new.seat
    (c.hold_out-number.ensures.same.0) opened
    (hold.2) (hold.3) in
    let was : pay_pass_view c.self.inside.seat.table_id c.self.inside.thread c.self.inside.seat.me.0 ≡ c.args.self.now =
    c.self.view_is in
    let view = pay_pass_view c.enqueue_token.new.seat.table_id c.self.inside.thread c.enqueue_token.new.seat.me.0 in
    record {
      same = (
        c.enqueue_token.ensures.same ∙ c.hold_out-number.ensures.same.0 ∙ ap (λ k. k.pass.table) was,
        did.opened ∙ opened ∙ ap (λ k. k.pass.opened) was,
        ap (λ k. k.pass.thread) was,
      );
      puts = enqueues c.self.inside.seat {now = view} did c.hold_out-number.ensures.number was before (refl, refl)
          (did.hand.at_home ∙ sym c.self.invariant.0.at_home);
      promise = promised _ c.enqueue_token.new.seat.me (pass_of_hand (invariant_of-self g c).0);
    }

pub lay_aside-back-requires : goal.lay_aside-back-requires
lay_aside-back-requires g c =
    let out = c.hold_out-number.ensures.hand _ c.self.invariant.0 in
    let opened = c.hold_out-number.ensures.same.1 in
    let did = c.in-Err.ensures.puts _ _ _ out in
    let emptied = kept_out c.in-Err.refusal did in
    let later = did.opened ∙ opened in
    record {
      table = c.enqueue_token.ensures.same ∙ c.hold_out-number.ensures.same.0
          ∙ ap (λ (k : PayPassView g.row.T.Denot). k.pass.table) c.self.view_is ∙ c.requires.of.0;
      opened = later ∙ ap (λ (k : PayPassView g.row.T.Denot). k.pass.opened) c.self.view_is ∙ c.requires.of.1;
      hand = (c.hold_out-number.ensures.names.0, (_, emptied));
    }

pub invariant_of-self-2 : goal.invariant_of-self-2
invariant_of-self-2 g c =
    let out = c.hold_out-number.ensures.hand _ c.self.invariant.0 in
    let opened = c.hold_out-number.ensures.same.1 in
    let did = c.in-Err.ensures.puts _ _ _ out in
    let emptied = kept_out c.in-Err.refusal did in
    let later = did.opened ∙ opened in
    let aside = c.lay_aside-back.ensures in
    token_pass c.self.invariant (aside.hand _ emptied) (aside.same.1 ∙ later)

pub returns : goal.returns
returns g c =
    let out = c.hold_out-number.ensures.hand _ c.self.invariant.0 in
    let opened = c.hold_out-number.ensures.same.1 in
    let did = c.in-Err.ensures.puts _ _ _ out in
    let emptied = kept_out c.in-Err.refusal did in
    let later = did.opened ∙ opened in
    let hold = c.hold_out-number.ensures.same in
    let before = same_seat c.self.inside.thread c.self.inside.seat c.hold_out-number.new.seat
    (c.hold_out-number.ensures.same.0) opened
    (hold.2) (hold.3) in
    let was : pay_pass_view c.self.inside.seat.table_id c.self.inside.thread c.self.inside.seat.me.0 ≡ c.args.self.now =
    c.self.view_is in
    let aside = c.lay_aside-back.ensures in
    let view = pay_pass_view c.lay_aside-back.new.seat.table_id c.self.inside.thread c.lay_aside-back.new.seat.me.0 in
    let after = same_seat c.self.inside.thread c.enqueue_token.new.seat c.lay_aside-back.new.seat (aside.same.0)
    (aside.same.1)
    (aside.same.2)
    (aside.same.3) in
    let back : c.lay_aside-back.result ≡ c.args.token =
    aside.token ∙ (λ i. record { queue = sym c.requires.token i; number = c.hold_out-number.ensures.number i }) in
    let refuses : (refusal : Refusal) → c.in-Err.refusal ≡ refusal
    → HandsBack c.args.token None c.args.start c.args.turns (put_by (Err refusal)) c.lay_aside-back.result
    c.args.self.now view =
    λ refusal is. (
      back,
      subst (λ x. Enqueues c.args.token.number None c.args.start c.args.turns (put_by (Err x)) c.args.self.now view) is
          (enqueues c.self.inside.seat {now = view} did c.hold_out-number.ensures.number was before after
          ((aside.hand _ emptied).at_home ∙ sym c.self.invariant.0.at_home)),
    ) in
    let Did : Put g.row.T.Denot → Type 0 = λ x. Puts c.args.token c.args.start c.args.turns x c.args.self.now view in
    record {
      same = (
        aside.same.0 ∙ c.enqueue_token.ensures.same ∙ c.hold_out-number.ensures.same.0 ∙ ap (λ k. k.pass.table) was,
        aside.same.1 ∙ later ∙ ap (λ k. k.pass.opened) was,
        ap (λ k. k.pass.thread) was,
      );
      puts =
          elim c.match-refusal.branch [
            | in-Full w ↦ subst Did (sym w.result-is) (refuses R.Full w.in-Full.is)
            | in-Busy w ↦ subst Did (sym w.result-is) (refuses R.Busy w.in-Busy.is)
            | in-Worn w ↦ subst Did (sym w.result-is) (refuses R.Worn w.in-Worn.is)
          ];
      promise = promised _ c.lay_aside-back.new.seat.me (pass_of_hand (invariant_of-self-2 g c).0);
    }
