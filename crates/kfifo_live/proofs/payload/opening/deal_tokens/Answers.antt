use Rattle.std.proofs.Common.{◌≡◌, ◌<◌, ◌≤◌, ◌+◌, ◌*◌, ◌++◌, [], ◌∷◌, ap, refl, subst, sym, ◌∙◌, arith}
use Rattle.kfifo_live.proofs.Types.{Opening, View}
use Rattle.kfifo_live.specs.Schedule.{GiftsFit, seen_of, gifts_of, hand_of, count_up, first_part, other_parts}
use Rattle.kfifo_live.specs.Pass.{queue_of}
use Rattle.kfifo_live.specs.Payloads.{pay_pass_view}
use Rattle.kfifo_live.proofs.NewPasses.{new_pass, cut_first}
use Rattle.kfifo_live.proofs.TokenMoves.{few_in_all, new_pay_passes-snoc}
use Rattle.kfifo_live.proofs.payload.opening.deal_tokens.Goals as goal

pub give_rest-rest-requires-clause-some : goal.give_rest-rest-requires-clause-some
give_rest-rest-requires-clause-some g c =
    let v = c.loop-thread.seat.me.0 in
    let cut = cut_first _ _ _ v (first_part v) (other_parts v) c.loop-thread-test.true c.loop-thread.invariant.view refl
    refl in
    let some = cut.2 in
    omega (arith, some)

pub invariant_of-push : goal.invariant_of-push
invariant_of-push g c =
    let i = c.loop-thread.invariant in
    let r = c.give_rest-rest.ensures in
    let o = c.args.seat.me.0.opened in
    let cut = cut_first _ _ _ _ _ _ c.loop-thread-test.true i.view r.kept r.given.1 in
    let below : c.loop-thread.thread < o.threads = omega (arith, c.requires.opened.0, c.loop-thread-test.true) in
    let mine = c.in_ok-at_home.ensures in
    let opened : c.give_rest-rest.new.seat.me.0.opened ≡ o = ap (λ (v : View g.row.T.Denot). v.opened) cut.0 in
    let all : c.give_rest-rest.new.seat.me.0.opened.threads * c.give_rest-rest.new.seat.me.0.opened.tokens
    ≡ c.args.threads * c.args.tokens =
    ap (λ (x : Opening). x.threads * x.tokens) opened ∙ (λ k. c.requires.opened.0 k * c.requires.opened.1 k) in
    let tokens : c.give_rest-rest.new.seat.me.0.opened.tokens ≡ c.args.tokens =
    ap (λ (x : Opening). x.tokens) opened ∙ c.requires.opened.1 in
    let room = mine.1 in
    let few_threads : c.args.threads ≤ 64 = subst (λ n. n ≤ 64) c.requires.opened.0 c.requires.few.0.0 in
    record {
      pass = new_pass _ _ _ below c.requires.few.0 cut.0 (r.same.1 ∙ i.held);
      stacked = ap (λ (v : View g.row.T.Denot). (hand_of v).at_home) cut.0
          ∙ ap (λ n. count_up (c.loop-thread.thread * n + 1) n) c.requires.opened.1 ∙ sym mine.0;
      some_tokens = subst (λ n. 0 < n) (sym tokens) c.requires.few.1;
      few_tokens =
          subst (λ n. n ≤ 65536) (sym all) (few_in_all c.args.threads c.args.tokens few_threads c.requires.few.2);
      has_room = omega (arith, all, room);
      with_payloads = ap (λ (x : Opening). x.bare) opened ∙ c.requires.bare;
      in_turn = subst (λ (v : View g.row.T.Denot). GiftsFit v.opened (seen_of v) (gifts_of v)) (sym cut.0)
          record { in_turn = refl; holder_law = λ some. tt };
    }

pub loop-thread-preserved : goal.loop-thread-preserved
loop-thread-preserved g c =
    let i = c.loop-thread.invariant in
    let r = c.give_rest-rest.ensures in
    let cut = cut_first _ _ _ _ _ _ c.loop-thread-test.true i.view r.kept r.given.1 in
    let n : c.loop-thread.thread ≡ 0 + c.loop-thread.thread = omega arith in
    let z = c.args.seat.table_id in
    let o = c.args.seat.me.0.opened in
    let table = r.same.0 ∙ i.table in
    record {
      table = r.given.0 ∙ i.table;
      held = r.given.2;
      view = cut.1;
      made =
          c.in_ok-push.ensures.items
          ∙ (λ k. i.made k ++ pay_pass_view (table k) c.loop-thread.thread (cut.0 k) ∷ [])
          ∙ sym (new_pay_passes-snoc (queue_of z o) 0 c.loop-thread.thread c.loop-thread.thread n);
      within = (let less = c.loop-thread-test.true in omega arith);
    }
