-- A pass for each thread, whose tokens are cut off.
use Rattle.std.proofs.Common.{◌≡◌, ◌<◌, ◌≤◌, ◌+◌, ◌*◌, ◌++◌, [], ◌∷◌, ap, refl, subst, sym, ◌∙◌, arith}
use Rattle.kfifo_live.proofs.Types.{Opening, View}
use Rattle.kfifo_live.specs.Schedule.{GiftsFit, seen_of, gifts_of, hand_of, count_up, first_part, other_parts}
use Rattle.kfifo_live.specs.Schedule.{with_home}
use Rattle.kfifo_live.specs.Pass.{queue_of}
use Rattle.kfifo_live.specs.Payloads.{pay_pass_view}
use Rattle.kfifo_live.specs.Tokens.{tokens_from}
use Rattle.kfifo_live.proofs.NewPasses.{new_pass, cut_first}
use Rattle.kfifo_live.proofs.TokenMoves.{hand_of_pass, rehomed}
use Rattle.kfifo_live.proofs.Minting.{new_token_passes-snoc, tokens_go_on}
use Rattle.kfifo_live.proofs.tokens.opening.deal_all.Goals as goal

pub give_rest-rest-requires-clause-some : goal.give_rest-rest-requires-clause-some
give_rest-rest-requires-clause-some g c =
    let v = c.loop-thread.seat.me.0 in
    let cut = cut_first _ _ _ v (first_part v) (other_parts v) c.loop-thread-test.true c.loop-thread.invariant.view refl
    refl in
    let some = cut.2 in
    omega (arith, some)

pub cut_all-requires-clause-table : goal.cut_all-requires-clause-table
cut_all-requires-clause-table g c =
    (c.give_rest-rest.ensures.same.0 ∙ c.loop-thread.invariant.table ∙ c.requires.table.0, c.requires.table.1)

pub cut_all-requires-clause-idle : goal.cut_all-requires-clause-idle
cut_all-requires-clause-idle g c =
    let i = c.loop-thread.invariant in
    let r = c.give_rest-rest.ensures in
    let less = c.loop-thread-test.true in
    let cut = cut_first _ _ _ _ _ _ less i.view r.kept r.given.1 in
    let below : c.loop-thread.thread < c.args.seat.me.0.opened.threads = omega (arith, c.requires.opened.0, less) in
    let pass = new_pass _ _ _ below c.requires.few.0 cut.0 (r.same.1 ∙ i.held) in (
      pass.idle,
      subst (λ n. 0 < n) (sym (ap (λ (v : View g.row.T.Denot). v.opened.tokens) cut.0 ∙ c.requires.opened.1))
          c.requires.few.1,
    )

pub cut_all-requires-clause-home : goal.cut_all-requires-clause-home
cut_all-requires-clause-home g c =
    let i = c.loop-thread.invariant in
    let r = c.give_rest-rest.ensures in
    let cut = cut_first _ _ _ _ _ _ c.loop-thread-test.true i.view r.kept r.given.1 in
    ap (λ (v : View g.row.T.Denot). (hand_of v).at_home) cut.0
    ∙ ap (λ n. count_up (c.loop-thread.thread * n + 1) n) c.requires.opened.1

pub invariant_of-push : goal.invariant_of-push
invariant_of-push g c =
    let i = c.loop-thread.invariant in
    let r = c.give_rest-rest.ensures in
    let less = c.loop-thread-test.true in
    let cut = cut_first _ _ _ _ _ _ less i.view r.kept r.given.1 in
    let o = c.args.seat.me.0.opened in
    let below : c.loop-thread.thread < o.threads = omega (arith, c.requires.opened.0, less) in
    let opened : c.give_rest-rest.new.seat.me.0.opened ≡ o = ap (λ (v : View g.row.T.Denot). v.opened) cut.0 in
    let all : c.give_rest-rest.new.seat.me.0.opened.threads * c.give_rest-rest.new.seat.me.0.opened.tokens
    ≡ c.args.threads * c.args.tokens =
    ap (λ (x : Opening). x.threads * x.tokens) opened ∙ (λ k. c.requires.opened.0 k * c.requires.opened.1 k) in
    let before = hand_of_pass (new_pass _ _ _ below c.requires.few.0 cut.0 (r.same.1 ∙ i.held))
    (subst (λ (x : Opening). 0 < x.tokens) (sym opened) (subst (λ n. 0 < n) (sym c.requires.opened.1) c.requires.few.1))
    (subst (λ (v : View g.row.T.Denot). GiftsFit v.opened (seen_of v) (gifts_of v)) (sym cut.0) record {
      in_turn = refl;
      holder_law = λ some. tt;
    })
    refl in
    let now = c.in_ok-cut_all.ensures.same.1 in (
      rehomed [] before (ap (λ m. m.0) now) (ap (λ m. m.1) now),
      subst (λ n. n ≤ 65536) (sym (ap (λ m. m.0.opened.threads * m.0.opened.tokens) now ∙ all)) c.requires.few.2,
    )

pub loop-thread-preserved : goal.loop-thread-preserved
loop-thread-preserved g c =
    let i = c.loop-thread.invariant in
    let r = c.give_rest-rest.ensures in
    let a = c.in_ok-cut_all.ensures in
    let cut = cut_first _ _ _ _ _ _ c.loop-thread-test.true i.view r.kept r.given.1 in
    let z = c.args.seat.table_id in
    let o = c.args.seat.me.0.opened in
    let n : c.loop-thread.thread ≡ 0 + c.loop-thread.thread = omega arith in
    let table = r.same.0 ∙ i.table in
    let opened = ap (λ (v : View g.row.T.Denot). v.opened) cut.0 in
    record {
      table = r.given.0 ∙ i.table;
      held = r.given.2;
      view = cut.1;
      made =
          c.in_ok-push.ensures.items
          ∙ (λ k. i.made k ++ pay_pass_view ((a.same.0 ∙ table) k) (n k)
          ((ap (λ m. m.0) a.same.1 ∙ ap (λ (v : View g.row.T.Denot). with_home v []) cut.0) k) ∷ [])
          ∙ sym (new_token_passes-snoc (queue_of z o) 0 c.loop-thread.thread);
      within = (let less = c.loop-thread-test.true in omega arith);
      cut = a.tokens
          ∙ (λ k. i.cut k ++ tokens_from (queue_of (table k) (opened k)) (c.loop-thread.thread * c.args.tokens + 1)
          c.args.tokens)
          ∙ tokens_go_on (queue_of z o) c.loop-thread.thread c.args.tokens;
    }
