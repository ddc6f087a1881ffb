use Rattle.std.proofs.Common.{◌≡◌, ◌<◌, ◌+◌, ◌++◌, [], ◌∷◌, sym, ◌∙◌, arith}
use Rattle.kfifo_live.specs.Pass.{queue_of, pass_view}
use Rattle.kfifo_live.proofs.NewPasses.{new_passes-snoc, new_pass, cut_first}
use Rattle.kfifo_live.proofs.opening.deal.Goals as goal

pub invariant_of-push : goal.invariant_of-push
invariant_of-push c =
    let i = c.loop-thread.invariant in
    let g = c.give_rest-rest.ensures in
    let cut = cut_first _ _ _ _ _ _ c.loop-thread-test.true i.view g.kept g.given.1 in
    let below : c.loop-thread.thread < c.args.seat.me.0.opened.threads =
    omega (arith, c.requires.seat.2, c.loop-thread-test.true) in
    new_pass _ _ _ below c.requires.few cut.0 (g.same.1 ∙ i.held)

pub loop-thread-preserved : goal.loop-thread-preserved
loop-thread-preserved c =
    let i = c.loop-thread.invariant in
    let g = c.give_rest-rest.ensures in
    let cut = cut_first _ _ _ _ _ _ c.loop-thread-test.true i.view g.kept g.given.1 in
    let n : c.loop-thread.thread ≡ 0 + c.loop-thread.thread = omega arith in
    let table = g.same.0 ∙ i.table in
    record {
      table = g.given.0 ∙ i.table;
      held = g.given.2;
      view = cut.1;
      made =
          c.in_ok-push.ensures.items
          ∙ (λ k. i.made k ++ pass_view (table k) (n k) (cut.0 k) ∷ [])
          ∙ sym (new_passes-snoc (queue_of c.args.seat.table_id c.args.seat.me.0.opened) 0 c.loop-thread.thread);
    }
