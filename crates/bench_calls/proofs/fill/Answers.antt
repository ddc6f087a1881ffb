-- Each enqueue is one call and one item more.
use Rattle.std.proofs.Common.{◌≡◌, ◌+◌, ◌-◌, ◌++◌, ◌∷◌, [], ◌∙◌, ap, append_assoc, subst, arith}
use Rattle.std.specs.List.{range_with_len}
use Rattle.bench_calls.specs.Calls.{calls, items_put}
use Rattle.bench_calls.proofs.Counted.{one_more, item_more, up_to}
use Rattle.bench_calls.proofs.fill.Goals as goal

pub loop-item-preserved : goal.loop-item-preserved
loop-item-preserved c =
    let same = c.loop-item.invariant.same in
    let now = c.enqueue.ensures.same in
    let more : calls c.args.pass.now.thread c.enqueue.new.self.seen
    ≡ calls c.args.pass.now.thread c.loop-item.pass.seen + 1 =
    subst (λ t. calls t c.enqueue.new.self.seen ≡ calls t c.loop-item.pass.seen + 1) same.2
    (one_more _ _ _ _ _ _ _ c.enqueue.ensures.call.run) in
    let one : items_put c.args.pass.now.thread c.enqueue.new.self.seen
    ≡ items_put c.args.pass.now.thread c.loop-item.pass.seen ++ c.loop-item.item ∷ [] =
    subst (λ t. items_put t c.enqueue.new.self.seen ≡ items_put t c.loop-item.pass.seen ++ c.loop-item.item ∷ []) same.2
    (item_more _ _ _ _ _ _ _ _ _ c.enqueue.ensures.call.run) in
    record {
      same = (now.0 ∙ same.0, now.1 ∙ same.1, now.2 ∙ same.2);
      made = omega (arith, more, c.loop-item.invariant.made);
      items =
          one ∙ ap (λ is. is ++ c.loop-item.item ∷ []) c.loop-item.invariant.items
          ∙ append_assoc _ _ (c.loop-item.item ∷ [])
          ∙ ap (λ is. items_put c.args.pass.now.thread c.args.pass.now.seen ++ is)
          (up_to c.loop-item.item c.loop-item.auto.item);
      k = c.next.ensures.same ∙ c.loop-item.invariant.k;
    }

pub returns-clause-items : goal.returns-clause-items
returns-clause-items c =
    let all : c.loop-item.item - 1 ≡ 512 = omega (arith, c.loop-item-test.false, c.loop-item.auto.item-end) in
    c.loop-item.invariant.items
    ∙ ap (λ n. items_put c.args.pass.now.thread c.args.pass.now.seen ++ range_with_len 1 n) all
