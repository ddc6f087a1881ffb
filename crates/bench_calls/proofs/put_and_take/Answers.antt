-- An enqueue and a dequeue are two calls more.
use Rattle.std.proofs.Common.{◌≡◌, ◌+◌, ◌*◌, ◌≤◌, ◌∙◌, subst, arith}
use Rattle.bench_calls.specs.Calls.{calls}
use Rattle.bench_calls.proofs.Counted.{one_more}
use Rattle.bench_calls.proofs.put_and_take.Goals as goal
use Rattle.bench_calls.proofs.put_and_take.Goals.{in-Done, in_default, in-Got, in_default-dequeue}

pub loop-item-preserved : goal.loop-item-preserved
loop-item-preserved c =
    let same = c.loop-item.invariant.same in
    let put = c.enqueue.ensures.same in
    let taken = c.dequeue.ensures.same in
    let one : calls c.args.pass.now.thread c.enqueue.new.self.seen
    ≡ calls c.args.pass.now.thread c.loop-item.pass.seen + 1 =
    subst (λ t. calls t c.enqueue.new.self.seen ≡ calls t c.loop-item.pass.seen + 1) same.2
    (one_more _ _ _ _ _ _ _ c.enqueue.ensures.call.run) in
    let two : calls c.args.pass.now.thread c.dequeue.new.self.seen
    ≡ calls c.args.pass.now.thread c.enqueue.new.self.seen + 1 =
    subst (λ t. calls t c.dequeue.new.self.seen ≡ calls t c.enqueue.new.self.seen + 1) (put.2 ∙ same.2)
    (one_more _ _ _ _ _ _ _ c.dequeue.ensures.call.run) in
    let few : c.match-enqueue.wanted ≤ 2 * c.loop-item.item + 1 = elim c.match-enqueue.branch [
      | in-Done w ↦ omega (arith, w.wanted-is, c.loop-item.invariant.few)
      | in_default w ↦ omega (arith, w.wanted-is, c.loop-item.invariant.few)
    ] in
    record {
      same = (taken.0 ∙ put.0 ∙ same.0, taken.1 ∙ put.1 ∙ same.1, taken.2 ∙ put.2 ∙ same.2);
      made = omega (arith, one, two, c.loop-item.invariant.made);
      k = c.next-in-loop-item.ensures.same ∙ c.next.ensures.same ∙ c.loop-item.invariant.k;
      few = elim c.match-dequeue.branch [
        | in-Got w ↦ omega (arith, w.wanted-is, few)
        | in_default-dequeue w ↦ omega (arith, w.wanted-is, few)
      ];
    }
