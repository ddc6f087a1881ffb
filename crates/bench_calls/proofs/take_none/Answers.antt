-- Each dequeue is one call more.
use Rattle.std.proofs.Common.{◌≡◌, ◌+◌, ◌∙◌, subst, arith}
use Rattle.bench_calls.specs.Calls.{calls}
use Rattle.bench_calls.proofs.Counted.{one_more}
use Rattle.bench_calls.proofs.take_none.Goals as goal
use Rattle.bench_calls.proofs.take_none.Goals.{in-Empty, in_default}

pub loop-call-preserved : goal.loop-call-preserved
loop-call-preserved c =
    let same = c.loop-call.invariant.same in
    let now = c.dequeue.ensures.same in
    let more : calls c.args.pass.now.thread c.dequeue.new.self.seen
    ≡ calls c.args.pass.now.thread c.loop-call.pass.seen + 1 =
    subst (λ t. calls t c.dequeue.new.self.seen ≡ calls t c.loop-call.pass.seen + 1) same.2
    (one_more _ _ _ _ _ _ _ c.dequeue.ensures.call.run) in
    record {
      same = (now.0 ∙ same.0, now.1 ∙ same.1, now.2 ∙ same.2);
      made = omega (arith, more, c.loop-call.invariant.made);
      k = c.next.ensures.same ∙ c.loop-call.invariant.k;
      few = elim c.match-dequeue.branch [
        | in-Empty w ↦ omega (arith, w.wanted-is, c.loop-call.invariant.few)
        | in_default w ↦ omega (arith, w.wanted-is, c.loop-call.invariant.few)
      ];
    }
