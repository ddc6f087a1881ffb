-- A pass of an opening has made no call.
use Rattle.std.proofs.Common.{◌≡◌, ◌≤◌, [], ◌∷◌, ◌++◌, ◌∙◌, ap, sym, subst, arith}
use Rattle.std.specs.Vec.Iter.{into_iter_items}
use Rattle.kfifo_live.proofs.Types.{Opening}
use Rattle.kfifo_live.specs.Pass.{OpenQueue, new_passes}
use Rattle.kfifo_live.specs.Stamps.{IsLog, logged_by}
use Rattle.kfifo_live.proofs.Records.{is_new, new_log, new_logs-snoc, new_promise, taken_front}
use Rattle.kfifo_live.proofs.stamped.add_logs.Goals as goal

pub invariant_of-push : goal.invariant_of-push
invariant_of-push c =
    let x = c.in-Some.pass in
    let it = c.into_iter-pass-iterator in
    let q = c.args.queue.now in
    let split : new_passes q 0 q.opened.threads ≡ c.loop-pass.yielded ++ x ∷ into_iter_items c.next.new.self =
    sym c.requires.passes ∙ sym it.ensures.into_iter_gives.0
    ∙ taken_front it.result c.loop-pass.yielded c.loop-pass.pass-iterator c.loop-pass.yielded_by
    ∙ ap (λ xs. c.loop-pass.yielded ++ xs) c.in-Some.ensures.steps.0 in
    let new = is_new q 0 q.opened.threads c.loop-pass.yielded x (into_iter_items c.next.new.self) split in
    let few : x.opened.threads ≤ 64 = subst (λ (o : Opening). o.threads ≤ 64) (sym new.0) c.requires.few in
    let calls : x.opened.calls ≡ c.queue.inside.calls =
    ap (λ (o : Opening). o.calls) new.0 ∙ sym (ap (λ (p : OpenQueue). p.opened.calls) c.queue.view_is) in
    let capacity = c.in_ok-log.ensures.capacity in (
      subst (IsLog x) (sym c.in_ok-log.ensures.items) (new_log x new.1),
      new_promise x new.1 few,
      omega
          (arith, calls, capacity),
    )

pub loop-pass-preserved : goal.loop-pass-preserved
loop-pass-preserved c =
    c.in_ok-push.ensures.items
    ∙ (λ k. c.loop-pass.invariant k ++ logged_by c.in-Some.pass (c.in_ok-log.ensures.items k) ∷ [])
    ∙ sym (new_logs-snoc c.loop-pass.yielded c.in-Some.pass)
