use Rattle.std.proofs.Common.{◌++◌, [], ◌∷◌, ◌∙◌, ap, sym, subst}
use Rattle.kfifo_live.specs.Stamps.{IsLog, Logged}
use Rattle.kfifo_model.proofs.Lists.{AllByRecursion-push}
use Rattle.kfifo_live.proofs.Records.{all_logs-snoc, passes-snoc}
use Rattle.kfifo_live.proofs.stamped.gathering.take_logs.Goals as goal

pub loop-stamped-preserved : goal.loop-stamped-preserved
loop-stamped-preserved c =
    let i = c.loop-stamped.invariant in
    let log = c.as_slice.ensures.value ∙ ap (λ (p : Logged). p.log) c.stamped.view_is in
    let pass = ap (λ (p : Logged). p.pass) c.stamped.view_is in
    record {
      logs = c.in_ok-extend_from_slice.ensures.items ∙ (λ k. i.logs k ++ log k)
          ∙ sym (all_logs-snoc c.loop-stamped.yielded c.in-Some.stamped);
      passes = c.in_ok-push.ensures.items ∙ (λ k. i.passes k ++ pass k ∷ [])
          ∙ sym (passes-snoc c.loop-stamped.yielded c.in-Some.stamped);
      are_logs = AllByRecursion-push (λ p. IsLog p.pass p.log) c.loop-stamped.yielded c.in-Some.stamped i.are_logs
          (subst (λ (p : Logged). IsLog p.pass p.log) c.stamped.view_is c.stamped.invariant.0);
    }
