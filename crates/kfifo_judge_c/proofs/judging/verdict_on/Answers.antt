use Rattle.std.proofs.Common.{◌∙◌, List, ap, length, refl}
use Rattle.kfifo_model.specs.declared.calls.Call.{Call}
use Rattle.kfifo_judge_c.specs.Named.{calls_named}
use Rattle.kfifo_judge_c.proofs.judging.verdict_on.Goals as goal

pub returns : goal.returns
returns c = record {
  judged = c.in_ok-judged.judged;
  judged_is = c.in_ok-judged.ensures;
  told = refl;
  status_is = c.status_of.ensures;
  kind_is = c.kind_of.ensures;
  headline_is = c.in_ok-headline_of.ensures;
  named_are = c.in_ok-calls_named.ensures
      ∙ ap (calls_named c.args.logged.now c.args.history.now) (c.as_slice.ensures.value ∙ c.in_ok-numbers.ensures);
  counts = (ap (λ (calls : List Call). length calls) c.calls.ensures.calls, refl);
  tries_are = c.tries_of.ensures;
  no_fault = (refl, refl);
  bounds = c.bound_numbers-at_least.ensures;
}
