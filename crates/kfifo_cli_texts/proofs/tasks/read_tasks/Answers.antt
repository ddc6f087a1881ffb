use Rattle.std.proofs.Common.{inr, refl, subst}
use Rattle.std.proofs.lemmas.List.{get_or_default}
use Rattle.kfifo_cli_texts.specs.Tasks.{WritesTask}
use Rattle.kfifo_cli_texts.proofs.Each.{read_more}
use Rattle.kfifo_cli_texts.proofs.tasks.read_tasks.Goals as goal

pub returns-in-None-clause-fault : goal.returns-in-None-clause-fault
returns-in-None-clause-fault c = inr (
  c.loop-index.index,
  refl,
  record {
    inside = c.loop-index-test.true;
    unread = λ word task written. c.in-None.ensures task
        (subst (λ w. WritesTask w.now task) (get_or_default c.args.texts.now c.loop-index.index word _
        c.loop-index-test.true) written);
    before = (c.loop-index.tasks.items, c.loop-index.invariant);
  },
)

pub loop-index-preserved : goal.loop-index-preserved
loop-index-preserved c = rw c.in_ok-push-in-Some.ensures.items
    (read_more WritesTask (λ t. t) c.args.texts.now c.loop-index.index _ c.loop-index.tasks.items c.in-Some.task
    c.loop-index-test.true c.loop-index.invariant c.in-Some.ensures)
