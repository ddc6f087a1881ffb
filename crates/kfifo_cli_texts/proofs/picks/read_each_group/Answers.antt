use Rattle.kfifo_cli_texts.specs.Picks.{WritesGroup}
use Rattle.kfifo_cli_texts.proofs.Each.{read_more, text_unread}
use Rattle.kfifo_cli_texts.proofs.picks.read_each_group.Goals as goal

pub loop-text-preserved : goal.loop-text-preserved
loop-text-preserved c = rw c.in_ok-push-in-Some.ensures.items
    (read_more WritesGroup (λ t. t) c.args.texts.now c.loop-text.text-index _ c.loop-text.groups.items c.in-Some.group
    c.loop-text-test.true c.loop-text.invariant c.in-Some.ensures)

pub returns-in-None : goal.returns-in-None
returns-in-None c = text_unread WritesGroup (λ t. t) c.args.texts.now c.loop-text.text-index _ c.loop-text-test.true
    c.in-None.ensures
