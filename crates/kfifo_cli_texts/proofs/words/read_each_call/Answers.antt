use Rattle.kfifo_cli_texts.specs.Words.{WritesCall}
use Rattle.kfifo_cli_texts.proofs.Each.{read_more, text_unread}
use Rattle.kfifo_cli_texts.proofs.words.read_each_call.Goals as goal

pub loop-text-preserved : goal.loop-text-preserved
loop-text-preserved c = rw c.in_ok-push-in-Some.ensures.items
    (read_more (WritesCall c.args.k c.args.turns) (λ t. t) c.args.texts.now c.loop-text.text-index _
    c.loop-text.calls.items c.in-Some.call
    c.loop-text-test.true c.loop-text.invariant c.in-Some.ensures)

pub returns-in-None : goal.returns-in-None
returns-in-None c = text_unread (WritesCall c.args.k c.args.turns) (λ t. t) c.args.texts.now c.loop-text.text-index _
    c.loop-text-test.true c.in-None.ensures
