use Rattle.kfifo_cli_commands.proofs.Reports.{loads}
use Rattle.kfifo_cli_commands.proofs.commands.run.load.Goals as goal

pub returns-clause-same : goal.returns-clause-same
returns-clause-same c =
    (loads c.args.queue.now c.args.pass.now c.word.new.self c.args.index c.word.result c.requires.alone
    c.word.ensures.same c.word.ensures.finds).0

pub returns-clause-word : goal.returns-clause-word
returns-clause-word c =
    (loads c.args.queue.now c.args.pass.now c.word.new.self c.args.index c.word.result c.requires.alone
    c.word.ensures.same c.word.ensures.finds).1
