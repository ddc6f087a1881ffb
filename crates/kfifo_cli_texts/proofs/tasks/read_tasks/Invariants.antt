use Rattle.std.proofs.Common.{take}
use Rattle.kfifo_cli_texts.specs.Tasks.{WritesTask}
use Rattle.kfifo_cli_texts.specs.Words.{EachWrites}
use Rattle.kfifo_cli_texts.proofs.Each.{texts_by}
use Rattle.kfifo_cli_texts.proofs.tasks.read_tasks.Given as goal

abbrev pub invariant-loop-index : goal.invariant-loop-index
invariant-loop-index l = EachWrites WritesTask (texts_by (λ t. t) (take l.index l.texts)) l.tasks.items
