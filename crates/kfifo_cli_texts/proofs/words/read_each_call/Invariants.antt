use Rattle.std.proofs.Common.{take}
use Rattle.kfifo_cli_texts.specs.Words.{EachWrites, WritesCall}
use Rattle.kfifo_cli_texts.proofs.Each.{texts_by}
use Rattle.kfifo_cli_texts.proofs.words.read_each_call.Given as goal

abbrev pub invariant-loop-text : goal.invariant-loop-text
invariant-loop-text l = EachWrites (WritesCall l.k l.turns) (texts_by (λ t. t) (take l.text-index l.texts))
    l.calls.items
