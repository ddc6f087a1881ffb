use Rattle.std.proofs.Common.{map, take}
use Rattle.kfifo_cli_texts.specs.Scripts.{WritesScript}
use Rattle.kfifo_cli_texts.specs.Words.{EachWrites}
use Rattle.kfifo_cli_texts.proofs.Each.{texts_by}
use Rattle.kfifo_cli_texts.proofs.words.read_scripts.Given as goal

abbrev pub invariant-loop-index : goal.invariant-loop-index
invariant-loop-index l = EachWrites (WritesScript l.k l.turns) (texts_by (λ t. t) (take l.index l.texts))
    (map (λ script. script.items) l.scripts.items)
