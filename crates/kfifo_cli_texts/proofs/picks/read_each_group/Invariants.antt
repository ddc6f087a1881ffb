use Rattle.std.proofs.Common.{take}
use Rattle.kfifo_cli_texts.specs.Picks.{WritesGroup}
use Rattle.kfifo_cli_texts.specs.Words.{EachWrites}
use Rattle.kfifo_cli_texts.proofs.Each.{texts_by}
use Rattle.kfifo_cli_texts.proofs.picks.read_each_group.Given as goal

abbrev pub invariant-loop-text : goal.invariant-loop-text
invariant-loop-text l = EachWrites WritesGroup (texts_by (λ t. t) (take l.text-index l.texts)) l.groups.items
