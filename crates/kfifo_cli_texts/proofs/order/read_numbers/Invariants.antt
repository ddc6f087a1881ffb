use Rattle.std.proofs.Common.{take}
use Rattle.kfifo_cli_texts.specs.Orders.{WriteNumbers, part_of}
use Rattle.kfifo_cli_texts.proofs.Each.{texts_by}
use Rattle.kfifo_cli_texts.proofs.order.read_numbers.Given as goal

abbrev pub invariant-loop-text : goal.invariant-loop-text
invariant-loop-text l = WriteNumbers (texts_by (part_of l.is_spaced) (take l.text-index l.texts)) l.numbers.items
