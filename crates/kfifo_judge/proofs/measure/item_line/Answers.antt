use Rattle.std.proofs.Common.{rules, append_assoc}
use Rattle.kfifo_judge.proofs.measure.item_line.Goals as goal

pub returns : goal.returns
returns c = search (rules, append_assoc)
