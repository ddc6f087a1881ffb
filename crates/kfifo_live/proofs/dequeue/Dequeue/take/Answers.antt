use Rattle.std.proofs.Common.{arith}
use Rattle.std.proofs.lemmas.Bool.Decides.{nat_tests}
use Rattle.kfifo_live.proofs.CompleteExecutions.{comes}
use Rattle.kfifo_live.proofs.dequeue.Dequeue.take.Goals as goal

pub returns-then-ne : goal.returns-then-ne
returns-then-ne g c = comes c.requires c.compare_exchange.ensures (grind (arith, nat_tests))

pub returns : goal.returns
returns g c = comes c.requires c.compare_exchange.ensures (grind (arith, nat_tests))
