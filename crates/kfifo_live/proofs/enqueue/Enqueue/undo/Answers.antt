use Rattle.std.proofs.Common.{arith}
use Rattle.std.proofs.lemmas.Bool.Decides.{nat_tests}
use Rattle.kfifo_live.proofs.CompleteExecutions.{comes}
use Rattle.kfifo_live.proofs.enqueue.Enqueue.undo.Goals as goal

pub returns-then-ne : goal.returns-then-ne
returns-then-ne g c = λ ends. comes c.requires c.compare_exchange.ensures (grind (arith, nat_tests))

pub returns-then-worn : goal.returns-then-worn
returns-then-worn g c = λ ends. comes c.requires c.compare_exchange.ensures (grind (arith, nat_tests))

pub returns-else-worn : goal.returns-else-worn
returns-else-worn g c = λ ends. comes c.requires c.compare_exchange.ensures (grind (arith, nat_tests))
