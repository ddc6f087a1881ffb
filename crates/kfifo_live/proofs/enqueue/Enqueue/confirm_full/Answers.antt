use Rattle.std.proofs.Common.{arith}
use Rattle.std.proofs.lemmas.Bool.Decides.{nat_tests}
use Rattle.kfifo_live.proofs.CompleteExecutions.{comes}
use Rattle.kfifo_live.proofs.enqueue.Enqueue.confirm_full.Goals as goal

pub returns-then-eq : goal.returns-then-eq
returns-then-eq g c = comes c.requires c.load_ends.ensures (grind (arith, nat_tests))

pub returns-else-eq : goal.returns-else-eq
returns-else-eq g c = comes c.requires c.load_ends.ensures (grind (arith, nat_tests))
