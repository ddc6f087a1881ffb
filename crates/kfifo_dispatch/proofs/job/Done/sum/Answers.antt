-- What came to its end has come to what its task comes to.
use Rattle.kfifo_dispatch.proofs.Work.{comes_to}
use Rattle.kfifo_dispatch.proofs.job.Done.sum.Goals as goal

pub returns : goal.returns
returns g c = rw (← c.self.view_is) (comes_to g.L.Tasks.tasks c.self.inside.place c.self.inside.sum c.self.invariant)
