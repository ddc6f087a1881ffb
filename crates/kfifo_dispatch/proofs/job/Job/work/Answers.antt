-- A unit of work keeps what the job comes to.
use Rattle.std.proofs.Common.{◌<◌, arith, sym, subst}
use Rattle.kfifo_dispatch.specs.Jobs.{JobView}
use Rattle.kfifo_dispatch.proofs.Work.{goes_on}
use Rattle.kfifo_dispatch.proofs.job.Job.work.Goals as goal

pub overflow_add-self : goal.overflow_add-self
overflow_add-self g c =
    let some = subst (λ (v : JobView). 0 < v.left) (sym c.self.view_is) c.requires in
    let fits = (goes_on g.L.Tasks.tasks c.self.inside.place c.self.inside.left c.self.inside.sum some
    c.self.invariant.0).0 in
    omega (arith, fits, c.from.ensures)

pub invariant_of-self : goal.invariant_of-self
invariant_of-self g c =
    let some = subst (λ (v : JobView). 0 < v.left) (sym c.self.view_is) c.requires in
    rw c.from.ensures (
      (goes_on g.L.Tasks.tasks c.self.inside.place c.self.inside.left c.self.inside.sum some c.self.invariant.0).1,
      c.self.invariant.1,
    )
