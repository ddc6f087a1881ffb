-- A job that begins has its task's sum and work, and its number.
use Rattle.std.proofs.Common.{arith}
use Rattle.kfifo_dispatch.proofs.Work.{begins, named}
use Rattle.kfifo_dispatch.proofs.job.Job.new.Goals as goal

pub invariant_of-result : goal.invariant_of-result
invariant_of-result g c =
    rw c.from.ensures (
      begins g.L.Tasks.tasks c.args.place _ c.requires (omega (arith, c.ranges.left)) (omega (arith, c.ranges.sum)),
      named g.L.Tasks.tasks c.args.place _ c.requires,
    )
