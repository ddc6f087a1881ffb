use Rattle.std.proofs.Common.{◌≡◌, ◌+◌, ◌<◌}
use Rattle.kfifo_dispatch.specs.Jobs.{id_at}
use Rattle.kfifo_dispatch.proofs.job.Job.work_off.Given as goal

abbrev pub invariant-loop-unit : goal.invariant-loop-unit
invariant-loop-unit g l =
    (l.self.place ≡ l.fn.self.place) × (l.self.left + l._unit ≡ l.fn.self.left)
    × (0 < l._unit → g.G.WorkGate.told l.gate l.worker (id_at g.L.Tasks.tasks l.fn.self.place))
