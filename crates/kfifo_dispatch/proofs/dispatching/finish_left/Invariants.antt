use Rattle.std.proofs.Common.{◌≡◌, ◌++◌, map}
use Rattle.kfifo_dispatch.specs.Jobs.{JobView}
use Rattle.kfifo_dispatch.specs.Working.{CallerTells}
use Rattle.kfifo_dispatch.proofs.dispatching.finish_left.Given as goal

abbrev pub invariant-loop-job : goal.invariant-loop-job
invariant-loop-job g l = record {
  can_next : (goal.iterator-loop-job g).can_next l.job-iterator;
  is_finite : (goal.iterator-loop-job g).is_finite l.job-iterator;
  came : map (λ (d : JobView). d.place) l.returned.items
      ≡ map (λ (d : JobView). d.place) l.fn.returned.items ++ map (λ (j : JobView). j.place) l.yielded;
  told : CallerTells (g.G.WorkGate.told l.gate) g.L.Tasks.tasks l.yielded;
}
