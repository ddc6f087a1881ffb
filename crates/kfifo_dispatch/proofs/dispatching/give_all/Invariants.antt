use Rattle.std.proofs.Common.{◌+◌, map, take}
use Rattle.kfifo_live.specs.Pass.{IsSamePass}
use Rattle.kfifo_dispatch.specs.Jobs.{JobView}
use Rattle.kfifo_dispatch.specs.Running.{GivesAll}
use Rattle.kfifo_dispatch.specs.Working.{TellsOf}
use Rattle.kfifo_dispatch.proofs.dispatching.give_all.Given as goal

abbrev pub invariant-loop-place : goal.invariant-loop-place
invariant-loop-place g l = record {
  same : IsSamePass (g.P.Station.known l.fn.pass) (g.P.Station.known l.pass);
  gives : GivesAll (TellsOf (g.G.WorkGate.told l.gate) g.L.Tasks.tasks 0) g.P.Station.gives (l.shape.n + 2) 0
      (take l.place l.tasks) l.fn.pass l.pass (map (λ (d : JobView). d.place) l.returned.items);
}
