use Rattle.std.proofs.Common.{◌≡◌, map}
use Rattle.kfifo_live.specs.Pass.{IsSamePass}
use Rattle.kfifo_dispatch.specs.Jobs.{JobView}
use Rattle.kfifo_dispatch.specs.Working.{MayWork, TellsOf}
use Rattle.kfifo_dispatch.proofs.Running.{Ends}
use Rattle.kfifo_dispatch.proofs.worker.Worker.work.Given as goal

abbrev pub invariant-loop-call : goal.invariant-loop-call
invariant-loop-call g l = record {
  may : MayWork l.queue (g.P.Station.known l.self.pass) l.self.starts l.self.turns;
  same : IsSamePass (g.P.Station.known l.fn.self.pass) (g.P.Station.known l.self.pass);
  turns : l.self.turns ≡ l.fn.self.turns;
  ends : Ends (g.P.Station.passes l.gate)
      (λ s. TellsOf (g.G.WorkGate.told l.gate) g.L.Tasks.tasks (g.P.Station.known s).thread) g.P.Station.takes
      g.P.Station.gives l.fn.self.turns 65536 l.fn.self.pass l.fn.self.starts l.call
      l.self.pass l.self.starts
      (map (λ (d : JobView). d.place) l.kept.items);
}
