use Rattle.kfifo_live.specs.Pass.{IsSamePass}
use Rattle.example_threads.proofs.worker.Worker.work.Given as goal

abbrev pub invariant-loop-item : goal.invariant-loop-item
invariant-loop-item l = IsSamePass l.fn.self.handle.pass l.self.handle.pass
