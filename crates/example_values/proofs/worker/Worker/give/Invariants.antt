use Rattle.std.specs.Prelude.{◌≡◌}
use Rattle.kfifo_renewing.specs.Renewing.{IsOfSameQueue}
use Rattle.example_values.proofs.worker.Worker.give.Given as goal

abbrev pub invariant-loop-try : goal.invariant-loop-try
invariant-loop-try l = record {
  made : l.self.made ≡ l.fn.self.made;
  handle : IsOfSameQueue l.fn.self.handle l.self.handle;
}
