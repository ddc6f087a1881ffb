use Rattle.std.specs.Prelude.{◌≡◌}
use Rattle.kfifo_renewing.specs.Renewing.{IsOfSameQueue}
use Rattle.example_values.proofs.worker.Worker.make_texts.Given as goal

abbrev pub invariant-loop-number : goal.invariant-loop-number
invariant-loop-number l = record {
  made : l.self.made.texts ≡ l.number-counter;
  handle : IsOfSameQueue l.fn.self.handle l.self.handle;
}
