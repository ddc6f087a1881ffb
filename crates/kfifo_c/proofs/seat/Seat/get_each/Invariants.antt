use Rattle.std.proofs.Common.{◌≡◌}
use Rattle.kfifo_model.specs.declared.calls.Answer.TheVariants.{Got}
use Rattle.kfifo_c.specs.Exports.{Gets}
use Rattle.kfifo_c.proofs.Chains.{Takes}
use Rattle.kfifo_c.proofs.seat.Seat.get_each.Given as goal

abbrev pub invariant-loop-i : goal.invariant-loop-i
invariant-loop-i l = record {
  each : Takes Gets Got l.i l.fn.items l.items l.fn.self l.self;
  queue : l.self.queue ≡ l.fn.self.queue;
}
