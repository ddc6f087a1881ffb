use Rattle.std.proofs.Common.{◌≡◌}
use Rattle.kfifo_model.specs.declared.calls.Answer.TheVariants.{Done}
use Rattle.kfifo_c.specs.Exports.{Puts}
use Rattle.kfifo_c.proofs.Chains.{GivesOn}
use Rattle.kfifo_c.proofs.seat.Seat.put_each.Given as goal

abbrev pub invariant-loop-i : goal.invariant-loop-i
invariant-loop-i l = record {
  each : GivesOn Puts Done l.items l.i l.fn.self l.self;
  queue : l.self.queue ≡ l.fn.self.queue;
}
