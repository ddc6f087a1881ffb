use Rattle.std.proofs.Common.{◌≡◌}
use Rattle.kfifo_live.specs.declared.payload.Taken.TheVariants as K
use Rattle.kfifo_renewing.specs.Renewing.{TakesFromOldest}
use Rattle.kfifo_c.proofs.Chains.{Takes}
use Rattle.kfifo_c.proofs.value_queue.seat.ValueSeat.take_each.Given as goal

abbrev pub invariant-loop-i : goal.invariant-loop-i
invariant-loop-i l = record {
  each : Takes TakesFromOldest K.Got l.i l.fn.values l.values l.fn.self l.self;
  opened : l.self.opened ≡ l.fn.self.opened;
}
