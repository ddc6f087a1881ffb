use Rattle.std.proofs.Common.{◌≡◌}
use Rattle.kfifo_live.specs.declared.payload.Given.TheVariants as G
use Rattle.kfifo_renewing.specs.Renewing.{GivesToNewest}
use Rattle.kfifo_c.proofs.Chains.{GivesOn}
use Rattle.kfifo_c.proofs.value_queue.seat.ValueSeat.give_each.Given as goal

abbrev pub invariant-loop-i : goal.invariant-loop-i
invariant-loop-i l = record {
  each : GivesOn GivesToNewest G.Done l.values l.i l.fn.self l.self;
  opened : l.self.opened ≡ l.fn.self.opened;
}
