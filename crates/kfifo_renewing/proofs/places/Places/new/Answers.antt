use Rattle.std.proofs.Common.{arith}
use Rattle.kfifo_renewing.proofs.places.Places.new.Goals as goal

pub invariant_of-result : goal.invariant_of-result
invariant_of-result g c = (
  c.loop.invariant.each,
  omega (arith, c.loop.invariant.count, c.requires.few, c.loop-test.false, c.loop.auto.counter-end),
  c.requires.labels,
)
