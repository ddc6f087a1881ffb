use Rattle.std.proofs.Common.{Some, None, refl, arith, ◌∙◌}
use Rattle.kfifo_live.specs.declared.payload.Given.TheVariants as G
use Rattle.kfifo_renewing.specs.Renewing.{GivesToNewest}
use Rattle.kfifo_c.proofs.ValueChains.{gives_opened}
use Rattle.kfifo_c.proofs.Chains.{gives-more, gives-stop, gives-all}
use Rattle.kfifo_c.proofs.value_queue.seat.ValueSeat.give_each.Goals as goal

pub loop-i-preserved : goal.loop-i-preserved
loop-i-preserved c = record {
  each = gives-more GivesToNewest G.Done c.args.values.now c.loop-i.i _ _ _ c.give-answer.result c.loop-i-test.true
      c.give-answer.ensures c.in-Done.is c.loop-i.invariant.each;
  opened = gives_opened _ _ _ _ c.give-answer.ensures ∙ c.loop-i.invariant.opened;
}

pub returns-in_default-clause-each : goal.returns-in_default-clause-each
returns-in_default-clause-each c = (
  Some c.give-answer.result,
  c.given_status.ensures,
  gives-stop GivesToNewest G.Done c.args.values.now c.loop-i.i _ _ _ c.give-answer.result c.loop-i-test.true
      c.give-answer.ensures c.in_default.not-Done c.loop-i.invariant.each,
)

pub returns-clause-each : goal.returns-clause-each
returns-clause-each c =
    (None, refl, gives-all GivesToNewest G.Done c.args.values.now c.loop-i.i _ _ (omega arith) c.loop-i.invariant.each)
