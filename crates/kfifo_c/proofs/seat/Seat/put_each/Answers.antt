use Rattle.std.proofs.Common.{Some, None, refl, arith, ◌∙◌}
use Rattle.kfifo_model.specs.declared.calls.Answer.TheVariants.{Done}
use Rattle.kfifo_c.specs.Exports.{Puts}
use Rattle.kfifo_c.proofs.Chains.{gives-more, gives-stop, gives-all}
use Rattle.kfifo_c.proofs.seat.Seat.put_each.Goals as goal

pub loop-i-preserved : goal.loop-i-preserved
loop-i-preserved c = record {
  each = gives-more Puts Done c.args.items.now c.loop-i.i _ _ _ c.put-answer.result c.loop-i-test.true
      c.put-answer.ensures c.in-Done.is c.loop-i.invariant.each;
  queue = c.put-answer.ensures.called.queue ∙ c.loop-i.invariant.queue;
}

pub returns-in_default-clause-each : goal.returns-in_default-clause-each
returns-in_default-clause-each c = (
  Some c.put-answer.result,
  c.status.ensures,
  gives-stop Puts Done c.args.items.now c.loop-i.i _ _ _ c.put-answer.result c.loop-i-test.true c.put-answer.ensures
      c.in_default.not-Done c.loop-i.invariant.each,
)

pub returns-clause-each : goal.returns-clause-each
returns-clause-each c =
    (None, refl, gives-all Puts Done c.args.items.now c.loop-i.i _ _ (omega arith) c.loop-i.invariant.each)
