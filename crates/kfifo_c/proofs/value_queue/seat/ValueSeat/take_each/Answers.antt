use Rattle.std.proofs.Common.{Some, None, refl, arith, ◌∙◌, length}
use Rattle.kfifo_live.specs.declared.payload.Taken.TheVariants as K
use Rattle.kfifo_renewing.specs.Renewing.{TakesFromOldest}
use Rattle.kfifo_c.proofs.ValueChains.{takes_opened}
use Rattle.kfifo_c.proofs.Chains.{Took, takes-more, takes-stop, takes-all}
use Rattle.kfifo_c.proofs.value_queue.seat.ValueSeat.take_each.Goals as goal

pub loop-i-preserved : goal.loop-i-preserved
loop-i-preserved c = record {
  each = takes-more TakesFromOldest K.Got c.loop-i.i c.args.values.now c.loop-i.values _ _ _ c.take.result
      c.in-Got.value (omega arith) c.take.ensures c.in-Got.is c.loop-i.invariant.each;
  opened = takes_opened _ _ _ c.take.ensures ∙ c.loop-i.invariant.opened;
}

pub returns-in_default-clause-each : goal.returns-in_default-clause-each
returns-in_default-clause-each c =
    let took : Took TakesFromOldest K.Got c.loop-i.i c.args.values.now c.loop-i.values (Some c.take.result)
    c.args.self.now c.take.new.self =
    takes-stop TakesFromOldest K.Got c.loop-i.i c.args.values.now c.loop-i.values _ _ _ c.take.result (omega arith)
    c.take.ensures
    c.in_default.not-Got c.loop-i.invariant.each in
    (Some c.take.result, took.out, c.nothing_status.ensures, took.written, took.is, took.each)

pub returns-clause-each : goal.returns-clause-each
returns-clause-each c =
    let took : Took TakesFromOldest K.Got (length c.args.values.now) c.args.values.now c.loop-i.values None
    c.args.self.now c.loop-i.self =
    takes-all TakesFromOldest K.Got c.loop-i.i c.args.values.now c.loop-i.values _ _ (omega arith)
    c.loop-i.invariant.each in
    (None, took.out, refl, took.written, c.loop-i.auto.values ∙ took.is, took.each)
