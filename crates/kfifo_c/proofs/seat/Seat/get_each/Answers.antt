use Rattle.std.proofs.Common.{Some, None, refl, arith, ◌∙◌, length}
use Rattle.kfifo_model.specs.declared.calls.Answer.TheVariants.{Got}
use Rattle.kfifo_c.specs.Exports.{Gets}
use Rattle.kfifo_c.proofs.Chains.{Took, takes-more, takes-stop, takes-all}
use Rattle.kfifo_c.proofs.seat.Seat.get_each.Goals as goal

pub loop-i-preserved : goal.loop-i-preserved
loop-i-preserved c = record {
  each = takes-more Gets Got c.loop-i.i c.args.items.now c.loop-i.items _ _ _ c.get-answer.result c.in-Got.item
      (omega arith) c.get-answer.ensures c.in-Got.is c.loop-i.invariant.each;
  queue = c.get-answer.ensures.called.queue ∙ c.loop-i.invariant.queue;
}

pub returns-in_default-clause-each : goal.returns-in_default-clause-each
returns-in_default-clause-each c =
    let took : Took Gets Got c.loop-i.i c.args.items.now c.loop-i.items (Some c.get-answer.result) c.args.self.now
    c.get-answer.new.self =
    takes-stop Gets Got c.loop-i.i c.args.items.now c.loop-i.items _ _ _ c.get-answer.result (omega arith)
    c.get-answer.ensures
    c.in_default.not-Got c.loop-i.invariant.each in
    (Some c.get-answer.result, took.out, c.status.ensures, took.written, took.is, took.each)

pub returns-clause-each : goal.returns-clause-each
returns-clause-each c =
    let took : Took Gets Got (length c.args.items.now) c.args.items.now c.loop-i.items None c.args.self.now
    c.loop-i.self =
    takes-all Gets Got c.loop-i.i c.args.items.now c.loop-i.items _ _ (omega arith) c.loop-i.invariant.each in
    (None, took.out, refl, took.written, c.loop-i.auto.items ∙ took.is, took.each)
