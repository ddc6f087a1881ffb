use Rattle.std.proofs.Common.{arith}
use Rattle.std.proofs.lemmas.Bool.{false≢true}
use Rattle.kfifo_model.proofs.Measuring.{no_more}
use Rattle.kfifo_verdict.specs.Evidence.{HasItemsLeft}
use Rattle.kfifo_verdict.proofs.Refuting.{found_ended, ended_inside}
use Rattle.kfifo_verdict.proofs.left.items_left.Goals as goal

pub loop-n-preserved : goal.loop-n-preserved
loop-n-preserved c = no_more (HasItemsLeft c.args.calls.now) c.loop-n.n c.loop-n.invariant
    (λ is. false≢true (c.if-has_items_left.ensures.1 is))

pub returns : goal.returns
returns c = λ n is. let h = c.args.calls.now in let lt = ended_inside h n (found_ended h n is.empty) in
    let end = c.loop-n-test.false in
    c.loop-n.invariant n (omega (arith, lt, end)) is
