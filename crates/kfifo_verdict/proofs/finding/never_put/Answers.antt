use Rattle.std.proofs.Common.{arith}
use Rattle.std.proofs.lemmas.Bool.{false≢true}
use Rattle.kfifo_model.proofs.Measuring.{no_more}
use Rattle.kfifo_verdict.specs.Evidence.{IsNeverPut}
use Rattle.kfifo_verdict.proofs.Telling.{got_inside}
use Rattle.kfifo_verdict.proofs.finding.never_put.Goals as goal

pub loop-n-preserved : goal.loop-n-preserved
loop-n-preserved c = no_more (IsNeverPut c.args.calls.now) c.loop-n.n c.loop-n.invariant
    (λ is. false≢true (c.if-is_never_put.ensures.1 is))

pub returns : goal.returns
returns c = λ n is. let lt = got_inside c.args.calls.now is.0 n is.1 in let end = c.loop-n-test.false in
    c.loop-n.invariant n (omega (arith, lt, end)) is
