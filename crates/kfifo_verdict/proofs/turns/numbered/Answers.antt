use Rattle.std.proofs.Common.{length, refl, arith}
use Rattle.kfifo_verdict.proofs.Lining.{numbered_more, numbered_all}
use Rattle.kfifo_verdict.proofs.turns.numbered.Goals as goal

pub loop-n-preserved : goal.loop-n-preserved
loop-n-preserved c = numbered_more c.args.turns.now c.loop-n.n c.loop-n.numbered.items c.push.new.self.items _ refl
    c.in_ok-push.ensures.items c.loop-n.invariant

pub returns : goal.returns
returns c =
    let test = c.loop-n-test.false in
    let end = c.loop-n.auto.n-end in
    numbered_all c.args.turns.now c.loop-n.n (length c.args.turns.now) c.loop-n.numbered.items
    (omega (arith, test, end)) c.loop-n.invariant
