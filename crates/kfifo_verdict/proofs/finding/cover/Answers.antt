use Rattle.std.proofs.Common.{refl}
use Rattle.kfifo_verdict.proofs.Covering.{chain_more, chain_broken}
use Rattle.kfifo_verdict.proofs.finding.cover.Goals as goal

pub returns-then-stay-n : goal.returns-then-stay-n
returns-then-stay-n c =
    let t = c.loop-stay-test.ensures.0 refl in (
      chain_broken c.args.calls.now c.args.empty c.loop-stay.n c.loop-stay.puts.items c.args.stays.now
          c.requires.history c.requires.stays t.0 t.1 c.if-stay-n.true c.loop-stay.invariant,
      c.loop-stay.invariant.from,
      t.0,
      t.1,
      c.if-stay-n.true,
    )

pub loop-stay-preserved : goal.loop-stay-preserved
loop-stay-preserved c =
    let t = c.loop-stay-test.ensures.0 refl in
    chain_more c.args.calls.now c.args.empty c.loop-stay.n c.loop-stay.puts.items c.push.new.self.items _
    c.requires.history
    (c.requires.stays.real c.loop-stay.n t.0) t.0 t.1 c.if-stay-n.false c.in_ok-push.ensures.items c.loop-stay.invariant
