use Rattle.std.proofs.Common.{arith}
use Rattle.kfifo_model.proofs.Measuring.{no_more}
use Rattle.kfifo_verdict.specs.Judging.{GotTooYoung}
use Rattle.kfifo_verdict.proofs.Telling.{got_inside}
use Rattle.kfifo_verdict.proofs.Skipping.{skips_later}
use Rattle.kfifo_verdict.proofs.finding.too_young.Goals as goal

pub loop-n-preserved : goal.loop-n-preserved
loop-n-preserved c = record {
  none = no_more (GotTooYoung c.args.k c.args.calls.now) c.loop-n.n c.loop-n.invariant.none
      (rw c.in_default.is at c.in_ok-puts.ensures.young);
  skips = skips_later c.args.items.now.presences.items c.loop-n.n c.too_young_at.new.skips.items
      c.in_ok-puts.ensures.skips;
}

pub returns : goal.returns
returns c = λ n y.
    let lt = got_inside c.args.calls.now y.1.item n y.1.gets in
    let end = c.loop-n-test.false in
    c.loop-n.invariant.none n (omega (arith, lt, end)) y
