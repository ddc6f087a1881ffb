-- Each pass that came back is one of the queue.
use Rattle.std.proofs.Common.{rules, arith}
use Rattle.test_live.proofs.tests.live.stamps.record.Goals as goal

pub gather-requires : goal.gather-requires
gather-requires g c = λ i d less.
    let back = c.in_ok-passes.ensures.each i d (omega (arith, less, c.in_ok-passes.ensures.len)) in
    search rules
