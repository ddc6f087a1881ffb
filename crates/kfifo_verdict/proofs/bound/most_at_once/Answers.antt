use Rattle.std.proofs.Common.{◌+◌, length, sym, arith}
use Rattle.kfifo_verdict.specs.Bound.{counts_at}
use Rattle.kfifo_verdict.proofs.Bounding.{begun_at, counts_first, ended_at, most_more}
use Rattle.kfifo_verdict.proofs.Younger.{count_few}
use Rattle.kfifo_verdict.proofs.bound.most_at_once.Goals as goal

pub loop-moment-init : goal.loop-moment-init
loop-moment-init c = record {
  count = sym (counts_first c.args.soonest.now c.args.presences.now (length c.args.presences.now));
  most = record { above = λ d lt. absurd (omega (arith, lt)); attained = λ some. absurd (omega (arith, some)) };
}

pub overflow_add-count : goal.overflow_add-count
overflow_add-count c =
    let s = c.args.soonest.now in
    let ps = c.args.presences.now in
    let m = c.loop-moment.moment in
    let whole = begun_at s ps c.args.changes.now m c.loop-moment.count c.index.result.now c.requires
    c.loop-moment-test.true
    c.loop-moment.invariant.count c.index.ensures in
    let few = count_few (counts_at s ps m) (length ps) in
    omega (arith, whole, few)

pub overflow_sub-count : goal.overflow_sub-count
overflow_sub-count c =
    let s = c.args.soonest.now in
    let ps = c.args.presences.now in
    let m = c.loop-moment.moment in
    let whole = begun_at s ps c.args.changes.now m c.loop-moment.count c.index.result.now c.requires
    c.loop-moment-test.true
    c.loop-moment.invariant.count c.index.ensures in
    let rest = ended_at s ps c.args.changes.now m c.index-in-loop-moment.result.now c.requires c.loop-moment-test.true
    c.index-in-loop-moment.ensures in
    omega (arith, whole, rest)

pub loop-moment-preserved : goal.loop-moment-preserved
loop-moment-preserved c =
    let s = c.args.soonest.now in
    let ps = c.args.presences.now in
    let m = c.loop-moment.moment in
    let whole = begun_at s ps c.args.changes.now m c.loop-moment.count c.index.result.now c.requires
    c.loop-moment-test.true
    c.loop-moment.invariant.count c.index.ensures in
    let rest = ended_at s ps c.args.changes.now m c.index-in-loop-moment.result.now c.requires c.loop-moment-test.true
    c.index-in-loop-moment.ensures in
    record {
      count = omega (arith, whole, rest);
      most = most_more s ps m c.loop-moment.most (c.loop-moment.count + c.index.result.now) c.max-most.result
          c.loop-moment.invariant.most whole c.max-most.ensures;
    }
