use Rattle.kfifo_import.proofs.Steps.{begin_more, one_stamp}
use Rattle.kfifo_import.proofs.stamping.end_stamps.Goals as goal

pub loop-rank-preserved : goal.loop-rank-preserved
loop-rank-preserved c =
    let calls = c.args.calls.now in
    let ends = c.args.ends.now in
    let rank = c.loop-rank.rank in
    let begun = c.begun_by-begun.result in
    let have = c.begun_by-begun.ensures in
    record {
      stamped = one_stamp calls ends c.loop-rank.stamps.items rank begun c.requires.by_last c.loop-rank-test.true
          c.loop-rank.invariant.stamped have;
      begun = begin_more calls ends rank begun c.requires.by_last.rise have;
    }
