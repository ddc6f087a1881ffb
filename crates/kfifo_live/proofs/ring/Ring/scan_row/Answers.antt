use Rattle.std.proofs.Common.{arith, sym, ◌∙◌}
use Rattle.kfifo_live.proofs.CompleteExecutions.{onward_step}
use Rattle.kfifo_live.proofs.Scans.{row_goes_on}
use Rattle.kfifo_live.proofs.ring.Ring.scan_row.Goals as goal

pub slots-preserved : goal.slots-preserved
slots-preserved g c =
    let i = c.slots.invariant in
    record {
      from = omega arith;
      inside = omega arith;
      stands = λ row stands. onward_step (i.stands row stands) c.load-word.ensures
          (row_goes_on row c.slots.index c.load-word.result i.from (omega arith)
          (sym c.is_wanted.ensures ∙ c.if-is_wanted.false));
    }
