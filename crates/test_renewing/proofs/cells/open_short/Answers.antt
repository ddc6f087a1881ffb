use Rattle.std.specs.Prelude.{true}
use Rattle.kfifo_renewing.specs.Renewing.{opening_with, sizes_again}
use Rattle.kfifo_renewing.proofs.Queues.{opened_queue}
use Rattle.test_renewing.proofs.cells.open_short.Goals as goal

pub invariant_of-result : goal.invariant_of-result
invariant_of-result c = opened_queue (opening_with true (sizes_again c.in_ok-sizes.sizes)) c.in_ok-handles.handles.items
    c.in_ok-handles.ensures.ok.0
