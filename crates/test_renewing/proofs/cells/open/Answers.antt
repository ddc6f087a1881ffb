use Rattle.std.specs.Prelude.{true}
use Rattle.kfifo_renewing.specs.Renewing.{opening_with, sizes_again}
use Rattle.kfifo_renewing.proofs.Queues.{opened_queue}
use Rattle.test_renewing.proofs.cells.open.Goals as goal

pub invariant_of-result : goal.invariant_of-result
invariant_of-result c = let opens = c.in_ok-handles.ensures.opens.1 in
    opened_queue (opening_with true (sizes_again opens.sizes)) c.in_ok-handles.handles.items opens.have_one
