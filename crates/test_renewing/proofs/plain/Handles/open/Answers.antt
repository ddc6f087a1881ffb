use Rattle.kfifo_renewing.specs.Renewing.{opening_again}
use Rattle.kfifo_renewing.proofs.Queues.{opened_queue}
use Rattle.test_renewing.proofs.plain.Handles.open.Goals as goal

pub invariant_of-result : goal.invariant_of-result
invariant_of-result g c =
    opened_queue (opening_again c.args.sizes) c.in_ok-handles.handles.items
    c.in_ok-handles.ensures.ok.0
