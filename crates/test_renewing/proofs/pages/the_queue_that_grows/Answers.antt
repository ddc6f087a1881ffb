use Rattle.kfifo_renewing.specs.Renewing.{opening_again}
use Rattle.kfifo_renewing.proofs.Queues.{opened_queue}
use Rattle.test_renewing.proofs.pages.the_queue_that_grows.Goals as goal

pub close-requires : goal.close-requires
close-requires g c =
    opened_queue (opening_again c.in_ok-sizes.sizes) c.in_ok-handles.handles.items
    c.in_ok-handles.ensures.ok.0
