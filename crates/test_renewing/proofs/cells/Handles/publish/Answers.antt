use Rattle.test_renewing.proofs.Queues.{still_queue}
use Rattle.test_renewing.proofs.cells.Handles.publish.Goals as goal

pub invariant_of-self-2 : goal.invariant_of-self-2
invariant_of-self-2 c =
    still_queue c.self.inside.handles.items c.args.place c.in-Some.handle.now c.publish.new.handle
    c.in-Some.ensures.item.3.0 c.in-Some.ensures.value
    c.publish.ensures c.self.invariant
