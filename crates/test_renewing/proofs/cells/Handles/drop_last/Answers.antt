use Rattle.test_renewing.proofs.Queues.{fewer_queue}
use Rattle.test_renewing.proofs.cells.Handles.drop_last.Goals as goal

pub invariant_of-self : goal.invariant_of-self
invariant_of-self c =
    fewer_queue c.self.inside.handles.items c.pop.new.self.items c.pop.result
    c.pop.ensures.items c.self.invariant
