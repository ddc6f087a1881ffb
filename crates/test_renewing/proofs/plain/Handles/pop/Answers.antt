use Rattle.test_renewing.proofs.Queues.{fewer_queue}
use Rattle.test_renewing.proofs.plain.Handles.pop.Goals as goal

pub invariant_of-self : goal.invariant_of-self
invariant_of-self g c =
    fewer_queue c.self.inside.handles.items c.pop.new.self.items c.pop.result
    c.pop.ensures.items c.self.invariant
