use Rattle.kfifo_renewing.proofs.Queues.{follows_queue}
use Rattle.test_renewing.proofs.Queues.{still_queue}
use Rattle.test_renewing.proofs.plain.Handles.len.Goals as goal

pub invariant_of-self-2 : goal.invariant_of-self-2
invariant_of-self-2 g c =
    still_queue c.self.inside.handles.items c.args.place c.in-Some.handle.now c.len.new.self
    c.in-Some.ensures.item.3.0 c.in-Some.ensures.value
    (follows_queue c.in-Some.handle.now c.len.new.self c.len.ensures.0) c.self.invariant
