use Rattle.kfifo_renewing.proofs.Queues.{follows_queue}
use Rattle.test_renewing.proofs.Queues.{still_queue}
use Rattle.test_renewing.proofs.plain.Handles.is_empty.Goals as goal

pub invariant_of-self-2 : goal.invariant_of-self-2
invariant_of-self-2 g c =
    still_queue c.self.inside.handles.items c.args.place c.in-Some.handle.now c.is_empty.new.self
    c.in-Some.ensures.item.3.0 c.in-Some.ensures.value
    (follows_queue c.in-Some.handle.now c.is_empty.new.self c.is_empty.ensures) c.self.invariant
