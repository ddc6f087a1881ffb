use Rattle.kfifo_renewing.proofs.Queues.{takes_queue}
use Rattle.example_values.proofs.worker.Worker.take.Goals as goal

pub returns-in-Got-clause-handle : goal.returns-in-Got-clause-handle
returns-in-Got-clause-handle c =
    takes_queue _ _ c.take.result c.args.self.now.handle c.take.new.self c.take.ensures

pub returns-in-Worn-clause-handle : goal.returns-in-Worn-clause-handle
returns-in-Worn-clause-handle c =
    takes_queue _ _ c.take.result c.args.self.now.handle c.take.new.self c.take.ensures

pub returns-in-Empty-clause-handle : goal.returns-in-Empty-clause-handle
returns-in-Empty-clause-handle c =
    takes_queue _ _ c.take.result c.args.self.now.handle c.take.new.self c.take.ensures
