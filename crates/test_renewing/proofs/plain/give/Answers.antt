use Rattle.kfifo_renewing.proofs.Queues.{gives_queue}
use Rattle.test_renewing.proofs.plain.give.Goals as goal

pub returns : goal.returns
returns g c = gives_queue c.args.payload c.give.result c.args.handle.now c.give.new.self c.give.ensures
