use Rattle.kfifo_renewing.proofs.Queues.{takes_queue}
use Rattle.test_renewing.proofs.plain.take.Goals as goal

pub returns : goal.returns
returns g c = takes_queue _ _ c.take.result c.args.handle.now c.take.new.self c.take.ensures
