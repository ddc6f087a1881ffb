-- The floor holds of every schedule.
use Rattle.kfifo_machine.proofs.Floor.{floor_holds}
use Rattle.kfifo_machine.proofs.log.history.Goals as goal

pub returns-clause-floor : goal.returns-clause-floor
returns-clause-floor c = floor_holds c.args.shape c.args.threads
