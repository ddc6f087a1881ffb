use Rattle.kfifo_linear.proofs.Rows.{rows_hold}
use Rattle.kfifo_linear.proofs.worked_schedules_have_their_orders.Goals as goal

pub returns : goal.returns
returns c = rows_hold
