-- The rule of a queue with one generation holds at first.
use Rattle.kfifo_renewing.specs.History.{made_by}
use Rattle.kfifo_renewing.proofs.Keeping.{kept_first}
use Rattle.kfifo_renewing.proofs.history.Numbers.open.Goals as goal

pub open_row-history-requires : goal.open_row-history-requires
open_row-history-requires g c = (
  kept_first (made_by c.args.first.now.queue) c.args.first.now.opens_more,
  λ xs. tt,
  c.alone.ensures.1,
)
