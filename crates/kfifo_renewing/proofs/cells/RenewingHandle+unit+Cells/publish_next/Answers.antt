-- After the publish a cell is given back: the older one, or that of the newest generation.
use Rattle.std.proofs.Common.{inl, inr}
use Rattle.kfifo_renewing.proofs.cells.RenewingHandle+unit+Cells.publish_next.Goals as goal

pub returns-in-Done : goal.returns-in-Done
returns-in-Done c = (
  c.call_newest-answer.new.self,
  c.call_newest-answer.ensures,
  c.call.result,
  inl (c.in-Done.is, c.call.ensures),
)

pub returns-in_default : goal.returns-in_default
returns-in_default c = (
  c.call_newest-answer.new.self,
  c.call_newest-answer.ensures,
  c.call_newest.result,
  inr (c.in_default.not-Done, c.call_newest.ensures),
)
