-- The older generations are the same after the calls.
use Rattle.kfifo_renewing.specs.Renewing.{opening_in}
use Rattle.kfifo_renewing.proofs.Joining.{joined-same}
use Rattle.kfifo_renewing.proofs.cells.RenewingHandle+unit+Cells.call_older.Goals as goal

pub invariant_of-self : goal.invariant_of-self
invariant_of-self c = (
  let s = c.self.inside in
      joined-same (opening_in s.shared.value) s.shared.value.history.book s.history.book s.history.log
      s.generation.value s.newest
      s.older.items c.call.new.self.items c.self.invariant.0 c.call.ensures.same,
  c.self.invariant.1,
)
