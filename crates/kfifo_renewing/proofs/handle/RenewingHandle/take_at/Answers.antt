-- The older generations are the same after the take.
use Rattle.kfifo_renewing.specs.Renewing.{opening_in}
use Rattle.kfifo_renewing.proofs.Joining.{joined-same}
use Rattle.kfifo_renewing.proofs.handle.RenewingHandle.take_at.Goals as goal

pub invariant_of-self : goal.invariant_of-self
invariant_of-self g c = (
  let s = c.self.inside in
      let t = c.take_at in
      joined-same (opening_in s.shared.value) s.shared.value.history.book s.history.book s.history.log
      s.generation.value s.newest s.older.items t.new.self.items c.self.invariant.0 t.ensures.same,
  c.self.invariant.1,
)
