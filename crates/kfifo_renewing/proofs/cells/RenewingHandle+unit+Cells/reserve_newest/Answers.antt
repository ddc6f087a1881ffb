-- One try, and a second one where the first found no cell.
use Rattle.std.proofs.Common.{None, Some, inl, inr, refl, subst}
use Rattle.kfifo_renewing.specs.Cells.{TriesToReserve}
use Rattle.kfifo_renewing.specs.Renewing.{Generations}
use Rattle.kfifo_renewing.proofs.cells.RenewingHandle+unit+Cells.reserve_newest.Goals as goal

pub returns-in-Some : goal.returns-in-Some
returns-in-Some c = (
  Some c.in-Some.cell.index,
  c.try_to_reserve.new.self,
  subst (λ (g : Generations (Unit {0})). TriesToReserve (Some c.in-Some.cell.index) g c.try_to_reserve.new.self)
      c.count_give.ensures c.in-Some.ensures,
  inl (refl, refl),
)

pub returns-else-not-grows : goal.returns-else-not-grows
returns-else-not-grows c = (
  None,
  c.try_to_reserve.new.self,
  subst (λ (g : Generations (Unit {0})). TriesToReserve None g c.try_to_reserve.new.self) c.count_give.ensures
      c.in-None.ensures,
  inr (refl, c.reserve_more.ensures),
)

pub returns-then-not-grows : goal.returns-then-not-grows
returns-then-not-grows c = (
  None,
  c.try_to_reserve.new.self,
  subst (λ (g : Generations (Unit {0})). TriesToReserve None g c.try_to_reserve.new.self) c.count_give.ensures
      c.in-None.ensures,
  inl (refl, refl),
)
