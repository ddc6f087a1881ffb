-- The handle follows others, and then reserves.
use Rattle.std.proofs.Common.{ap, inl, inr, refl, subst}
use Rattle.kfifo_pool.specs.Cells.{ReservesCell}
use Rattle.kfifo_pool.specs.Pooled.{Pooled}
use Rattle.kfifo_renewing.specs.Memory.{cell_reserved}
use Rattle.kfifo_renewing.specs.Renewing.{Generations, with_newest}
use Rattle.kfifo_renewing.proofs.cells.RenewingHandle+unit+Cells.try_to_reserve.Goals as goal

pub returns-then-not-keep_up : goal.returns-then-not-keep_up
returns-then-not-keep_up c =
    (c.keep_up.new.self, c.keep_up.ensures.follows, inr (c.if-not-keep_up.ensures.newest, refl, refl))

pub returns : goal.returns
returns c =
    let newest = ap (λ (h : Generations (Unit {0})). h.newest) c.self.view_is in (
      c.keep_up.new.self,
      c.keep_up.ensures.follows,
      inl (
        c.if-not-keep_up.ensures.newest,
        record {
          others = ap (λ (h : Generations (Unit {0})). with_newest h c.reserve.new.self.handle) c.self.view_is;
          reserves = subst (λ (h : Pooled (Unit {0})). ReservesCell (cell_reserved c.reserve.result) h
              c.reserve.new.self.handle) newest c.reserve.ensures.reserves;
        },
      ),
    )
