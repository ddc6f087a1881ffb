-- The handle leaves what is gone before its second try.
use Rattle.std.proofs.Common.{ap}
use Rattle.kfifo_renewing.specs.Memory.{cell_reserved}
use Rattle.kfifo_renewing.specs.Renewing.{Generations}
use Rattle.kfifo_renewing.proofs.Following.{follows-less}
use Rattle.kfifo_renewing.proofs.CellCalls.{reserves-after}
use Rattle.kfifo_renewing.proofs.cells.RenewingHandle+unit+Cells.reserve_more.Goals as goal

pub returns : goal.returns
returns c =
    let same = c.open_more.ensures.same in
    reserves-after (cell_reserved c.try_to_reserve.result) c.args.self.now c.open_more.new.self
    c.try_to_reserve.new.self
    (follows-less c.args.self.now c.open_more.new.self c.open_more.ensures.later c.open_more.ensures.older
    (ap (λ (h : Generations (Unit {0})). h.newest) same) (ap (λ (h : Generations (Unit {0})). h.number) same))
    c.try_to_reserve.ensures
