-- The handle leaves what is gone before its second try.
use Rattle.std.proofs.Common.{ap}
use Rattle.kfifo_renewing.specs.Renewing.{Generations}
use Rattle.kfifo_renewing.proofs.Following.{follows-less}
use Rattle.kfifo_renewing.proofs.Giving.{again-after}
use Rattle.kfifo_renewing.proofs.payloads.RenewingHandle+T+Payloads.give_to_more.Goals as goal

pub returns : goal.returns
returns g c =
    let T = g.row.T.Denot in
    let old = c.args.self.now in
    let mid = c.open_more.new.self in
    let same = c.open_more.ensures.same in
    let number = ap (λ (h : Generations T). h.number) same in
    again-after c.args.payload c.try_next.result old mid c.try_next.new.self
    (follows-less old mid c.open_more.ensures.later c.open_more.ensures.older
    (ap (λ (h : Generations T). h.newest) same) number)
    number c.try_next.ensures
