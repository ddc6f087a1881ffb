-- A handle leaves what has gone, and then follows.
use Rattle.std.proofs.Common.{ap}
use Rattle.kfifo_renewing.specs.Renewing.{Generations}
use Rattle.kfifo_renewing.proofs.Following.{both-before, follows-less, follows-trans}
use Rattle.kfifo_renewing.proofs.handle.RenewingHandle.catch_up.Goals as goal

pub returns-clause-follows : goal.returns-clause-follows
returns-clause-follows g c =
    let T = g.row.T.Denot in
    let old = c.args.self.now in
    let mid = c.leave_gone.new.self in
    let left = c.leave_gone.ensures in
    follows-trans old mid c.keep_up.new.self
    (follows-less old mid left.later left.older (ap (λ (h : Generations T). h.newest) left.same)
    (ap (λ (h : Generations T). h.number) left.same)) c.keep_up.ensures.follows

pub returns-clause-newest : goal.returns-clause-newest
returns-clause-newest g c =
    both-before c.args.self.now c.leave_gone.new.self c.keep_up.new.self c.leave_gone.ensures.later.seen
    c.keep_up.result c.keep_up.ensures.newest
