use Rattle.std.proofs.Common.{get_or}
use Rattle.std.proofs.lemmas.List.{take_all}
use Rattle.kfifo_model.proofs.Checking.{goes_on, breaks_at, runs_whole, tried_went}
use Rattle.kfifo_model.specs.Histories.{does}
use Rattle.kfifo_model.proofs.orders.first_break.Goals as goal

pub returns-in-NotLegal : goal.returns-in-NotLegal
returns-in-NotLegal c =
    let none = rw c.in-NotLegal.is at c.in_ok-tried.ensures in
    breaks_at c.args.k c.args.calls.now c.args.order.now c.loop-p.p c.loop-p.items.items c.loop-p-test.true
    c.loop-p.invariant none

pub loop-p-preserved : goal.loop-p-preserved
loop-p-preserved c =
    goes_on c.args.k c.args.calls.now c.args.order.now c.loop-p.p c.loop-p.items.items c.try_number.new.items.items
    c.loop-p-test.true
    c.loop-p.invariant
    (tried_went c.args.k c.loop-p.items.items c.try_number.new.items.items
    (does c.args.calls.now (get_or c.args.order.now c.loop-p.p 0))
    c.in_ok-tried.tried c.in_ok-tried.ensures c.in_default.not-NotLegal)

pub returns : goal.returns
returns c =
    runs_whole c.args.k c.args.calls.now c.args.order.now c.loop-p.p c.loop-p.items.items
    (take_all c.loop-p.p c.args.order.now c.loop-p-test.false) c.loop-p.invariant
