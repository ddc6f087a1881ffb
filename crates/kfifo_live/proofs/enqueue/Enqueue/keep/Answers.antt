-- Each look at the put item begins where the one before it could not hold the head.
use Rattle.std.proofs.Common.{arith}
use Rattle.kfifo_live.proofs.CompleteExecutions.{onward_here, onward_on}
use Rattle.kfifo_live.proofs.enqueue.Enqueue.keep.Goals as goal

pub holds-init : goal.holds-init
holds-init g c = record { on = onward_here c.requires; few = omega arith }

pub see_put-requires : goal.see_put-requires
see_put-requires g c = c.holds.invariant.on.stands

pub returns-in-Answered-clause-comes : goal.returns-in-Answered-clause-comes
returns-in-Answered-clause-comes g c = c.holds.invariant.on.so_far _ _ c.in-Answered.ensures

pub returns-in-TakenOut-clause-comes : goal.returns-in-TakenOut-clause-comes
returns-in-TakenOut-clause-comes g c = c.holds.invariant.on.so_far _ _ c.in-TakenOut.ensures

pub overflow_sub-left : goal.overflow_sub-left
overflow_sub-left g c = c.holds.invariant.on.stands.is_place.3

pub holds-preserved : goal.holds-preserved
holds-preserved g c =
    let i = c.holds.invariant in
    record { on = onward_on i.on c.in-NotHeld.ensures; few = (let f = i.few in omega arith) }

pub holds-smaller : goal.holds-smaller
holds-smaller g c = let some = c.holds.invariant.on.stands.is_place.3 in omega arith
