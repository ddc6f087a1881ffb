use Rattle.std.proofs.Common.{refl}
use Rattle.kfifo_model.specs.Reach.{reach}
use Rattle.kfifo_model.specs.Searching.{IsAdded, Extends}
use Rattle.kfifo_model.proofs.Adding.{on_ok_map, added_none, added_as}
use Rattle.kfifo_model.proofs.Resting.{idle_goes, cannot_finish}
use Rattle.kfifo_model.proofs.search.expand.Goals as goal

pub returns-in-Some : goal.returns-in-Some
returns-in-Some c =
    let r = reach c.args.done.now c.args.items.now in
    on_ok_map c.add_after.result _ (IsAdded c.args.k c.args.calls.now r c.args.next.now.items c.add_after.new.next.items
    (Extends c.args.k c.args.calls.now r → ⊥))
    (added_as c.args.k c.args.calls.now r c.args.next.now.items c.add_after.new.next.items _
    (Extends c.args.k c.args.calls.now r → ⊥)
    (idle_goes c.args.k c.args.calls.now r c.in-Some.n c.in-Some.ensures.0 c.in-Some.ensures.1))
    c.add_after.ensures

pub returns-then-not-can_finish : goal.returns-then-not-can_finish
returns-then-not-can_finish c =
    let r = reach c.args.done.now c.args.items.now in
    let w = c.if-not-can_finish.ensures refl in
    added_none c.args.k c.args.calls.now r c.args.next.now.items (Extends c.args.k c.args.calls.now r → ⊥)
    (cannot_finish c.args.k c.args.calls.now r w.0 w.1 w.2 w.3)
