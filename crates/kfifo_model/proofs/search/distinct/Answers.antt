use Rattle.std.proofs.Common.{List, subst, refl, arith}
use Rattle.std.specs.List.{Contains}
use Rattle.kfifo_model.specs.Reach.{Reach}
use Rattle.kfifo_model.proofs.Adding.{members_init, members_pushed, members_same, members_end}
use Rattle.kfifo_model.proofs.search.distinct.Goals as goal

pub loop-reached-init : goal.loop-reached-init
loop-reached-init c = members_init c.args.level.items c.sort_unstable_by.new.self.items c.new-kept.result.items
    c.sort_unstable_by.ensures.permutation c.new-kept.ensures.items

pub loop-reached-preserved-in-Continue-1 : goal.loop-reached-preserved-in-Continue-1
loop-reached-preserved-in-Continue-1 c =
    members_pushed c.args.level.items c.loop-reached.level.items c.pop.new.self.items c.loop-reached.kept.items
    c.push.new.self.items
    c.in-Some.reached c.loop-reached.invariant c.in-Some.ensures.items c.in_ok-push.ensures.items

pub loop-reached-preserved : goal.loop-reached-preserved
loop-reached-preserved c =
    let P : List Reach → Type 0 = λ t. Contains t c.in-Some.reached in
    members_same c.args.level.items c.loop-reached.level.items c.pop.new.self.items c.loop-reached.kept.items
    c.in-Some.reached
    c.loop-reached.invariant c.in-Some.ensures.items
    (subst P c.deref.ensures.value (c.if-not-ends_with.ensures refl))

pub returns : goal.returns
returns c = members_end c.args.level.items c.loop-reached.level.items c.loop-reached.kept.items c.loop-reached.invariant
    (let e = c.in_default.ensures.cases.0 in omega arith)
