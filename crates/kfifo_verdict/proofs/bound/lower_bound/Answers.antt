use Rattle.std.proofs.Common.{ℕ, List, subst, arith}
use Rattle.kfifo_verdict.proofs.Types.{Presence}
use Rattle.kfifo_verdict.specs.Bound.{IsMostAtOnce}
use Rattle.kfifo_verdict.proofs.Bounding.{lower_bound_found, most_few}
use Rattle.kfifo_verdict.proofs.bound.lower_bound.Goals as goal

pub returns : goal.returns
returns c =
    let ps = c.in_ok-items.items.presences.items in
    let soonest = c.in_ok-soonest.soonest.items in
    let most = c.most_at_once.result in
    let P : List Presence → Type 0 = λ w. IsMostAtOnce soonest w most in
    let S : List ℕ → Type 0 = λ w. IsMostAtOnce w c.deref-3.result.now most in
    lower_bound_found c.args.calls.now ps soonest most c.requires c.in_ok-items.ensures.presences
    c.in_ok-soonest.ensures
    (subst P c.deref-3.ensures.value (subst S c.deref-4.ensures.value c.most_at_once.ensures))

pub overflow_add-result : goal.overflow_add-result
overflow_add-result c =
    let few = most_few c.deref-4.result.now c.deref-3.result.now c.most_at_once.result c.most_at_once.ensures in
    let len = c.deref-3.ensures.len in
    omega (arith, few, len)
