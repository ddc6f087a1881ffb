use Rattle.std.proofs.Common.{refl, arith, ◌+◌}
use Rattle.std.proofs.lemmas.Bool.{false≢true}
use Rattle.kfifo_model.proofs.Adding.{at_start, at_next, at_end, found_at, level_along}
use Rattle.kfifo_model.proofs.search.search.Goals as goal

pub levels-init : goal.levels-init
levels-init c = at_start c.args.k c.args.calls.now c.push.new.self.items c.new-level.result.items c.in_ok-start.field-0
    c.in_ok-start.ensures c.new-level.ensures.items c.in_ok-push.ensures.items

pub returns-in_default : goal.returns-in_default
returns-in_default c =
    let any = rw c.in_default.is at c.in_ok-next.ensures in (
      λ t. found_at c.args.k c.args.calls.now c.levels.counter c.levels.level.items c.deref.result.now
          c.deref.ensures.value c.levels.invariant any,
      λ o. refl,
    )

pub levels-preserved : goal.levels-preserved
levels-preserved c =
    let n = rw c.in-Some.is at c.in_ok-next.ensures in
    at_next c.args.k c.args.calls.now c.levels.counter c.levels.level.items c.in-Some.next.items
    c.in_ok-level.level.items
    c.levels.invariant
    (level_along c.args.k c.args.calls.now c.levels.level.items c.deref.result.now c.in-Some.next.items
    c.deref.ensures.value n)
    c.in_ok-level.ensures

pub returns-in-None : goal.returns-in-None
returns-in-None c =
    let any = rw c.in-None.is at c.in_ok-next_level.ensures in (
      λ t. found_at c.args.k c.args.calls.now c.levels.counter c.levels.level.items c.deref-2.result.now
          c.deref-2.ensures.value c.levels.invariant any,
      λ o. refl,
    )

pub returns : goal.returns
returns c =
    let n = rw c.in-Some-2.is at c.in_ok-next_level.ensures in
    let next = c.in-Some-2.field-0.items in
    let more = at_next c.args.k c.args.calls.now c.levels.counter c.levels.level.items next next c.levels.invariant
    (level_along c.args.k c.args.calls.now c.levels.level.items c.deref-2.result.now next c.deref-2.ensures.value n)
    (λ r. (λ x. x, λ x. x)) in (
      λ f. absurd (false≢true f),
      λ o. absurd (at_end c.args.k c.args.calls.now (c.levels.counter + 1) next more
          (omega arith) o),
    )
