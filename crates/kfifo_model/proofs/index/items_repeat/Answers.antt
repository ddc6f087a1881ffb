use Rattle.std.proofs.Common.{List, subst}
use Rattle.std.specs.BTreeMap.{get}
use Rattle.std.specs.Ordering.{nat_cmp}
use Rattle.kfifo_model.proofs.Types.{Call}
use Rattle.kfifo_model.specs.Measures.{HasDistinctItems}
use Rattle.kfifo_model.proofs.Indexing.{all_distinct, two_gots, two_puts}
use Rattle.kfifo_model.proofs.index.items_repeat.Goals as goal

pub returns-in_default : goal.returns-in_default
returns-in_default c =
    let two = rw c.in_default.is at c.in_ok-_puts.ensures in
    let P : List Call → Type 0 = λ h. HasDistinctItems h → ⊥ in
    subst P c.calls-calls.ensures.calls (two_puts c.calls-calls.result.now two)

pub returns-in_default-2 : goal.returns-in_default-2
returns-in_default-2 c =
    let two = rw c.in_default-2.is at c.in_ok-_gets.ensures in
    let P : List Call → Type 0 = λ h. HasDistinctItems h → ⊥ in
    subst P c.calls-calls.ensures.calls (two_gots c.calls-calls.result.now two)

pub returns : goal.returns
returns c =
    let puts = rw c.in-Some.is at c.in_ok-_puts.ensures in
    let gots = rw c.in-Some-2.is at c.in_ok-_gets.ensures in
    let P : List Call → Type 0 = λ h. HasDistinctItems h in
    subst P c.calls-calls.ensures.calls
    (all_distinct c.calls-calls.result.now (λ x. get nat_cmp c.in-Some._puts x) (λ x. get nat_cmp c.in-Some-2._gets x)
    puts gots)
