use Rattle.std.proofs.Common.{length, sym, ◌∙◌}
use Rattle.std.specs.BTreeMap.{get}
use Rattle.std.specs.Ordering.{nat_cmp}
use Rattle.kfifo_model.proofs.Indexing.{none_measured, two_puts, two_gots, all_distinct}
use Rattle.kfifo_model.proofs.overtakings.measure_among.Goals as goal

pub returns-then-not-has_done : goal.returns-then-not-has_done
returns-then-not-has_done c =
    let none = c.if-not-has_done.ensures in (
      c.new.ensures.items ∙ sym (none_measured c.args.calls.now (length c.args.calls.now) none),
      λ n d.
          absurd (none n d),
    )

pub returns-in_default : goal.returns-in_default
returns-in_default c =
    let two = rw c.in_default.is at c.in_ok-puts.ensures in
    (c.if-not-has_done.ensures, two_puts c.args.calls.now two)

pub returns-in_default-2 : goal.returns-in_default-2
returns-in_default-2 c =
    let two = rw c.in_default-2.is at c.in_ok-gots.ensures in
    (c.if-not-has_done.ensures, two_gots c.args.calls.now two)

pub returns : goal.returns
returns c =
    let puts = rw c.in-Some.is at c.in_ok-puts.ensures in
    let gots = rw c.in-Some-2.is at c.in_ok-gots.ensures in (
      c.in_ok-measure_calls.ensures,
      λ n d. all_distinct c.args.calls.now (λ x. get nat_cmp c.in-Some.puts x)
          (λ x. get nat_cmp c.in-Some-2.gots x) puts gots,
    )
