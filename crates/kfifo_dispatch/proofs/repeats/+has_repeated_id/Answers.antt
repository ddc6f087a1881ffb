-- The first task's number comes again, or a later one's, or none does.
use Rattle.std.proofs.Common.{◌∙◌, sym}
use Rattle.kfifo_dispatch.proofs.Again.{none_of, of_first, of_later, of_none}
use Rattle.kfifo_dispatch.proofs.repeats.+has_repeated_id.Goals as goal

pub returns-then-comes_again-clause-repeated : goal.returns-then-comes_again-clause-repeated
returns-then-comes_again-clause-repeated t c found =
    of_first c.args.tasks.now c.in-Some.rest.now c.in-Some.first.now c.in-Some.ensures.cases.0
    (sym c.comes_again.ensures ∙ found)

pub returns-else-comes_again-clause-repeated : goal.returns-else-comes_again-clause-repeated
returns-else-comes_again-clause-repeated t c found =
    of_later c.args.tasks.now c.in-Some.rest.now c.in-Some.first.now c.in-Some.ensures.cases.0
    (c.has_repeated_id.ensures.repeated found)

pub returns-else-comes_again-clause-apart : goal.returns-else-comes_again-clause-apart
returns-else-comes_again-clause-apart t c none =
    of_none c.args.tasks.now c.in-Some.rest.now c.in-Some.first.now c.in-Some.ensures.cases.0
    (sym c.comes_again.ensures ∙ c.if-comes_again.false)
    (c.has_repeated_id.ensures.apart none)

pub returns-in-None-clause-apart : goal.returns-in-None-clause-apart
returns-in-None-clause-apart t c none repeated = none_of c.args.tasks.now c.in-None.ensures.cases repeated
