-- The first of these generations is the one, or it is among the others.
use Rattle.std.proofs.Common.{sym, ◌∙◌}
use Rattle.kfifo_renewing.proofs.Joining.{number-behind, number-here}
use Rattle.kfifo_renewing.proofs.places.+has_number.Goals as goal

pub returns-then-number : goal.returns-then-number
returns-then-number g t c = number-here c.args.joined.now c.in-Some.rest.now c.in-Some.first.now c.args.number
    c.in-Some.ensures.cases.0 (sym c.number.ensures ∙ c.if-number.true)

pub returns : goal.returns
returns g t c = number-behind c.args.joined.now c.in-Some.rest.now c.in-Some.first.now c.args.number c.has_number.result
    c.in-Some.ensures.cases.0 (λ same. absurd (c.if-number.false (c.number.ensures ∙ same))) c.has_number.ensures
