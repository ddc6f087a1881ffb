-- What was found is among these where that is said.
use Rattle.std.proofs.Common.{◌≡◌, MatchBool, subst}
use Rattle.kfifo_renewing.specs.Joining.{HasNumber}
use Rattle.kfifo_renewing.proofs.places.is_known.Goals as goal

pub returns : goal.returns
returns g c found n is above below =
    let same : c.in-Some.other ≡ n = cc (c.in-Some.is, is) in
    subst (HasNumber c.args.joined.now) same
    (subst (λ b. MatchBool b (HasNumber c.args.joined.now c.in-Some.other) (HasNumber c.args.joined.now c.in-Some.other
    → ⊥)) found
    c.has_number.ensures)
