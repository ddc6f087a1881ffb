use Rattle.std.proofs.Common.{◌≡◌, ◌<◌, ◌⊎◌, arith}
use Rattle.std.proofs.Common.{⊎_elim}
use Rattle.kfifo_import.specs.Wrong.{column}
use Rattle.kfifo_import.proofs.wrong.wrong_in.Goals as goal

pub loop-place-preserved : goal.loop-place-preserved
loop-place-preserved c = λ field below.
    let place = column c.args.columns.now field in
    let cases : (place < c.loop-place.place) ⊎ (place ≡ c.loop-place.place) = grind arith in
    ⊎_elim (λ before. c.loop-place.invariant field before) (λ here. c.in_default.ensures field here) cases

pub returns-in-Some : goal.returns-in-Some
returns-in-Some c =
    let found = c.in-Some.ensures in
    (found.1, λ other below. c.loop-place.invariant other (omega (arith, found.0)))
