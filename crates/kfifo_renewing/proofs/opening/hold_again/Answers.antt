-- The shape that holds again is that of the same sizes.
use Rattle.std.proofs.Common.{ap}
use Rattle.kfifo_words.specs.declared.shape.Shape.{Shape}
use Rattle.kfifo_renewing.proofs.Shapes.{holds}
use Rattle.kfifo_renewing.proofs.opening.hold_again.Goals as goal

pub returns : goal.returns
returns c =
    let sizes = c.args.sizes in
    let again = c.holding_again.result in
    let same = c.holding_again.ensures in
    ap (λ (s : Shape). record { shape = s; threads = sizes.threads; tokens = sizes.tokens })
    (holds sizes.shape again same.0 same.1 same.2 same.3 same.4)
