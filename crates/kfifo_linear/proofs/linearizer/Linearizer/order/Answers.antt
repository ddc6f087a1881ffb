-- The calls behind the sorted points.
use Rattle.std.proofs.Common.{ap, ◌∙◌}
use Rattle.std.proofs.lemmas.Result.{IfOk-weaker}
use Rattle.kfifo_linear.proofs.Sorting.{numbers}
use Rattle.kfifo_linear.proofs.linearizer.Linearizer.order.Goals as goal

pub returns : goal.returns
returns c = IfOk-weaker c.calls_of.result _ _
    (λ order is threads room events h few. is ∙ ap numbers c.as_slice.ensures.value
    ∙ c.in_ok-placed.ensures.calls threads room events h few) c.calls_of.ensures
