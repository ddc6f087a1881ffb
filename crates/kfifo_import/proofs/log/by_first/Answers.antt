use Rattle.std.proofs.Common.{subst}
use Rattle.std.proofs.lemmas.Result.{IfOk-weaker}
use Rattle.kfifo_import.specs.Lines.{beginnings}
use Rattle.kfifo_import.specs.Sorting.{IsByTime}
use Rattle.kfifo_import.proofs.Order.{by_first}
use Rattle.kfifo_import.proofs.log.by_first.Goals as goal

pub returns : goal.returns
returns c =
    let lines = c.args.lines.now in
    IfOk-weaker c.by_time.result _ _ (λ sorted is.
    let by : IsByTime (beginnings lines) sorted.items = subst (λ xs. IsByTime xs sorted.items) c.in_ok-begins.ensures
    is in
    by_first lines sorted.items by.reordered.permutation by.rise by.reordered.stable) c.by_time.ensures
