use Rattle.std.proofs.lemmas.Result.{IfOk-weaker}
use Rattle.kfifo_import.proofs.Ending.{ends_moved}
use Rattle.kfifo_import.proofs.ends.sorted_ends.Goals as goal

pub returns : goal.returns
returns c = IfOk-weaker c.by_time.result _ _ (λ sorted is. record {
  are = ends_moved c.args.calls.now c.in_ok-ends.ends.items sorted.items is.reordered.permutation c.in_ok-ends.ensures;
  rise = is.rise;
}) c.by_time.ensures
