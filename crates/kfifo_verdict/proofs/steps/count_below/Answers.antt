use Rattle.std.proofs.Common.{sym, rules}
use Rattle.std.proofs.lemmas.List.Sorted.{IsPartitionPoint-from_clause, IsPartitionedBy-ltb}
use Rattle.kfifo_verdict.specs.Steps.{is_below}
use Rattle.kfifo_verdict.proofs.Counting.{count_at}
use Rattle.kfifo_verdict.proofs.Stepping.{items_rise}
use Rattle.kfifo_verdict.proofs.steps.count_below.Goals as goal

pub returns : goal.returns
returns c =
    let steps = c.args.steps.now in
    let x = c.args.item in
    let at = c.partition_point.result in
    sym (count_at (is_below x) steps at c.partition_point.ensures.bound
    (IsPartitionPoint-from_clause (is_below x) steps at c.partition_point.ensures.partitioned
    (IsPartitionedBy-ltb (λ e. e.0) steps x (items_rise steps c.requires)) (λ a r q k. search rules)))
