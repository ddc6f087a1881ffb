use Rattle.std.proofs.Common.{sym, rules}
use Rattle.std.proofs.lemmas.List.Sorted.{IsPartitionPoint-from_clause}
use Rattle.kfifo_verdict.specs.Soon.{is_until}
use Rattle.kfifo_verdict.proofs.Counting.{count_at}
use Rattle.kfifo_verdict.proofs.Stepping.{until_parts}
use Rattle.kfifo_verdict.proofs.soon.count_until.Goals as goal

pub returns : goal.returns
returns c =
    let steps = c.args.steps.now in
    let x = c.args.item in
    let t = c.args.step in
    let at = c.partition_point.result in
    sym (count_at (is_until x t) steps at c.partition_point.ensures.bound
    (IsPartitionPoint-from_clause (is_until x t) steps at c.partition_point.ensures.partitioned
    (until_parts x t steps c.requires)
    (λ a r q k. search rules)))
