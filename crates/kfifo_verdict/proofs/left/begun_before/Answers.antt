use Rattle.std.proofs.Common.{ltb, rules}
use Rattle.std.proofs.lemmas.List.Sorted.{IsPartitionPoint-from_clause, IsPartitionedBy-ltb}
use Rattle.kfifo_verdict.proofs.Moments.{by_first}
use Rattle.kfifo_verdict.proofs.EmptyWhileLeft.{begun_below}
use Rattle.kfifo_verdict.proofs.left.begun_before.Goals as goal

pub returns : goal.returns
returns c =
    let h = c.args.calls.now in
    let step = c.args.step in
    let i = c.partition_point.result in
    begun_below h step i (IsPartitionPoint-from_clause (λ y. ltb y.first step) h i c.partition_point.ensures.partitioned
    (IsPartitionedBy-ltb (λ y. y.first) h step (by_first h c.requires)) (λ a r q k. search rules))
