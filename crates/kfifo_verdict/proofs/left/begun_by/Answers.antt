use Rattle.std.proofs.Common.{leb, rules}
use Rattle.std.proofs.lemmas.List.Sorted.{IsPartitionPoint-from_clause, IsPartitionedBy-leb}
use Rattle.kfifo_verdict.proofs.Moments.{by_first}
use Rattle.kfifo_verdict.proofs.EmptyWhileLeft.{begun_until}
use Rattle.kfifo_verdict.proofs.left.begun_by.Goals as goal

pub returns : goal.returns
returns c =
    let h = c.args.calls.now in
    let step = c.args.step in
    let i = c.partition_point.result in
    begun_until h step i (IsPartitionPoint-from_clause (λ y. leb y.first step) h i c.partition_point.ensures.partitioned
    (IsPartitionedBy-leb (λ y. y.first) h step (by_first h c.requires)) (λ a r q k. search rules))
