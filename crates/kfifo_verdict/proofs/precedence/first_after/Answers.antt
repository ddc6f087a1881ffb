use Rattle.std.proofs.Common.{leb, subst, sym, Option, rules}
use Rattle.std.proofs.lemmas.List.Sorted.{IsPartitionPoint-from_clause, IsPartitionedBy-leb}
use Rattle.kfifo_verdict.proofs.Types.{End}
use Rattle.kfifo_verdict.specs.Finding.{IsStart}
use Rattle.kfifo_verdict.proofs.Moments.{by_first, start_found, up_to_point}
use Rattle.kfifo_verdict.proofs.precedence.first_after.Goals as goal

pub returns-in-None : goal.returns-in-None
returns-in-None c =
    let h = c.args.calls.now in
    let end = c.in-Some.end in
    let P : Option End → Type 0 = λ w. IsStart h w c.partition_point.result in
    subst P (sym c.in-Some.is)
    (start_found h end c.partition_point.result c.partition_point.ensures.bound
    (up_to_point h end.last c.partition_point.result
    (IsPartitionPoint-from_clause (λ y. leb y.first end.last) h c.partition_point.result
    c.partition_point.ensures.partitioned
    (IsPartitionedBy-leb (λ y. y.first) h end.last (by_first h c.requires)) (λ a r q k. search rules))))
