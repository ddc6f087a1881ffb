use Rattle.std.proofs.Common.{ltb, rules, arith}
use Rattle.std.proofs.lemmas.List.Sorted.{IsPartitionPoint-from_clause, IsPartitionedBy-ltb}
use Rattle.kfifo_verdict.proofs.Lining.{stays_rise, due_found}
use Rattle.kfifo_verdict.proofs.turns.due_of.Goals as goal

pub returns : goal.returns
returns c =
    let stays = c.args.stays.now in
    let late = c.args.late in
    due_found c.args.presences.now stays c.args.p late c.partition_point-next.result c.min-2.result c.requires.longest
    c.requires.late
    c.requires.bound c.partition_point-next.ensures.bound
    (IsPartitionPoint-from_clause (λ s. ltb s.gone late) stays c.partition_point-next.result
    c.partition_point-next.ensures.partitioned
    (IsPartitionedBy-ltb (λ s. s.gone) stays late (stays_rise c.args.presences.now stays c.requires.longest))
    (λ a r q k. search rules))
    (let a = c.min.ensures in let b = c.min-2.ensures in omega (arith, a, b))
