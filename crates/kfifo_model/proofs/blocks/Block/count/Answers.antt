use Rattle.std.proofs.Common.{rules, ◌∙◌, ℕ, map, length, ltb, Option, count_by, Some, None, sym, ap, subst}
use Rattle.std.specs.List.Sorted.{IsPartitionedBy}
use Rattle.std.proofs.lemmas.List.{length-map}
use Rattle.std.proofs.lemmas.List.Sorted.{IsPartitionPoint-from_clause, IsPartitionedBy-ltb}
use Rattle.kfifo_model.proofs.Types.{Rival}
use Rattle.kfifo_model.specs.Rivals.{is_beaten}
use Rattle.kfifo_model.proofs.Counting.{none_beats, later_beats, count_all, count_below, count-permuted}
use Rattle.kfifo_model.proofs.blocks.Block.count.Goals as goal

pub returns-then-self-last : goal.returns-then-self-last
returns-then-self-last c =
    let b = c.self.invariant in
    sym (ap (count_by (λ r. is_beaten c.args.last c.args.got r)) (sym c.self.view_is)
    ∙ none_beats c.self.inside.rivals.items _ _ c.args.last c.args.got b.span c.if-self-last.true)

pub returns-in-Some : goal.returns-in-Some
returns-in-Some c =
    let b = c.self.invariant in
    let first = c.in-Some.first in
    let last = c.args.last in
    let ends = c.self.inside.ends.items in
    let rivals = c.self.inside.rivals.items in
    let same = c.deref-in-Some.ensures.value in
    let point = IsPartitionPoint-from_clause (λ n. ltb n first) c.deref-in-Some.result.now c.partition_point.result
    c.partition_point.ensures.partitioned
    (subst (IsPartitionedBy (λ n. ltb n first)) (sym same) (IsPartitionedBy-ltb (λ (n : ℕ). n) ends first b.sorted))
    (λ a r q k. search rules) in
    sym
    (ap (count_by (λ r. is_beaten last c.args.got r)) (sym c.self.view_is)
    ∙ ap (λ got. count_by (λ r. is_beaten last got r) rivals) c.in-Some.is
    ∙ later_beats rivals _ _ last (Some first) b.span c.if-self-last-2.false
    ∙ sym (count-permuted (λ n. ltb n first) _ ends b.ends_are)
    ∙ ap (count_by (λ n. ltb n first)) (sym same)
    ∙ count_below c.deref-in-Some.result.now c.partition_point.result first c.partition_point.ensures.bound point)

pub returns-in-None : goal.returns-in-None
returns-in-None c =
    let b = c.self.invariant in
    let last = c.args.last in
    let rivals = c.self.inside.rivals.items in
    let none : Option ℕ = None in
    let ends = map (λ (r : Rival). r.got_last) rivals in
    ap length c.as_slice.ensures.value
    ∙ sym
    (ap (count_by (λ r. is_beaten last c.args.got r)) (sym c.self.view_is)
    ∙ ap (λ got. count_by (λ r. is_beaten last got r) rivals) c.in-None.is
    ∙ later_beats rivals _ _ last none b.span c.if-self-last-2.false
    ∙ count_all ends
    ∙ length-map rivals (λ (r : Rival). r.got_last))
