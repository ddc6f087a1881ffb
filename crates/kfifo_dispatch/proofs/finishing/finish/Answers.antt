-- The list has each task once, and the sort puts them in ascending order of id.
use Rattle.std.proofs.Common.{rules, arith, ap, subst, ◌≡◌, ◌∙◌, ◌<◌, List, length, map, take}
use Rattle.std.proofs.Math.Seq.{take-length}
use Rattle.std.proofs.lemmas.List.Sorted.{IsNonDecreasingBy-from_sort_by_key}
use Rattle.std.specs.List.Sorted.{IsPermutation}
use Rattle.kfifo_dispatch.specs.declared.task.Finished.{Finished}
use Rattle.kfifo_dispatch.specs.Tasks.{finished}
use Rattle.kfifo_dispatch.proofs.Totals.{came_back}
use Rattle.kfifo_dispatch.proofs.finishing.finish.Goals as goal

pub finish_one-requires-clause-sum : goal.finish_one-requires-clause-sum
finish_one-requires-clause-sum g c =
    let there : c.loop-place.place < length c.in_ok-sums.sums.items =
    omega (arith, c.in_ok-sums.ensures.count, c.loop-place-test.true) in
    rw c.requires.tasks (came_back c.args.tasks.now c.in_ok-sums.sums.items c.loop-place.place _ _ c.in_ok-sums.ensures
    there
    c.index.ensures)

pub returns : goal.returns
returns g c =
    let all : c.loop-place.place ≡ length c.args.tasks.now =
    omega (arith, c.loop-place.auto.place-end, c.loop-place-test.false) in
    let whole : c.loop-place.list.items ≡ map finished c.args.tasks.now =
    c.loop-place.invariant ∙ ap (λ n. map finished (take n c.args.tasks.now)) all
    ∙ ap (map finished) (take-length c.args.tasks.now) in
    record {
      each = subst (λ (l : List Finished). IsPermutation l c.sort_by_key.new.self.items) whole
          c.in_ok-sort_by_key.ensures.permutation;
      rise = IsNonDecreasingBy-from_sort_by_key (λ (f : Finished). f.id) c.sort_by_key.new.self.items
          c.in_ok-sort_by_key.ensures.sorted (λ a r q k. search rules);
    }
