use Rattle.std.proofs.Common.{◌≡◌, ◌++◌, IsOk, flat_map, map}
use Rattle.std.specs.List.{AllByRecursion}
use Rattle.kfifo_dispatch.specs.Jobs.{JobView}
use Rattle.kfifo_dispatch.specs.Working.{places_of}
use Rattle.kfifo_dispatch.proofs.dispatching.collect_finished.Given as goal

abbrev pub invariant-loop-done : goal.invariant-loop-done
invariant-loop-done g l = record {
  can_next : (goal.iterator-loop-done g).can_next l.done-iterator;
  is_finite : (goal.iterator-loop-done g).is_finite l.done-iterator;
  came : map (λ (d : JobView). d.place) l.returned.items
      ≡ map (λ (d : JobView). d.place) l.initial.returned.items ++ map (λ (d : JobView). d.place) l.yielded;
}

abbrev pub invariant-loop-back : goal.invariant-loop-back
invariant-loop-back g l = record {
  can_next : (goal.iterator-loop-back g).can_next l.back-iterator;
  is_finite : (goal.iterator-loop-back g).is_finite l.back-iterator;
  all : AllByRecursion (λ b. IsOk b.kept) l.yielded;
  passes : l.passes.items ≡ map (λ b. b.pass) l.yielded;
  came : map (λ (d : JobView). d.place) l.returned.items
      ≡ map (λ (d : JobView). d.place) l.fn.returned.items ++ flat_map (λ b. places_of b.kept) l.yielded;
}
