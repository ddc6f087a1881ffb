use Rattle.std.proofs.Common.{◌≡◌, ◌++◌, ◌==◌, List, filter, map, not}
use Rattle.kfifo_renewing.specs.Joining.{PartView}
use Rattle.kfifo_renewing.proofs.closing.take_numbered.Given as goal

-- the parts so far are sorted by whether they are in the generation
abbrev pub invariant-loop-part : goal.invariant-loop-part
invariant-loop-part g l = record {
  number : l.number ≡ l.fn.number;
  so_far : (done : List (PartView g.row.T.Denot)) × (l.fn.parts.items ≡ done ++ l.part-iterator.rest.items)
      × (l.here.items ≡ map (λ p. p.handle) (filter (λ p. p.number == l.fn.number) done))
      × (l.rest.items ≡ filter (λ p. not (p.number == l.fn.number)) done);
}
