use Rattle.std.proofs.Common.{false, ◌≡◌, ◌++◌, List}
use Rattle.kfifo_renewing.specs.Joining.{HaveParts, PartView, held_by}
use Rattle.kfifo_renewing.specs.Renewing.{ClosesEach, Generations, opening_with}
use Rattle.kfifo_renewing.specs.declared.change.Change.{Change}
use Rattle.kfifo_renewing.proofs.Endings.{AreLeft}
use Rattle.kfifo_renewing.proofs.closing.close_each.Given as goal

-- the payloads so far are those that were left in the generations so far
abbrev pub invariant-loop-joined : goal.invariant-loop-joined
invariant-loop-joined g l = record {
  same : l.sizes ≡ l.fn.gathered.sizes;
  done : List (PartView g.row.T.Denot);
  rest : AreLeft (opening_with false l.fn.gathered.sizes) l.fn.gathered.theirs.parts.items l.theirs.least done
      l.joined-iterator.rest.items l.theirs.parts.items;
  left : (l.fn.gathered.all.items ≡ done ++ l.joined-iterator.rest.items)
      × ((log : List Change) (handles : List (Generations g.row.T.Denot)) → HaveParts log handles
      l.fn.gathered.theirs.parts.items
      → ClosesEach log handles (held_by done) l.left.items);
}
