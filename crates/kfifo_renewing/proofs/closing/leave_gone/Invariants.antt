use Rattle.std.proofs.Common.{◌≡◌, ◌++◌, All, List}
use Rattle.std.specs.List.{Contains}
use mathlib.Core.List.{IsPrefix}
use Rattle.kfifo_renewing.specs.Joining.{IsPart, PartView, held_by}
use Rattle.kfifo_renewing.specs.Renewing.{EndsGone}
use Rattle.kfifo_renewing.proofs.closing.leave_gone.Given as goal

-- of the parts so far these are kept
abbrev pub invariant-loop-part : goal.invariant-loop-part
invariant-loop-part g l = record {
  book : l.history.book ≡ l.fn.history.book;
  rest : All (IsPart l.fn.history.log) l.part-iterator.rest.items
      × All (λ p. p.book ≡ l.fn.history.book) l.part-iterator.rest.items;
  later : IsPrefix l.fn.history.log l.history.log;
  so_far : (done : List (PartView g.row.T.Denot)) × (l.fn.parts.items ≡ done ++ l.part-iterator.rest.items)
      × EndsGone l.history.log (held_by done) (held_by l.kept.items)
      × ((p : PartView g.row.T.Denot) → Contains l.kept.items p → Contains done p);
}
