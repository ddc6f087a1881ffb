use Rattle.std.proofs.Common.{◌≡◌, ◌++◌, All, List}
use mathlib.Core.List.{IsPrefix}
use Rattle.kfifo_live.specs.declared.view.Opening.{Opening}
use Rattle.kfifo_renewing.specs.Joining.{HaveParts, IsPart}
use Rattle.kfifo_renewing.specs.Renewing.{Generations, HaveSeen, IsOpenedAs}
use Rattle.kfifo_renewing.proofs.closing.take_apart.Given as goal

-- the parts so far are those of the handles so far
abbrev pub invariant-loop-handle : goal.invariant-loop-handle
invariant-loop-handle g l = record {
  book : l.history.book ≡ l.fn.history.book;
  rest : All (λ g. g.book ≡ l.fn.history.book) l.handle-iterator.rest.items;
  later : IsPrefix l.fn.history.log l.history.log;
  parts : All (IsPart l.history.log) l.theirs.items;
  so_far : (done : List (Generations g.row.T.Denot)) × (l.fn.handles.items ≡ done ++ l.handle-iterator.rest.items)
      × HaveParts l.history.log done l.theirs.items × HaveSeen done l.history.log
      × ((o : Opening) → All (λ g. g.opened ≡ o) done → All (λ p. IsOpenedAs o p.handle) l.theirs.items);
}
