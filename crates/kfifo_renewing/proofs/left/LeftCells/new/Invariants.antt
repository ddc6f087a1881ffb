use Rattle.std.proofs.Common.{◌≡◌, ◌++◌, ℕ, List, map}
use Rattle.kfifo_renewing.specs.Memory.{cells_in}
use Rattle.kfifo_renewing.specs.declared.memory.CellAt.{CellAt}
use Rattle.kfifo_renewing.proofs.left.LeftCells.new.Given as goal

-- the cells so far are those of the tokens so far
abbrev pub invariant-loop-token : goal.invariant-loop-token
invariant-loop-token l = record {
  so_far : (done : List ℕ) × (l.fn.tokens.items ≡ done ++ l.token-iterator.rest.items)
      × (map (λ (at : CellAt). at.index) l.cells.items ≡ cells_in done);
}
