use Rattle.std.proofs.Common.{◌≡◌, All, drop}
use Rattle.kfifo_renewing.specs.Joining.{HasNoCell}
use Rattle.kfifo_renewing.proofs.older.Older.trim.Given as goal

-- the parts are the same, and the handle has a cell in none of them from the index on
abbrev pub invariant-loop-self : goal.invariant-loop-self
invariant-loop-self g l = record {
  parts : l.self-inside.parts ≡ l.initial.self-inside.parts;
  none : All HasNoCell (drop l.self-inside.with_cells l.self-inside.parts.items);
}

abbrev pub decreases-loop-self : goal.decreases-loop-self
decreases-loop-self g l = l.self-inside.with_cells
