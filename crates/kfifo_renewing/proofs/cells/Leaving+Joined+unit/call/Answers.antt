-- The pass is the same after the call.
use Rattle.std.proofs.Common.{◌∙◌}
use Rattle.kfifo_renewing.proofs.cells.Leaving+Joined+unit.call.Goals as goal

pub invariant_of-self-inside : goal.invariant_of-self-inside
invariant_of-self-inside c =
    let i = c.self-inside.invariant in
    let same = c.call_cell.ensures.same in (same.0 ∙ i.0, same.1 ∙ i.1)
