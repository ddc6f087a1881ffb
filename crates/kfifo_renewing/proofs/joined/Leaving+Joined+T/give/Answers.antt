-- The pass is the same after the call.
use Rattle.std.proofs.Common.{◌∙◌}
use Rattle.kfifo_renewing.proofs.joined.Leaving+Joined+T.give.Goals as goal

pub invariant_of-self-inside : goal.invariant_of-self-inside
invariant_of-self-inside g c =
    let i = c.self-inside.invariant in
    let same = c.give.ensures.same in (same.0 ∙ i.0, same.1 ∙ i.1)
