use Rattle.std.proofs.Common.{All, vec_len}
use Rattle.kfifo_live.specs.Pass.{IsPassOf}
use Rattle.test_live_rows.proofs.driven.pick.Given as goal

abbrev pub invariant-loop-pass : goal.invariant-loop-pass
invariant-loop-pass g l = All (λ p. IsPassOf (g.P.Driven.opened l.queue) (g.P.Driven.known p)) l.passes.items
    × All (λ p. IsPassOf (g.P.Driven.opened l.queue) (g.P.Driven.known p)) l.picked.items

abbrev pub decreases-loop-pass : goal.decreases-loop-pass
decreases-loop-pass g l = vec_len l.passes
