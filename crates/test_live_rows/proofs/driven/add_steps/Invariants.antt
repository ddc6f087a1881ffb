use Rattle.std.proofs.Common.{All}
use Rattle.kfifo_live.specs.Pass.{IsPassOf}
use Rattle.test_live_rows.proofs.driven.add_steps.Given as goal

abbrev pub invariant-loop-step : goal.invariant-loop-step
invariant-loop-step g l = All (λ p. IsPassOf (g.P.Driven.opened l.queue) (g.P.Driven.known p)) l.passes.items
