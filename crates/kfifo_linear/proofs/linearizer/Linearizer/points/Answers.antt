-- The sorted points, and the calls behind them.
use Rattle.std.proofs.Common.{ℕ, map, ap, ◌∙◌}
use Rattle.std.proofs.lemmas.Result.{IfOk-weaker}
use Rattle.kfifo_linear.specs.Order.{ledger_after_all, point}
use Rattle.kfifo_linear.proofs.linearizer.Linearizer.points.Goals as goal

pub returns : goal.returns
returns c =
    IfOk-weaker c.points_of.result _ _
    (λ points is threads room events h few. is ∙ ap (map (λ (p : ℕ × ℕ). p.0)) c.as_slice.ensures.value
    ∙ c.in_ok-placed.ensures.points threads room events h
    ∙ ap (map (point (ledger_after_all c.args.self.now.shape threads events)))
    (c.in_ok-placed.ensures.calls threads room events h few))
    c.points_of.ensures
