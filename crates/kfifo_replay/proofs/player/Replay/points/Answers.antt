-- The linearizer's points are those of the events that the picks make.
use Rattle.std.proofs.Common.{length, map, sym, ◌∙◌, ap, subst}
use Rattle.kfifo_replay.proofs.Types.{Shape}
use Rattle.kfifo_linear.specs.Order.{ledger_after_all, order_of, point}
use Rattle.kfifo_replay.specs.Player.{StandsFor}
use Rattle.kfifo_replay.specs.Scripts.{calls_in}
use Rattle.kfifo_replay.specs.contracts.player.Replay.{the_view}
use Rattle.kfifo_replay.proofs.player.Replay.points.Goals as goal

pub returns-clause-points : goal.returns-clause-points
returns-clause-points c shape scripts picks stands =
    let s : StandsFor shape scripts picks (the_view c.self.inside) =
    subst (StandsFor shape scripts picks) (sym c.self.view_is) stands in
    record {
      events = s.events;
      made = s.made;
      are = c.in_ok-points.ensures (length scripts) (calls_in scripts) s.events s.follows s.are_scripts.few
          ∙ ap (λ (x : Shape). map (point (ledger_after_all x (length scripts) s.events))
          (order_of x (length scripts) s.events))
          s.follower_shape;
    }
