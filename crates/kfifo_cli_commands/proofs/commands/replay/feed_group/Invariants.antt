use Rattle.std.proofs.Common.{◌≡◌, ℕ, List, ◌++◌, ◌≤◌, ◌-◌, replicate}
use Rattle.kfifo_cli_commands.proofs.Types.{Begin, Shape}
use Rattle.kfifo_replay.specs.Player.{StandsFor}
use Rattle.kfifo_cli_commands.proofs.commands.replay.feed_group.Given as goal

abbrev pub invariant-loop-fed : goal.invariant-loop-fed
invariant-loop-fed g l = record {
  most : l.replay.trace.most ≡ l.fn.replay.trace.most;
  within : l.fed ≤ l.group.count;
  stands : (shape : Shape) (scripts : List (List Begin)) (earlier : List ℕ)
      → StandsFor shape scripts earlier l.fn.replay
      → StandsFor shape scripts (earlier ++ replicate l.fed l.group.thread) l.replay;
}

abbrev pub decreases-loop-fed : goal.decreases-loop-fed
decreases-loop-fed g l = l.group.count - l.fed
