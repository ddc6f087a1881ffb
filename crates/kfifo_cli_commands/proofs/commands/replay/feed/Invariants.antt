use Rattle.std.proofs.Common.{◌≡◌, ℕ, List, ◌++◌, take}
use Rattle.kfifo_cli_commands.proofs.Types.{Begin, Shape}
use Rattle.kfifo_replay.specs.Player.{StandsFor}
use Rattle.kfifo_cli_texts.specs.Picks.{count_of, picks_of}
use Rattle.kfifo_cli_commands.proofs.commands.replay.feed.Given as goal

abbrev pub invariant-loop-group : goal.invariant-loop-group
invariant-loop-group g l = record {
  most : l.replay.trace.most ≡ l.fn.replay.trace.most;
  count : l.made ≡ count_of (take l.group-index l.groups);
  stands : (shape : Shape) (scripts : List (List Begin)) (earlier : List ℕ)
      → StandsFor shape scripts earlier l.fn.replay
      → StandsFor shape scripts (earlier ++ picks_of (take l.group-index l.groups)) l.replay;
}
