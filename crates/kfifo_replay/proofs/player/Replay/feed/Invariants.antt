-- The picks up to the next place were made.
use Rattle.std.proofs.Common.{◌≡◌, ℕ, List, ◌++◌, take}
use Rattle.kfifo_replay.proofs.Types.{Begin, Shape}
use Rattle.kfifo_replay.specs.Player.{StandsFor}
use Rattle.kfifo_replay.proofs.player.Replay.feed.Given as goal

abbrev pub invariant-loop-place : goal.invariant-loop-place
invariant-loop-place l = record {
  most : l.self.trace.most ≡ l.initial.self.trace.most;
  stands : (shape : Shape) (scripts : List (List Begin)) (earlier : List ℕ)
      → StandsFor shape scripts earlier l.initial.self
      → StandsFor shape scripts (earlier ++ take l.place l.picks) l.self;
}
