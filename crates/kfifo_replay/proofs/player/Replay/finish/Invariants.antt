-- The threads below the next one went to the ends of their scripts.
use Rattle.std.proofs.Common.{◌≡◌, ℕ, List}
use Rattle.kfifo_replay.proofs.Types.{Begin, Shape}
use Rattle.kfifo_replay.specs.Player.{StandsFor}
use Rattle.kfifo_replay.specs.Finishing.{Finished}
use Rattle.kfifo_replay.proofs.player.Replay.finish.Given as goal

abbrev pub invariant-loop-thread : goal.invariant-loop-thread
invariant-loop-thread l = record {
  most : l.self.trace.most ≡ l.initial.self.trace.most;
  finished : (shape : Shape) (scripts : List (List Begin)) (earlier : List ℕ)
      → StandsFor shape scripts earlier l.initial.self
      → Finished l.stopped shape scripts l.thread earlier l.self;
}
