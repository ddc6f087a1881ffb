-- The thread made so many picks, and there is an end of them, since each is an event more.
use Rattle.std.proofs.Common.{◌≡◌, ℕ, ◌^◌, ◌-◌, List, ◌++◌, replicate}
use Rattle.kfifo_replay.proofs.Types.{Begin, Shape}
use Rattle.kfifo_replay.specs.Player.{StandsFor}
use Rattle.kfifo_replay.proofs.player.Replay.go_to_end.Given as goal

abbrev pub invariant-loop : goal.invariant-loop
invariant-loop l = record {
  most : l.self.trace.most ≡ l.initial.self.trace.most;
  count : ℕ;
  stands : (shape : Shape) (scripts : List (List Begin)) (earlier : List ℕ)
      → StandsFor shape scripts earlier l.initial.self
      → StandsFor shape scripts (earlier ++ replicate count l.thread) l.self;
}

abbrev pub decreases-loop : goal.decreases-loop
decreases-loop l = 2 ^ 64 - l.self.follower.notes.step
