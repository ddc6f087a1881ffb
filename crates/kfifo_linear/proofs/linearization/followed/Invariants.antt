use Rattle.std.proofs.Common.{◌≡◌, take}
use Rattle.kfifo_linear.specs.Notes.{calls_begun}
use Rattle.kfifo_linear.specs.Following.{Follows}
use Rattle.kfifo_linear.proofs.linearization.followed.Given as goal

abbrev pub invariant-loop-event : goal.invariant-loop-event
invariant-loop-event l = record {
  shape : l.linearizer.shape ≡ l.fn.shape;
  follows : Follows l.fn.threads (calls_begun l.events) (take l.event-index l.events) l.linearizer;
}
