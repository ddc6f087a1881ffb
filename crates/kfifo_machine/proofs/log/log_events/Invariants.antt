use Rattle.std.proofs.Common.{◌≡◌, Some, take}
use Rattle.kfifo_machine.specs.Machine.{after}
use Rattle.kfifo_machine.specs.Calls.{log_of}
use Rattle.kfifo_machine.proofs.log.log_events.Given as goal

abbrev pub invariant-loop-place : goal.invariant-loop-place
invariant-loop-place l = record {
  shape : l.state.shape ≡ l.fn.shape;
  reached : after l.fn.shape l.fn.threads (take l.place l.events) ≡ Some l.state.world;
  logs : l.log ≡ log_of l.fn.shape l.fn.threads (take l.place l.events);
}
