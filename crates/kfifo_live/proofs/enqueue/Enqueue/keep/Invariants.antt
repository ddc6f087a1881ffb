use Rattle.std.proofs.Common.{◌≤◌}
use Rattle.kfifo_machine.specs.declared.place.Running.TheVariants as R
use Rattle.kfifo_machine.specs.declared.place.EnqueuePhase.TheVariants as P
use Rattle.kfifo_live.specs.Step.{Onward}
use Rattle.kfifo_live.proofs.enqueue.Enqueue.keep.Given as goal

-- the enqueue is about to look at its slot again, in this round
abbrev pub invariant-holds : goal.invariant-holds
invariant-holds g l = record {
  on : Onward l.self.ring l.fn.seat
      (R.Enqueue l.self.item l.self.start l.left (P.ReloadSlot l.fn.ends l.fn.index l.fn.filled)) l.seat;
  few : l.left ≤ l.self.left;
}

abbrev pub decreases-holds : goal.decreases-holds
decreases-holds g l = l.left
