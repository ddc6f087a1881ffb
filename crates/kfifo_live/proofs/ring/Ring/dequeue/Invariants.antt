use Rattle.std.proofs.Common.{Some}
use Rattle.kfifo_machine.specs.declared.event.Begin.TheVariants as B
use Rattle.kfifo_machine.specs.declared.place.Next.TheVariants.{Goes}
use Rattle.kfifo_machine.specs.declared.place.Running.TheVariants as R
use Rattle.kfifo_machine.specs.declared.place.DequeuePhase.TheVariants as P
use Rattle.kfifo_live.specs.Step.{Runs}
use Rattle.kfifo_live.proofs.ring.Ring.dequeue.Given as goal

abbrev pub ghosts-begin : goal.ghosts-begin
ghosts-begin g a = record { begin = a.begin }

-- from its first step on the call has come to this round's scan
abbrev pub invariant-rounds : goal.invariant-rounds
invariant-rounds g l = Runs (Some (B.Dequeue l.fn.start l.fn.turns)) l.fn.seat
    (Goes (R.Dequeue l.fn.start l.left (P.ScanHead l.ends 0))) l.seat

abbrev pub decreases-rounds : goal.decreases-rounds
decreases-rounds g l = l.left
