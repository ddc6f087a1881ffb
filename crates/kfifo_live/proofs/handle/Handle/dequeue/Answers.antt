-- The call is that of the pass, with the start and the rounds of the handle.
use Rattle.std.proofs.Common.{ℕ, subst}
use Rattle.kfifo_machine.specs.declared.event.Begin.TheVariants as B
use Rattle.kfifo_live.specs.Calls.{IsDisturbed, MakesCall}
use Rattle.kfifo_live.specs.Handles.{HandleView}
use Rattle.kfifo_live.specs.declared.handle.TheConstants.{MAX_TURNS}
use Rattle.kfifo_live.proofs.Handled.{turns_enough}
use Rattle.kfifo_live.proofs.handle.Handle.dequeue.Goals as goal

pub returns-clause-call : goal.returns-clause-call
returns-clause-call c =
    subst (λ (h : HandleView). MakesCall (B.Dequeue h.dequeue_start MAX_TURNS) c.dequeue.result h.pass
    c.dequeue.new.self)
    c.self.view_is
    (subst (λ (start : ℕ). MakesCall (B.Dequeue start MAX_TURNS) c.dequeue.result c.self.inside.pass c.dequeue.new.self)
    c.next-start.ensures.start c.dequeue.ensures.call)

pub returns-clause-busy : goal.returns-clause-busy
returns-clause-busy c is =
    subst (λ (h : HandleView). IsDisturbed h.pass c.dequeue.new.self) c.self.view_is
    (c.dequeue.ensures.call.disturbed is (turns_enough c.self.inside.pass.opened.shape))
