-- The call is that of the pass, with the start and the rounds of the handle.
use Rattle.std.proofs.Common.{ℕ, subst}
use Rattle.kfifo_machine.specs.declared.event.Begin.TheVariants as B
use Rattle.kfifo_live.specs.Calls.{IsDisturbed, MakesCall}
use Rattle.kfifo_live.specs.Handles.{HandleView}
use Rattle.kfifo_live.specs.declared.handle.TheConstants.{MAX_TURNS}
use Rattle.kfifo_live.proofs.Handled.{turns_enough}
use Rattle.kfifo_live.proofs.handle.Handle.enqueue.Goals as goal

pub returns-clause-call : goal.returns-clause-call
returns-clause-call c =
    subst (λ (h : HandleView). MakesCall (B.Enqueue c.args.item h.enqueue_start MAX_TURNS) c.enqueue.result h.pass
    c.enqueue.new.self)
    c.self.view_is
    (subst (λ (start : ℕ). MakesCall (B.Enqueue c.args.item start MAX_TURNS) c.enqueue.result c.self.inside.pass
    c.enqueue.new.self)
    c.next-start.ensures.start c.enqueue.ensures.call)

pub returns-clause-busy : goal.returns-clause-busy
returns-clause-busy c is =
    subst (λ (h : HandleView). IsDisturbed h.pass c.enqueue.new.self) c.self.view_is
    (c.enqueue.ensures.call.disturbed is (turns_enough c.self.inside.pass.opened.shape))
