-- The call is that of the pass, with the start and the rounds of the handle.
use Rattle.std.proofs.Common.{ℕ, refl, subst}
use Rattle.kfifo_live.specs.declared.handle.TheConstants.{MAX_TURNS}
use Rattle.kfifo_live.specs.declared.payload.Given.{Given}
use Rattle.kfifo_live.specs.Calls.{IsDisturbed}
use Rattle.kfifo_live.specs.Payloads.{Gives}
use Rattle.kfifo_live.specs.Handles.{PayHandleView}
use Rattle.kfifo_live.proofs.Handled.{turns_enough}
use Rattle.kfifo_live.proofs.payload.handle.PayHandle.give.Goals as goal

pub returns-clause-gives : goal.returns-clause-gives
returns-clause-gives g c =
    subst (λ (h : PayHandleView g.row.T.Denot). Gives h.give_start MAX_TURNS c.args.payload c.give.result h.pass
    c.give.new.self)
    c.self.view_is
    (subst (λ (start : ℕ). Gives start MAX_TURNS c.args.payload c.give.result c.self.inside.pass c.give.new.self)
    c.next-start.ensures.start c.give.ensures.gives)

pub returns-clause-busy : goal.returns-clause-busy
returns-clause-busy g c back is =
    let gives = subst (λ (x : Given g.row.T.Denot). Gives c.next-start.result MAX_TURNS c.args.payload x
    c.self.inside.pass c.give.new.self)
    is c.give.ensures.gives in
    subst (λ (h : PayHandleView g.row.T.Denot). IsDisturbed h.pass.pass c.give.new.self.pass) c.self.view_is
    (gives.enqueue.call.disturbed refl (turns_enough c.self.inside.pass.pass.opened.shape))
