-- The call is that of the pass, with the start and the rounds of the handle.
use Rattle.std.proofs.Common.{ℕ, refl, subst}
use Rattle.kfifo_live.specs.declared.handle.TheConstants.{MAX_TURNS}
use Rattle.kfifo_live.specs.declared.payload.Taken.{Taken}
use Rattle.kfifo_live.specs.Calls.{IsDisturbed}
use Rattle.kfifo_live.specs.Payloads.{TakesOut}
use Rattle.kfifo_live.specs.Handles.{PayHandleView}
use Rattle.kfifo_live.proofs.Handled.{turns_enough}
use Rattle.kfifo_live.proofs.payload.handle.PayHandle.take.Goals as goal

pub returns-clause-takes : goal.returns-clause-takes
returns-clause-takes g c =
    subst (λ (h : PayHandleView g.row.T.Denot). TakesOut h.take_start MAX_TURNS c.take.result h.pass c.take.new.self)
    c.self.view_is
    (subst (λ (start : ℕ). TakesOut start MAX_TURNS c.take.result c.self.inside.pass c.take.new.self)
    c.next-start.ensures.start c.take.ensures.takes)

pub returns-clause-busy : goal.returns-clause-busy
returns-clause-busy g c is =
    let takes = subst (λ (x : Taken g.row.T.Denot). TakesOut c.next-start.result MAX_TURNS x c.self.inside.pass
    c.take.new.self) is
    c.take.ensures.takes in
    subst (λ (h : PayHandleView g.row.T.Denot). IsDisturbed h.pass.pass c.take.new.self.pass) c.self.view_is
    (takes.1.call.disturbed refl (turns_enough c.self.inside.pass.pass.opened.shape))
