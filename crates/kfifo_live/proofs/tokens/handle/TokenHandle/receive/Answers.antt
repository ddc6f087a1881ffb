-- The call is that of the pass, with the start and the rounds of the handle.
use Rattle.std.proofs.Common.{ℕ, refl, subst}
use Rattle.kfifo_live.specs.declared.handle.TheConstants.{MAX_TURNS}
use Rattle.kfifo_live.specs.declared.payload.token.Received.{Received}
use Rattle.kfifo_live.specs.Calls.{IsDisturbed}
use Rattle.kfifo_live.specs.Tokens.{ReceivesWith, TokenHandleView}
use Rattle.kfifo_live.proofs.Handled.{turns_enough}
use Rattle.kfifo_live.proofs.tokens.handle.TokenHandle.receive.Goals as goal

pub returns-clause-receives : goal.returns-clause-receives
returns-clause-receives g c =
    subst (λ (h : TokenHandleView g.row.T.Denot). ReceivesWith h.take_start MAX_TURNS c.receive.result h.pass
    c.receive.new.self)
    c.self.view_is
    (subst (λ (start : ℕ). ReceivesWith start MAX_TURNS c.receive.result c.self.inside.pass c.receive.new.self)
    c.next-start.ensures.start c.receive.ensures.receives)

pub returns-clause-busy : goal.returns-clause-busy
returns-clause-busy g c is =
    let receives =
    subst (λ (x : Received g.row.T.Denot). ReceivesWith c.next-start.result MAX_TURNS x c.self.inside.pass
    c.receive.new.self) is c.receive.ensures.receives in
    subst (λ (h : TokenHandleView g.row.T.Denot). IsDisturbed h.pass.pass c.receive.new.self.pass) c.self.view_is
    (receives.0.call.disturbed refl (turns_enough c.self.inside.pass.pass.opened.shape))
